use Rattle.sessions.specs.Meanings.{meaning_of}
use Rattle.self_clocked.specs.States.{state}
use Rattle.self_clocked.specs.Calls.{step_opened}
use Rattle.self_clocked.proofs.line.as_discipline.SelfClockedAnyDiscipline.open.Goals as goal

pub returns : goal.returns
returns g c = λ ok.
    let x = c.args.self.now in
    step_opened (g.R.ReadyLine.tags x.ready) (state x) (meaning_of c.open.new.self) c.args.session c.args.weight c.args.limit c.open.result
    c.open.ensures.answer c.open.ensures.after ok
