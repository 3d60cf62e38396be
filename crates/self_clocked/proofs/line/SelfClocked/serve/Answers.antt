use Rattle.sessions.specs.Meanings.{meaning_of}
use Rattle.self_clocked.proofs.Starts.{started_ready}
use Rattle.self_clocked.proofs.line.SelfClocked.serve.Goals as goal

pub returns-clause-ready : goal.returns-clause-ready
returns-clause-ready g c = λ due.
    let x = c.args.self.now in
    started_ready (g.R.ReadyLine.tags x.ready) (meaning_of x.sessions) c.args.mark c.args.session due c.in_ok-service.service
    c.in_ok-service.ensures.answer (meaning_of c.take.new.self) c.in_ok-service.ensures.after c.first.result
    (g.R.ReadyLine.tags c.renew.new.ready) c.first.ensures c.renew.ensures.after
