use Rattle.sharing.specs.Clocked.{ClockedStep}
use Rattle.self_clocked.proofs.Wholes.{whole_run}
use Rattle.self_clocked.proofs.whole.run_new.Goals as goal

pub returns : goal.returns
returns g c =
    let d = g.D.Discipline in
    let met = g.met.D.Discipline in
    let clocked-met = g.met.D.SelfClockedDiscipline in
    record {
      answer = c.run_self_clocked.ensures.answer;
      effect =
          whole_run d.fresh d.sound d.steps d.meaning g.D.SelfClockedDiscipline.clocked ClockedStep met.begins met.keeps
          clocked-met.clocked_meaning clocked-met.clocked_new clocked-met.clocked_steps c.args.calls.now c.args.answers.now
          c.run_self_clocked.new.answers c.args.line.now c.run_self_clocked.new.line c.run_self_clocked.result c.requires
          c.run_self_clocked.ensures.effect;
      made = c.run_self_clocked.ensures.made (met.begins c.args.line.now c.requires);
    }
