use Rattle.std.proofs.Common.{subst}
use Rattle.sharing.specs.Statements.{Fair, OrderPreserved}
use Rattle.sharing.proofs.Fairness.{runs_share}
use Rattle.discipline.proofs.Runs.{effect_with}
use Rattle.discipline.proofs.run.run_self_clocked.Goals as goal

pub returns : goal.returns
returns g c =
    let d = g.D.Discipline in
    let met = g.met.D.Discipline in
    let clocked-met = g.met.D.SelfClockedDiscipline in
    record {
      answer = c.run.ensures.answer;
      effect =
          effect_with d.fresh d.steps d.meaning OrderPreserved Fair
          (λ h x led.
          subst (Fair h) (clocked-met.clocked_meaning x)
          (runs_share d.fresh d.sound d.steps g.D.SelfClockedDiscipline.clocked met.begins met.keeps clocked-met.clocked_new
          clocked-met.clocked_steps h x led))
          c.args.calls.now c.args.answers.now c.run.new.answers c.args.line.now c.run.new.line c.run.result
          c.run.ensures.effect;
      made = c.run.ensures.made;
    }
