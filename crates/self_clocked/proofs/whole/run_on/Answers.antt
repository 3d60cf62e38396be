use Rattle.std.proofs.Common.{refl}
use Rattle.sessions.specs.Meanings.{meaning_of}
use Rattle.self_clocked.specs.declared.line.SelfClocked.{SelfClocked}
use Rattle.self_clocked.specs.Exact.{Exact, Fresh, Sound}
use Rattle.self_clocked.specs.States.{state}
use Rattle.self_clocked.specs.Calls.{fresh_sound}
use Rattle.self_clocked.proofs.Wholes.{whole_run}
use Rattle.self_clocked.proofs.whole.run_on.Goals as goal

pub returns : goal.returns
returns g c =
    let tags = g.R.ReadyLine.tags in
    record {
      answer = c.run_self_clocked.ensures.answer;
      effect =
          whole_run {X = SelfClocked g.row.R.Denot} (λ x. Fresh (tags x.ready) (state x)) (λ x. Sound (tags x.ready) (state x))
          (λ x call a y. Exact (state x) call a (state y) × Sound (tags y.ready) (state y)) (λ x. meaning_of x.sessions) (λ x. state x) Exact
          (λ x new. fresh_sound (tags x.ready) (state x) new) (λ x y call a ok step. step.1) (λ x. refl) (λ x new. new.new)
          (λ x y call a ok step. step.0) c.args.calls.now c.args.answers.now c.run_self_clocked.new.answers c.new-line.result
          c.run_self_clocked.new.line c.run_self_clocked.result c.new-line.ensures c.run_self_clocked.ensures.effect;
    }
