use Rattle.std.proofs.Common.{cond, eqb, replicate, sym, refl, ap, ◌∙◌, subst}
use Rattle.sharing.specs.Meanings.{all_waiting}
use Rattle.sharing.specs.Clocked.{while_waiting}
use Rattle.sessions.specs.declared.state.Sessions.{Sessions}
use Rattle.sessions.specs.Meanings.{meaning_of}
use Rattle.self_clocked.specs.Exact.{Sound}
use Rattle.self_clocked.specs.States.{state}
use Rattle.self_clocked.specs.Calls.{step_finished}
use Rattle.self_clocked.proofs.line.as_discipline.SelfClockedAnyDiscipline.finish.Goals as goal

pub returns : goal.returns
returns g c = λ ok.
    let x = c.args.self.now in
    let y = c.reset_if_empty.new.self in
    let tags = g.R.ReadyLine.tags in
    let same = c.reset_if_empty.ensures.sessions in
    let done = c.in_ok-service.ensures in
    step_finished (tags y.ready) (state x) (meaning_of y.sessions) x.lasts y.lasts y.clock c.in_ok-service.service refl done.answer
    (ap meaning_of same ∙ done.after)
    (c.reset_if_empty.ensures.clock ∙ ap (λ (v : Sessions). while_waiting (meaning_of v) x.clock) (sym same))
    (c.reset_if_empty.ensures.lasts ∙ ap (λ (v : Sessions). cond (eqb (all_waiting (meaning_of v)) 0) (replicate 64 0) x.lasts) (sym same))
    (subst (λ r. Sound (tags r) (state x)) (sym c.reset_if_empty.ensures.ready) ok)
