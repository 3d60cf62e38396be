-- A row of calls on a new line is a whole run.
use Rattle.std.proofs.Common.{◌≡◌, ℕ, List, [], Some, None, Ok, Err, Option, Result, sym, ap, ◌∙◌, subst}
use Rattle.calls.specs.declared.call.Call.{Call}
use Rattle.calls.specs.Answers.{Answer}
use Rattle.calls.specs.declared.refusal.Refusal.{Refusal}
use Rattle.sharing.specs.Meanings.{Meaning}
use Rattle.sharing.specs.Clocked.{Clocked, New}
use Rattle.sharing.specs.Runs.{extended}
use Rattle.sharing.specs.Statements.{Fair}
use Rattle.sharing.proofs.Runs.{led_along}
use Rattle.ready.specs.Tags.{Tags}
use Rattle.sessions.specs.Meanings.{meaning_of}
use Rattle.discipline.specs.Continues.{RunEffect, Made}
use Rattle.discipline.specs.Caps.{cap_refusal, StepUnder}
use Rattle.discipline.specs.declared.cap.Cap.{Cap}
use Rattle.self_clocked.specs.declared.line.SelfClocked.{SelfClocked}
use Rattle.self_clocked.specs.Exact.{Exact, Sound}
use Rattle.self_clocked.specs.States.{state}
use Rattle.self_clocked.specs.Whole.{WholeRun, Capped, LedBy}

pub whole_run : {X : Type 0} (fresh sound : X → Type 0) (steps : X → Call → Answer → X → Type 0) (meaning : X → Meaning) (clocked : X → Clocked)
    (moves : Clocked → Call → Answer → Clocked → Type 0) → ((x : X) → fresh x → sound x) →
    ((x y : X) (c : Call) (a : Answer) → sound x → steps x c a y → sound y) → ((x : X) → (clocked x).meaning ≡ meaning x) →
    ((x : X) → fresh x → New (clocked x)) → ((x y : X) (c : Call) (a : Answer) → sound x → steps x c a y → moves (clocked x) c a (clocked y)) →
    (calls : List Call) (before after : List Answer) (x y : X) (r : Result ℕ Refusal) → fresh x → RunEffect fresh steps meaning Fair calls before after x y r →
    WholeRun moves calls before after r
whole_run fresh sound steps meaning clocked moves begins keeps same new does calls before after x y (Ok count) began run =
    record {
      line = clocked y;
      led = led_along fresh steps New moves clocked sound begins keeps new does (extended [] calls after) y (run.led [] began);
      fair = subst (Fair (extended [] calls after)) (sym (same y)) (run.holds [] began);
      moments = λ since so_far cut.
          let m = run.moments [] began since so_far cut in (
            clocked m.0,
            led_along fresh steps New moves clocked sound begins keeps new does so_far m.0 m.1,
            subst (Fair so_far) (sym (same m.0)) m.2,
          );
      beyond = run.beyond;
    }
whole_run fresh sound steps meaning clocked moves begins keeps same new does calls before after x y (Err reason) began run = run.1

-- ---- under two caps

under : {X Y : Type 0} (f : X → Y) (steps : X → Call → Answer → X → Type 0) (moves : Y → Call → Answer → Y → Type 0) (o : Option Refusal) (x y : X) (c : Call)
    (a : Answer) → (steps x c a y → moves (f x) c a (f y)) → StepUnder o steps x c a y → StepUnder o moves (f x) c a (f y)
under f steps moves None x y c a does s = does s
under f steps moves (Some reason) x y c a does s = (s.0, ap f s.1)

-- what a step under a cap leaves as it was
under_same : {X : Type 0} {N : Type 0} (f : X → N) (steps : X → Call → Answer → X → Type 0) (o : Option Refusal) (x y : X) (c : Call) (a : Answer) →
    (steps x c a y → f y ≡ f x) → StepUnder o steps x c a y → f y ≡ f x
under_same f steps None x y c a keeps s = keeps s
under_same f steps (Some reason) x y c a keeps s = ap f s.1

module _ {R : Type 0} (tags : R → Tags) where
  abbrev pub line_steps : SelfClocked R → Call → Answer → SelfClocked R → Type 0
  line_steps x c a y = Exact (state x) c a (state y) × Sound (tags y.ready) (state y)

  abbrev pub inner_steps : Cap (SelfClocked R) → Call → Answer → Cap (SelfClocked R) → Type 0
  inner_steps x c a y = (y.cap ≡ x.cap) × StepUnder (cap_refusal x.cap.number (meaning_of x.below.sessions) c) line_steps x.below c a y.below

  abbrev pub outer_steps : Cap (Cap (SelfClocked R)) → Call → Answer → Cap (Cap (SelfClocked R)) → Type 0
  outer_steps x c a y = (y.cap ≡ x.cap) × StepUnder (cap_refusal x.cap.number (meaning_of x.below.below.sessions) c) inner_steps x.below c a y.below

  module _ (inner outer : ℕ) where
    -- the two caps
    Caps : Cap (Cap (SelfClocked R)) → Type 0
    Caps x = (x.cap.number ≡ outer) × (x.below.cap.number ≡ inner)

    caps_keep : (x y : Cap (Cap (SelfClocked R))) (c : Call) (a : Answer) → Caps x → outer_steps x c a y → Caps y
    unfolding Caps
    caps_keep x y c a caps step = (
      ap (λ n. n.number) step.0 ∙ caps.0,
      under_same (λ z. z.cap.number) inner_steps (cap_refusal x.cap.number (meaning_of x.below.below.sessions) c) x.below y.below c a
          (λ s. ap (λ n. n.number) s.0) step.1 ∙
          caps.1,
    )

    caps_move : (x y : Cap (Cap (SelfClocked R))) (c : Call) (a : Answer) → Caps x → outer_steps x c a y →
        Capped outer (Capped inner Exact) (state x.below.below) c a (state y.below.below)
    unfolding Caps
    caps_move x y c a caps step =
        let m = meaning_of x.below.below.sessions in
        subst (λ (n : ℕ). StepUnder (cap_refusal n m c) (Capped inner Exact) (state x.below.below) c a (state y.below.below)) caps.0
        (under (λ z. state z.below) inner_steps (Capped inner Exact) (cap_refusal x.cap.number m c) x.below y.below c a
        (λ s.
        subst (λ (n : ℕ). StepUnder (cap_refusal n m c) Exact (state x.below.below) c a (state y.below.below)) caps.1
        (under (λ z. state z) line_steps Exact (cap_refusal x.below.cap.number m c) x.below.below y.below.below c a (λ t. t.0) s.1))
        step.1)

    pub capped_run : (calls : List Call) (after : List Answer) (x y : Cap (Cap (SelfClocked R))) (r : Result ℕ Refusal) → x.cap.number ≡ outer →
        x.below.cap.number ≡ inner → New (state x.below.below) → Made outer_steps calls after x y r → LedBy (Capped outer (Capped inner Exact)) calls after r
    unfolding Caps
    capped_run calls after x y (Ok count) is-outer is-inner new made = (
      state y.below.below,
      led_along (λ z. z ≡ x) outer_steps New (Capped outer (Capped inner Exact)) (λ z. state z.below.below) Caps
          (λ z same. (ap (λ v. v.cap.number) same ∙ is-outer, ap (λ v. v.below.cap.number) same ∙ is-inner)) caps_keep
          (λ z same. subst (λ (v : Cap (Cap (SelfClocked R))). New (state v.below.below)) (sym same) new) caps_move (extended [] calls after) y made,
    )
    capped_run calls after x y (Err reason) is-outer is-inner new made = tt
