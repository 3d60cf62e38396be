-- What a row of calls does to a line and to its history.
use Rattle.std.specs.Prelude.{◌≡◌, ℕ, cond, List, [], ◌++◌, length, drop, Ok, Err, Result, nat_le}
use Rattle.calls.specs.declared.call.Call.{Call}
use Rattle.calls.specs.Answers.{Answer}
use Rattle.calls.specs.declared.refusal.Refusal.{Refusal}
use Rattle.calls.specs.declared.refusal.Refusal.TheVariants.{ShortBuffer}
use Rattle.sharing.specs.Histories.{History}
use Rattle.sharing.specs.Meanings.{Meaning}
use Rattle.sharing.specs.Runs.{Led, extended}

-- every call is made, or none is
abbrev pub run_answer : List Call → List Answer → Result ℕ Refusal
run_answer calls answers = cond (nat_le (length calls) (length answers)) (Ok (length calls)) (Err ShortBuffer)

pub record Continues {X : Type 0} (fresh : X → Type 0) (steps : X → Call → Answer → X → Type 0) (meaning : X → Meaning)
    (Statement : History → Meaning → Type 0) (calls : List Call) (before after : List Answer) (x y : X) : Type 0 where
  -- whatever history led to x: with these calls and their answers added it led to y
  pub led : (h : History) → Led fresh steps h x → Led fresh steps (extended h calls after) y
  -- and the statement holds of it
  pub holds : (h : History) → Led fresh steps h x → Statement (extended h calls after) (meaning y)
  -- as it does at every moment of that history: there the line was in a state to which the history so far had led
  pub moments : (h : History) → Led fresh steps h x → (since before : History) → extended h calls after ≡ since ++ before →
      (z : X) × Led fresh steps before z × Statement before (meaning z)
  -- answers beyond those of the calls are as they were
  pub beyond : drop (length calls) after ≡ drop (length calls) before

-- what a row of calls did, by its result: a refused one nothing
abbrev pub RunEffect : {X : Type 0} → (X → Type 0) → (X → Call → Answer → X → Type 0) → (X → Meaning) → (History → Meaning → Type 0) → List Call →
    List Answer → List Answer → X → X → Result ℕ Refusal → Type 0
RunEffect fresh steps meaning Statement calls before after x y (Ok count) = Continues fresh steps meaning Statement calls before after x y
RunEffect fresh steps meaning Statement calls before after x y (Err reason) = (y ≡ x) × (after ≡ before)

-- the calls with their answers are a run by these steps from x to y; a row that is refused makes none
abbrev pub Made : {X : Type 0} → (X → Call → Answer → X → Type 0) → List Call → List Answer → X → X → Result ℕ Refusal → Type 0
Made steps calls after x y (Ok count) = Led (λ z. z ≡ x) steps (extended [] calls after) y
Made steps calls after x y (Err reason) = Unit {0}
