-- A run that goes on.
use Rattle.std.proofs.Common.{◌≡◌, ℕ, ◌+◌, ◌<◌, List, ◌++◌, length, get_or, take, set, Ok, Err, Result, subst}
use Rattle.calls.specs.declared.call.Call.{Call}
use Rattle.calls.specs.Answers.{Answer}
use Rattle.calls.specs.declared.refusal.Refusal.{Refusal}
use Rattle.sharing.specs.Histories.{History}
use Rattle.sharing.specs.Meanings.{Meaning}
use Rattle.sharing.specs.Runs.{Led, extended}
use Rattle.sharing.proofs.Runs.{extended_more, led_keeps, led_before}
use Rattle.discipline.specs.Continues.{RunEffect}

module _ {X : Type 0} (fresh : X → Type 0) (steps : X → Call → Answer → X → Type 0) where
  -- one call more is one step more
  pub led_more : (sound : X → Type 0) → ((x : X) → fresh x → sound x) → ((x y : X) (c : Call) (a : Answer) → sound x → steps x c a y → sound y) →
      (h : History) (calls : List Call) (answers : List Answer) (i : ℕ) (call : Call) (answer : Answer) (x y : X) → i < length calls →
      i < length answers → (sound x → steps x (get_or calls i call) answer y) → Led fresh steps (extended h (take i calls) answers) x →
      Led fresh steps (extended h (take (i + 1) calls) (set answers i answer)) y
  led_more sound begins keeps h calls answers i call answer x y within room step led =
      rw (extended_more h calls answers i call answer within room) (x, led, step (led_keeps fresh steps sound begins keeps _ x led))

  -- what holds at the end of every run holds at every moment of one
  pub at_moments : (meaning : X → Meaning) (Q : History → Meaning → Type 0) → ((h : History) (x : X) → Led fresh steps h x → Q h (meaning x)) →
      (h : History) (x : X) → Led fresh steps h x → (since before : History) → h ≡ since ++ before →
      (z : X) × Led fresh steps before z × Q before (meaning z)
  at_moments meaning Q holds h x led since before cut =
      let earlier = led_before fresh steps since before x (subst (λ k. Led fresh steps k x) cut led) in
      (earlier.0, earlier.1, holds before earlier.0 earlier.1)

  -- and where a run goes on
  pub effect_with : (meaning : X → Meaning) (P Q : History → Meaning → Type 0) → ((h : History) (x : X) → Led fresh steps h x → Q h (meaning x)) →
      (calls : List Call) (before after : List Answer) (x y : X) (r : Result ℕ Refusal) → RunEffect fresh steps meaning P calls before after x y r →
      RunEffect fresh steps meaning Q calls before after x y r
  effect_with meaning P Q holds calls before after x y (Ok count) run =
      record {
        led = run.led;
        holds = λ h began. holds (extended h calls after) y (run.led h began);
        moments = λ h began. at_moments meaning Q holds (extended h calls after) y (run.led h began);
        beyond = run.beyond;
      }
  effect_with meaning P Q holds calls before after x y (Err reason) same = same
