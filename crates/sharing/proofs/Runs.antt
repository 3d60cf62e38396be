-- Runs, over any kind of state.
use Rattle.std.proofs.Common.{◌≡◌, ℕ, zero, suc, ◌+◌, ◌<◌, List, [], ◌∷◌, ◌++◌, length, get_or, take, set, refl, le_of_suc-le-suc, not-suc-le-zero, add-one}
use Rattle.calls.specs.declared.call.Call.{Call}
use Rattle.calls.specs.Answers.{Answer}
use Rattle.sharing.specs.Histories.{History}
use Rattle.sharing.specs.Runs.{Led, extended}

module _ {X : Type 0} (fresh : X → Type 0) (steps : X → Call → Answer → X → Type 0) where
  -- what every step keeps holds at the end of a run
  pub led_keeps : (sound : X → Type 0) → ((x : X) → fresh x → sound x) →
      ((x y : X) (c : Call) (a : Answer) → sound x → steps x c a y → sound y) → (h : History) (x : X) → Led fresh steps h x → sound x
  led_keeps sound begins keeps [] x led = begins x led
  led_keeps sound begins keeps (e ∷ h) x led = keeps led.0 x e.call e.answer (led_keeps sound begins keeps h led.0 led.1) led.2

  -- a run is a run of what its states mean
  pub led_along : {Y : Type 0} (start : Y → Type 0) (moves : Y → Call → Answer → Y → Type 0) (meaning : X → Y) (sound : X → Type 0) →
      ((x : X) → fresh x → sound x) → ((x y : X) (c : Call) (a : Answer) → sound x → steps x c a y → sound y) →
      ((x : X) → fresh x → start (meaning x)) → ((x y : X) (c : Call) (a : Answer) → sound x → steps x c a y → moves (meaning x) c a (meaning y)) →
      (h : History) (x : X) → Led fresh steps h x → Led start moves h (meaning x)
  led_along start moves meaning sound begins keeps starts does [] x led = starts x led
  led_along start moves meaning sound begins keeps starts does (e ∷ h) x led = (
    meaning led.0,
    led_along start moves meaning sound begins keeps starts does h led.0 led.1,
    does led.0 x e.call e.answer (led_keeps sound begins keeps h led.0 led.1) led.2,
  )

  -- an earlier moment of a run
  pub led_before : (since h : History) (x : X) → Led fresh steps (since ++ h) x → (y : X) × Led fresh steps h y
  led_before [] h x led = (x, led)
  led_before (e ∷ since) h x led = led_before since h led.0 led.1

-- one more call with its answer
extended_suc : (h : History) (calls : List Call) (answers : List Answer) (i : ℕ) (call : Call) (answer : Answer) → i < length calls → i < length answers →
    extended h (take (suc i) calls) (set answers i answer) ≡ record { call = get_or calls i call; answer = answer } ∷ extended h (take i calls) answers
extended_suc h [] answers i call answer within room = absurd (not-suc-le-zero within)
extended_suc h (c ∷ calls) [] i call answer within room = absurd (not-suc-le-zero room)
extended_suc h (c ∷ calls) (a ∷ answers) zero call answer within room = refl
extended_suc h (c ∷ calls) (a ∷ answers) (suc i) call answer within room =
    extended_suc (record { call = c; answer = a } ∷ h) calls answers i call answer (le_of_suc-le-suc within) (le_of_suc-le-suc room)

pub extended_more : (h : History) (calls : List Call) (answers : List Answer) (i : ℕ) (call : Call) (answer : Answer) → i < length calls →
    i < length answers →
    extended h (take (i + 1) calls) (set answers i answer) ≡ record { call = get_or calls i call; answer = answer } ∷ extended h (take i calls) answers
extended_more h calls answers i call answer within room = rw add-one (extended_suc h calls answers i call answer within room)
