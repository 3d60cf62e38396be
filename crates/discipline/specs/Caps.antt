-- Caps: how many packets of one session may wait.
use Rattle.std.specs.Prelude.{◌≡◌, ℕ, ◌-◌, min, cond, length, Some, None, Ok, Err, Option, Result}
use Rattle.calls.specs.Strides.{within}
use Rattle.calls.specs.declared.call.Call.{Call}
use Rattle.calls.specs.declared.call.Call.TheVariants.{Open, Enter, Start, Finish}
use Rattle.calls.specs.Answers.{Answer}
use Rattle.calls.specs.declared.refusal.Refusal.{Refusal}
use Rattle.calls.specs.declared.refusal.Refusal.TheVariants.{BadCap}
use Rattle.sharing.specs.Meanings.{Meaning, waiting_in, refusal}

-- the number of a cap is 1 to 256
abbrev pub cap_answer : ℕ → Result ℕ Refusal
cap_answer number = cond (within number 256) (Ok number) (Err BadCap)

-- the places of a session that the cap leaves, none where as many wait already
abbrev pub places : ℕ → Meaning → ℕ → ℕ
places number m s = number - length (waiting_in m s)

-- the room under a cap: that below it, or the places that the cap leaves, whichever is less
abbrev pub room_under : ℕ → Meaning → (ℕ → ℕ) → ℕ → ℕ
room_under number m room s = min (room s) (places number m s)

-- why the cap itself refuses a call, if it does: a packet that enters, as the rules say at the places that are left and a reach that is enough
abbrev pub cap_refusal : ℕ → Meaning → Call → Option Refusal
cap_refusal number m (Open s weight limit) = None
cap_refusal number m (Enter s length ticket) = refusal m (places number m) (λ n. length) (Enter s length ticket)
cap_refusal number m Start = None
cap_refusal number m Finish = None

-- what a check refused, if it did
abbrev pub refused_by : {A : Type 0} → Result A Refusal → Option Refusal
refused_by (Ok done) = None
refused_by (Err reason) = Some reason

-- a call that the cap refuses leaves what is below it; any other is a step of what is below it
abbrev pub StepUnder : {X : Type 0} → Option Refusal → (X → Call → Answer → X → Type 0) → X → Call → Answer → X → Type 0
StepUnder (Some reason) steps x call answer y = (answer ≡ Err reason) × (y ≡ x)
StepUnder None steps x call answer y = steps x call answer y
