-- What a cap adds to why a call is refused.
use Rattle.std.specs.Prelude.{◌≡◌, ℕ, min, Some, None, Option, refl}
use Rattle.std.proofs.Common.{arith, Err}
use Rattle.std.proofs.lemmas.Bool.Decides.{nat_tests}
use Rattle.calls.specs.declared.call.Call.{Call}
use Rattle.calls.specs.declared.call.Call.TheVariants.{Open, Enter, Start, Finish}
use Rattle.calls.specs.Answers.{Answer}
use Rattle.calls.specs.declared.refusal.Refusal.{Refusal}
use Rattle.sharing.specs.Rules.{enter_refusal}
use Rattle.sharing.specs.Meanings.{Meaning, General, refuses, refusal}
use Rattle.sharing.specs.Clocked as clocked
use Rattle.sharing.specs.Clocked.{Clocked, ClockedStep}
use Rattle.discipline.specs.Caps.{places, room_under, cap_refusal, StepUnder}

-- a packet that is refused at the places that are left is refused so at the room too
refused_at : (limit : Option ℕ) (left room reach s length : ℕ) (reason : Refusal) → enter_refusal limit left length s length ≡ Some reason →
    enter_refusal limit (min room left) reach s length ≡ Some reason
refused_at None left room reach s length reason is = grind (arith, nat_tests)
refused_at (Some limit) left room reach s length reason is = grind (arith, nat_tests)

-- and the places do not matter to any other
passed_at : (limit : Option ℕ) (left room reach s length : ℕ) → enter_refusal limit left length s length ≡ None →
    enter_refusal limit (min room left) reach s length ≡ enter_refusal limit room reach s length
passed_at None left room reach s length is = grind (arith, nat_tests)
passed_at (Some limit) left room reach s length is = grind (arith, nat_tests)

-- the cap's reason to refuse is that of the rules
pub refused_under : (number : ℕ) (m : Meaning) (room reach : ℕ → ℕ) (call : Call) (reason : Refusal) → cap_refusal number m call ≡ Some reason →
    refusal m (room_under number m room) reach call ≡ Some reason
refused_under number m room reach (Open s weight limit) reason is = cc
refused_under number m room reach (Enter s length ticket) reason is = refused_at _ (places number m s) (room s) (reach s) s length reason is
refused_under number m room reach Start reason is = cc
refused_under number m room reach Finish reason is = cc

-- a call that the cap does not refuse is refused as it is below
pub passed_under : (number : ℕ) (m : Meaning) (room reach : ℕ → ℕ) (call : Call) → cap_refusal number m call ≡ None →
    refusal m (room_under number m room) reach call ≡ refusal m room reach call
passed_under number m room reach (Open s weight limit) is = refl
passed_under number m room reach (Enter s length ticket) is = passed_at _ (places number m s) (room s) (reach s) s length is
passed_under number m room reach Start is = refl
passed_under number m room reach Finish is = refl

-- the two kinds of step under a cap
pub step_cases : {X : Type 0} (steps : X → Call → Answer → X → Type 0) (why : Option Refusal) (x : X) (call : Call) (answer : Answer) (y : X) →
    StepUnder why steps x call answer y → (R : Type 0) → ((reason : Refusal) → why ≡ Some reason → answer ≡ Err reason → y ≡ x → R) →
    (why ≡ None → steps x call answer y → R) → R
step_cases steps (Some reason) x call answer y step R stays goes = stays reason refl step.0 step.1
step_cases steps None x call answer y step R stays goes = goes refl step

-- a refused call changes no meaning
pub general_refused : {x y : Meaning} {why : Option Refusal} {call : Call} {reason : Refusal} → General x why y call (Err reason) → y ≡ x
general_refused (refuses why same) = same

-- and is a self-clocked step that changes nothing
pub clocked_refused : (x : Clocked) (call : Call) (reason : Refusal) → ClockedStep x call (Err reason) x
clocked_refused x call reason = record {
  why = Some reason;
  allowed = λ none. let z : ◌≡◌ {A = ℕ} 0 1 = cc in absurd (omega arith);
  general = refuses refl refl;
  marks = clocked.refuses (record { clock = refl; last = refl });
}
