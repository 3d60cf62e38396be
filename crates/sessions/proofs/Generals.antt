-- How the general step of a line follows from the contracts. `tell` makes an answer of what a call returned.
use Rattle.std.proofs.Common.{◌≡◌, ℕ, List, ◌∷◌, is_some, Some, None, Ok, Err, Option, Result, sym, refl, ◌∙◌, subst}
use Rattle.calls.specs.declared.call.Packet.{Packet}
use Rattle.calls.specs.declared.call.Service.{Service}
use Rattle.calls.specs.declared.call.Call.{Call}
use Rattle.calls.specs.declared.call.Call.TheVariants.{Open, Enter, Start, Finish}
use Rattle.calls.specs.Answers.{Answer}
use Rattle.calls.specs.declared.call.Reply.TheVariants.{Opened, Entered, Started, Finished}
use Rattle.calls.specs.declared.refusal.Refusal.{Refusal}
use Rattle.calls.specs.declared.refusal.Refusal.TheVariants.{NothingInService}
use Rattle.sharing.specs.Rules.{finish_refusal}
use Rattle.sharing.specs.Meanings.{Meaning, General, waiting_in, after_open, after_enter}
use Rattle.sharing.specs.Meanings.General.{opens, enters, starts, finishes, refuses}
use Rattle.sessions.specs.Verdicts.{verdict, settled, why_start, why_finish, after_take, served, finish_answer, after_served}

-- a refusal is told as one
abbrev pub TellsRefusals : {A : Type 0} → (Result A Refusal → Answer) → Type 0
TellsRefusals tell = (e : Refusal) → tell (Err e) ≡ Err e

-- why a start is refused, or whose first packet it takes
abbrev pub Chosen : Meaning → Result Service Refusal → Type 0
Chosen x (Ok service) = (why_start x ≡ None) × ((rest : List Packet) × (waiting_in x service.session ≡ service.packet ∷ rest))
Chosen x (Err e) = why_start x ≡ Some e

module _ (x y : Meaning) (a : Answer) where
  pub general_open :
      (tell : Result (Unit {0}) Refusal → Answer) → TellsRefusals tell → tell (Ok (tt {0})) ≡ Ok Opened →
      (why : Option Refusal) (s weight limit : ℕ) → a ≡ tell (verdict why (tt {0})) → y ≡ settled why x (after_open x s weight limit) →
      General x why y (Open s weight limit) a
  general_open tell refused ok None s weight limit is to =
      subst (General x None y (Open s weight limit)) (sym (is ∙ ok)) (opens refl to)
  general_open tell refused ok (Some e) s weight limit is to =
      subst (General x (Some e) y (Open s weight limit)) (sym (is ∙ refused e)) (refuses refl to)

  pub general_enter :
      (tell : Result ℕ Refusal → Answer) → TellsRefusals tell → (mark : ℕ) → tell (Ok mark) ≡ Ok (Entered mark) →
      (why : Option Refusal) (s length ticket : ℕ) → a ≡ tell (verdict why mark) →
      y ≡ settled why x (after_enter x s (record { length = length; ticket = ticket; mark = mark })) →
      General x why y (Enter s length ticket) a
  general_enter tell refused mark ok None s length ticket is to =
      subst (General x None y (Enter s length ticket)) (sym (is ∙ ok)) (enters refl to)
  general_enter tell refused mark ok (Some e) s length ticket is to =
      subst (General x (Some e) y (Enter s length ticket)) (sym (is ∙ refused e)) (refuses refl to)

  module _ (tell : Result Service Refusal → Answer) (refused : TellsRefusals tell) where
    pub general_start :
        ((service : Service) → tell (Ok service) ≡ Ok (Started service)) →
        (r : Result Service Refusal) → Chosen x r → a ≡ tell r → y ≡ after_take x r → General x (why_start x) y Start a
    general_start ok (Ok service) chosen is to =
        subst (General x (why_start x) y Start) (sym (is ∙ ok service)) (starts chosen.0 chosen.1.1 to)
    general_start ok (Err e) chosen is to =
        subst (General x (why_start x) y Start) (sym (is ∙ refused e)) (refuses chosen to)

    finish_by :
        ((service : Service) → tell (Ok service) ≡ Ok (Finished service)) →
        (o : Option Service) → x.in_service ≡ o → a ≡ tell (served o) → y ≡ after_served x (served o) →
        General x (finish_refusal (is_some o)) y Finish a
    finish_by ok None idle is to =
        subst (General x (Some NothingInService) y Finish) (sym (is ∙ refused NothingInService)) (refuses refl to)
    finish_by ok (Some service) busy is to =
        subst (General x None y Finish) (sym (is ∙ ok service)) (finishes refl busy to)

    pub general_finish :
        ((service : Service) → tell (Ok service) ≡ Ok (Finished service)) →
        a ≡ tell (finish_answer x) → y ≡ after_served x (finish_answer x) → General x (why_finish x) y Finish a
    general_finish ok = finish_by ok x.in_service refl

-- a refused call leaves the meaning
pub refused_leaves : {x y : Meaning} {why : Option Refusal} {call : Call} {e : Refusal} → General x why y call (Err e) → y ≡ x
refused_leaves (refuses is to) = to
