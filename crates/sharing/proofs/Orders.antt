-- No packet is lost, changed or overtaken by another of its session, whatever the discipline.
use Rattle.std.proofs.Common.{◌≡◌, ℕ, List, [], ◌∷◌, ◌++◌, None, Option, sym, refl, ap, ◌∙◌, subst}
use Rattle.std.proofs.lemmas.List.{append_assoc}
use Rattle.calls.specs.declared.call.Packet.{Packet}
use Rattle.calls.specs.declared.call.Call.{Call}
use Rattle.calls.specs.Answers.{Answer}
use Rattle.calls.specs.declared.refusal.Refusal.{Refusal}
use Rattle.sharing.specs.Histories.{History, accepted, finished, accepted_by, finished_by}
use Rattle.sharing.specs.Meanings.{Meaning, nothing_open, refusal, General, Allowed, RuledStep}
use Rattle.sharing.specs.Runs.{Led}
use Rattle.sharing.specs.Statements.{OrderPreserved, EveryGeneralRunKeepsOrder}
use Rattle.sharing.proofs.Pending.{pending, flows}
use Rattle.sharing.proofs.Runs.{led_along}

carried : (done before all acc fin after : List Packet) → done ++ before ≡ all → before ++ acc ≡ fin ++ after → (done ++ fin) ++ after ≡ all ++ acc
carried done before all acc fin after e f =
    append_assoc done fin after ∙ ap (λ l. done ++ l) (sym f) ∙ sym (append_assoc done before acc) ∙ ap (λ l. l ++ acc) e

pub order_new : (m : Meaning) → m ≡ nothing_open → OrderPreserved [] m
order_new m new = subst (λ k. OrderPreserved [] k) (sym new) (λ s. refl)

pub order_step : (h : History) (x y : Meaning) (why : Option Refusal) (c : Call) (a : Answer) → (why ≡ None → Allowed x c) → General x why y c a →
    OrderPreserved h x → OrderPreserved (record { call = c; answer = a } ∷ h) y
order_step h x y why c a allowed step order s =
    carried (finished s h) (pending x s) (accepted s h) (accepted_by s c a) (finished_by s a) (pending y s) (order s) (flows x why y allowed step s)

pub general_runs_keep_order : EveryGeneralRunKeepsOrder
general_runs_keep_order [] m led = order_new m led
general_runs_keep_order (e ∷ h) m led =
    let step = led.2 in
    order_step h led.0 m _ e.call e.answer (λ none. (step.0, step.1, none)) step.2 (general_runs_keep_order h led.0 led.1)

-- the same of any state with a meaning whose steps are general ones
pub runs_keep_order : {X : Type 0} (fresh sound : X → Type 0) (steps : X → Call → Answer → X → Type 0) (meaning : X → Meaning) (room reach : X → ℕ → ℕ) →
    ((x : X) → fresh x → sound x) → ((x y : X) (c : Call) (a : Answer) → sound x → steps x c a y → sound y) →
    ((x : X) → fresh x → meaning x ≡ nothing_open) →
    ((x y : X) (c : Call) (a : Answer) → sound x → steps x c a y → General (meaning x) (refusal (meaning x) (room x) (reach x) c) (meaning y) c a) →
    (h : History) (x : X) → Led fresh steps h x → OrderPreserved h (meaning x)
runs_keep_order fresh sound steps meaning room reach begins keeps empty moves h x led =
    general_runs_keep_order h (meaning x)
    (led_along fresh steps (λ m. m ≡ nothing_open) RuledStep meaning sound begins keeps empty (λ x y c a s t. (room x, reach x, moves x y c a s t)) h x led)
