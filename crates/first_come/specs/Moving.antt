-- Every call of a line of first come is one of the general rules.
use Rattle.std.specs.Prelude.{◌≡◌, Some, None, Option, refl}
use Rattle.std.proofs.Common.{sym, ap, subst, ◌∙◌}
use Rattle.calls.specs.declared.call.Call.{Call}
use Rattle.calls.specs.declared.call.Call.TheVariants.{Open, Enter, Start, Finish}
use Rattle.calls.specs.Answers.{Answer}
use Rattle.calls.specs.declared.refusal.Refusal.{Refusal}
use Rattle.sharing.specs.Meanings.{General}
use Rattle.discipline.specs.Answers.{opened, entered, started, finished}
use Rattle.sessions.specs.Meanings.{meaning_of}
use Rattle.sessions.specs.Verdicts.{settled, why_start}
use Rattle.sessions.proofs.Generals.{Chosen, general_open, general_enter, general_start, general_finish}
use Rattle.first_come.specs.declared.line.FirstCome.{FirstCome}
use Rattle.first_come.specs.Models.{Model, Exact, why, unmarked, appended, start_answer}
use Rattle.first_come.specs.States.{model_of}
use Rattle.first_come.specs.Stepping.{start_refused, start_chosen}

settled_meaning : (reason : Option Refusal) (x y : Model) → (settled reason x y).meaning ≡ settled reason x.meaning y.meaning
settled_meaning None x y = refl
settled_meaning (Some e) x y = refl

chosen_by : (x : FirstCome) (reason : Option Refusal) → why_start (meaning_of x.sessions) ≡ reason → Chosen (meaning_of x.sessions) (start_answer (model_of x))
chosen_by x None is = start_chosen x is
chosen_by x (Some e) is = subst (Chosen (meaning_of x.sessions)) (sym (start_refused x e is)) is

pub exact_moves : (x : FirstCome) (y : Model) (call : Call) (a : Answer) → Exact (model_of x) call a y →
    General (meaning_of x.sessions) (why (meaning_of x.sessions) call) y.meaning call a
exact_moves x y (Open s weight limit) a step =
    general_open (meaning_of x.sessions) y.meaning a opened (λ e. refl) refl (why (meaning_of x.sessions) (Open s weight limit)) s weight limit
    step.answers (ap (λ z. z.meaning) step.becomes)
exact_moves x y (Enter s length ticket) a step =
    let reason = why (meaning_of x.sessions) (Enter s length ticket) in
    general_enter (meaning_of x.sessions) y.meaning a entered (λ e. refl) 0 refl reason s length ticket step.answers
    (ap (λ z. z.meaning) step.becomes ∙ settled_meaning reason (model_of x) (appended (model_of x) s (unmarked length ticket)))
exact_moves x y Start a step =
    general_start (meaning_of x.sessions) y.meaning a started (λ e. refl) (λ v. refl) (start_answer (model_of x))
    (chosen_by x (why_start (meaning_of x.sessions)) refl) step.answers (ap (λ z. z.meaning) step.becomes)
exact_moves x y Finish a step =
    general_finish (meaning_of x.sessions) y.meaning a finished (λ e. refl) (λ v. refl) step.answers (ap (λ z. z.meaning) step.becomes)
