-- Runs of a line, over any kind of state.
use Rattle.std.specs.Prelude.{List, [], ◌∷◌}
use Rattle.calls.specs.declared.call.Call.{Call}
use Rattle.calls.specs.Answers.{Answer}
use Rattle.sharing.specs.Histories.{History}

-- a run with the history h led from a fresh state to x
abbrev pub Led : {X : Type 0} → (X → Type 0) → (X → Call → Answer → X → Type 0) → History → X → Type 0
Led fresh steps [] x = fresh x
Led {X} fresh steps (event ∷ h) x = (before : X) × Led fresh steps h before × steps before event.call event.answer x

-- h with these calls and their answers added, one after the other
abbrev pub extended : History → List Call → List Answer → History
extended h [] answers = h
extended h (call ∷ calls) [] = h
extended h (call ∷ calls) (answer ∷ answers) = extended (record { call = call; answer = answer } ∷ h) calls answers
