-- Calls in a row by the exact rule.
use Rattle.std.specs.Prelude.{List, [], ◌∷◌}
use Rattle.calls.specs.declared.call.Call.{Call}
use Rattle.calls.specs.Answers.{Answer}
use Rattle.sharing.specs.Clocked.{Clocked}
use Rattle.sharing.specs.Meanings.{nothing_open}
use Rattle.self_clocked.specs.Exact.{answer_to, after}

-- the line that every new one is: nothing open, the clock and every last mark at 0
abbrev pub new_line : Clocked
new_line = record { meaning = nothing_open; clock = 0; last = λ s. 0 }

-- what the calls are answered, one after the other
abbrev pub answers_to : Clocked → List Call → List Answer
answers_to x [] = []
answers_to x (call ∷ calls) = answer_to x call ∷ answers_to (after x call) calls

-- the state that they leave
abbrev pub after_calls : Clocked → List Call → Clocked
after_calls x [] = x
after_calls x (call ∷ calls) = after_calls (after x call) calls
