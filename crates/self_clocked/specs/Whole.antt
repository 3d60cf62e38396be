-- Whole runs, from a new line on.
use Rattle.std.specs.Prelude.{◌≡◌, ℕ, List, [], ◌++◌, length, drop, Ok, Err, Result}
use Rattle.calls.specs.declared.call.Call.{Call}
use Rattle.calls.specs.Answers.{Answer}
use Rattle.calls.specs.declared.refusal.Refusal.{Refusal}
use Rattle.discipline.specs.Caps.{cap_refusal, StepUnder}
use Rattle.sharing.specs.Histories.{History}
use Rattle.sharing.specs.Runs.{Led, extended}
use Rattle.sharing.specs.Statements.{Fair}
use Rattle.sharing.specs.Clocked.{Clocked, New}

-- the calls and their answers are the history of a run by these steps from a new line to this one, and the three statements hold of it; answers
-- beyond those of the calls are as they were
pub record RunBy (steps : Clocked → Call → Answer → Clocked → Type 0) (calls : List Call) (before after : List Answer) : Type 0 where
  pub line : Clocked
  pub led : Led New steps (extended [] calls after) line
  pub fair : Fair (extended [] calls after) line.meaning
  -- and so they do at every moment of it, with the state that the line then had
  pub moments : (since so_far : History) → extended [] calls after ≡ since ++ so_far →
      (x : Clocked) × Led New steps so_far x × Fair so_far x.meaning
  pub beyond : drop (length calls) after ≡ drop (length calls) before

-- a run that is refused changes no answer
abbrev pub WholeRun : (Clocked → Call → Answer → Clocked → Type 0) → List Call → List Answer → List Answer → Result ℕ Refusal → Type 0
WholeRun steps calls before after (Ok count) = RunBy steps calls before after
WholeRun steps calls before after (Err reason) = after ≡ before

-- ---- under caps

-- a step under a cap: a call that the cap refuses changes nothing, any other is a step of what is below it
abbrev pub Capped : ℕ → (Clocked → Call → Answer → Clocked → Type 0) → Clocked → Call → Answer → Clocked → Type 0
Capped number steps x call answer y = StepUnder (cap_refusal number x.meaning call) steps x call answer y

-- the calls and their answers are the history of a run by these steps from a new line
abbrev pub LedBy : (Clocked → Call → Answer → Clocked → Type 0) → List Call → List Answer → Result ℕ Refusal → Type 0
LedBy steps calls after (Ok count) = (x : Clocked) × Led New steps (extended [] calls after) x
LedBy steps calls after (Err reason) = Unit {0}
