-- What the checks of marks and reach answer.
use Rattle.std.specs.Prelude.{ℕ, max, cond, Ok, Err, Result, nat_le}
use Rattle.calls.specs.Strides.{within}
use Rattle.calls.specs.declared.refusal.Refusal.{Refusal}
use Rattle.calls.specs.declared.refusal.Refusal.TheVariants.{BadWeight, OutOfReach}
use Rattle.sharing.specs.Rules.{mark_from, ceiling, reach_from}

-- a mark above the ceiling is not given
abbrev pub under_ceiling : ℕ → Result ℕ Refusal
under_ceiling mark = cond (nat_le mark ceiling) (Ok mark) (Err OutOfReach)

-- a weight is 1 to 16
abbrev pub mark_answer_from : ℕ → ℕ → ℕ → Result ℕ Refusal
mark_answer_from base length weight = cond (within weight 16) (under_ceiling (mark_from base length weight)) (Err BadWeight)

abbrev pub reach_answer_from : ℕ → ℕ → Result ℕ Refusal
reach_answer_from base weight = cond (within weight 16) (Ok (reach_from base weight)) (Err BadWeight)

-- the base is the last mark of the session or the clock, whichever is larger
abbrev pub mark_answer : ℕ → ℕ → ℕ → ℕ → Result ℕ Refusal
mark_answer last clock length weight = mark_answer_from (max last clock) length weight

abbrev pub reach_answer_at : ℕ → ℕ → ℕ → Result ℕ Refusal
reach_answer_at last clock weight = reach_answer_from (max last clock) weight
