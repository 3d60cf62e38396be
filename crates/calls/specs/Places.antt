-- The places of the sessions in a table.
use Rattle.std.specs.Prelude.{ℕ, cond, Ok, Err, Result, nat_lt}
use Rattle.calls.specs.declared.refusal.Refusal.{Refusal}
use Rattle.calls.specs.declared.refusal.Refusal.TheVariants.{NoSuchSession}

-- the place of a session in a table of 64: a session above 63 has none
abbrev pub place_answer : ℕ → Result ℕ Refusal
place_answer s = cond (nat_lt s 64) (Ok s) (Err NoSuchSession)
