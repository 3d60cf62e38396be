-- What the exported call answers: a count, or the number of a refusal with a minus sign.
use Rattle.std.specs.Prelude.{ℕ, ℤ, pos, neg_ℤ, Ok, Err, Result}
use Rattle.calls.specs.Refusals.{refusal_number}
use Rattle.calls.specs.declared.refusal.Refusal.{Refusal}

abbrev pub signed_answer : Result ℕ Refusal → ℤ
signed_answer (Ok count) = pos count
signed_answer (Err reason) = neg_ℤ (pos (refusal_number reason))
