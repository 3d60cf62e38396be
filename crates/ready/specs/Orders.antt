-- The order of entries is total. What follows is all that other proofs use of it.
use Rattle.std.specs.Prelude.{◌≡◌, false, ◌≢◌}
use Rattle.std.proofs.Common.{⊎_elim, arith}
use Rattle.std.proofs.lemmas.Bool.{cases_Bool}
use Rattle.std.proofs.lemmas.Bool.Decides.{nat_tests}
use Rattle.ready.specs.Order.{Entry, at_most, AtMost, Before}

pub at_most_same : (a : Entry) → AtMost a a
at_most_same a = grind (arith, nat_tests)

pub at_most_through : (a b c : Entry) → AtMost a b → AtMost b c → AtMost a c
at_most_through a b c p q = grind (arith, nat_tests)

-- one of two comes first
pub at_most_other : (a b : Entry) → at_most a b ≡ false → AtMost b a
at_most_other a b n = grind (arith, nat_tests)

-- and only one, unless they are the same
same_parts : (a b : Entry) → AtMost a b → AtMost b a → (a.0 ≡ b.0) × (a.1 ≡ b.1)
same_parts a b p q = (grind (arith, nat_tests), grind (arith, nat_tests))

pub at_most_both : (a b : Entry) → AtMost a b → AtMost b a → a ≡ b
at_most_both a b p q = let same = same_parts a b p q in λ i. (same.0 i, same.1 i)

pub before_other : (a b : Entry) → AtMost a b → (a ≢ b) → Before a b
before_other a b p ne = ⊎_elim (λ q. absurd (ne (at_most_both a b p q))) (λ n. n) (cases_Bool (at_most b a))
