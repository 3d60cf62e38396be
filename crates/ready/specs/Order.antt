-- The order in which entries are taken: `at_most`, on which all else rests that speaks of an order.
use Rattle.std.specs.Prelude.{◌≡◌, ℕ, Bool, true, false, ◌&&◌, ◌||◌, ◌==◌, nat_le, nat_lt}

-- an entry: its tag, then its session
abbrev pub Entry : Type 0
Entry = ℕ × ℕ

-- a comes before b or is b: the smaller tag comes first, and of equal tags the smaller session
abbrev pub at_most : Entry → Entry → Bool
at_most a b = nat_lt a.0 b.0 || (a.0 == b.0 && nat_le a.1 b.1)

abbrev pub AtMost : Entry → Entry → Type 0
AtMost a b = at_most a b ≡ true

-- a comes before b and is not b
abbrev pub Before : Entry → Entry → Type 0
Before a b = at_most b a ≡ false
