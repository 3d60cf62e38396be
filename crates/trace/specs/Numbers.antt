-- Decimal numbers of 32 bits, and why an octet string is none.
use Rattle.std.specs.Prelude.{ℕ, ◌+◌, ◌-◌, ◌*◌, Bool, false, cond, ◌&&◌, List, [], ◌∷◌, Ok, Err, Result, ◌==◌, nat_le, nat_lt}
use Rattle.std.specs.List.{list_all}
use Rattle.trace.specs.declared.number.NumberFault.{NumberFault}
use Rattle.trace.specs.declared.number.NumberFault.TheVariants.{Empty, StrayOctet, LeadingZero, TooLarge}

abbrev pub is_digit : ℕ → Bool
is_digit c = nat_le 48 c && nat_le c 57

abbrev pub all_digits : List ℕ → Bool
all_digits cs = list_all is_digit cs

-- what the digits are worth after n
abbrev pub value_after : ℕ → List ℕ → ℕ
value_after n [] = n
value_after n (c ∷ cs) = value_after (n * 10 + (c - 48)) cs

abbrev pub value : List ℕ → ℕ
value cs = value_after 0 cs

-- a 0 with something behind it
abbrev pub leading_zero : List ℕ → Bool
leading_zero [] = false
leading_zero (c ∷ []) = false
leading_zero (c ∷ d ∷ cs) = c == 48

abbrev pub in_range : ℕ → Result ℕ NumberFault
in_range n = cond (nat_lt n 4294967296) (Ok n) (Err TooLarge)

-- digits only, and no larger than 32 bits hold
abbrev pub read_digits : List ℕ → Result ℕ NumberFault
read_digits cs = cond (all_digits cs) (in_range (value cs)) (Err StrayOctet)

-- the checks in their order: empty, a stray octet, a leading zero, too large
abbrev pub read_number : List ℕ → Result ℕ NumberFault
read_number [] = Err Empty
read_number (c ∷ cs) = cond (leading_zero (c ∷ cs)) (cond (all_digits (c ∷ cs)) (Err LeadingZero) (Err StrayOctet)) (read_digits (c ∷ cs))
