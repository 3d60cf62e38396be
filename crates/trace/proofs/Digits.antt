-- Digits: one step of a loop over them, and numbers past the top.
use Rattle.std.proofs.Common.{◌≡◌, ℕ, ◌+◌, ◌-◌, ◌*◌, ◌<◌, ◌≤◌, min, Bool, true, false, cond, ◌&&◌, List, [], ◌∷◌, length, get_or, drop, Ok, Err, Result, sym, refl, ap, ◌∙◌, ⊎_elim, arith, le-ltb, ne_eqb}
use native.Mathlib.Nat.{min-eq_left, min-eq_right}
use Rattle.std.proofs.lemmas.List.{at_drop_more}
use Rattle.std.proofs.lemmas.Bool.{cases_lt}
use Rattle.std.proofs.lemmas.Slice.{first_rest}
use Rattle.std.specs.List.{between}
use Rattle.trace.specs.declared.number.NumberFault.{NumberFault}
use Rattle.trace.specs.declared.number.NumberFault.TheVariants.{StrayOctet, LeadingZero, TooLarge}
use Rattle.trace.specs.Numbers.{is_digit, all_digits, value_after, in_range, read_digits, read_number}

-- the digits cs, after digits that are worth n
abbrev pub read_after : ℕ → List ℕ → Result ℕ NumberFault
read_after n cs = cond (all_digits cs) (in_range (value_after n cs)) (Err StrayOctet)

first_value : (c : ℕ) → 0 * 10 + (c - 48) ≡ c - 48
first_value c = omega arith

pub read_first : (c : ℕ) (cs : List ℕ) (b : Bool) → is_digit c ≡ b → read_digits (c ∷ cs) ≡ cond b (read_after (c - 48) cs) (Err StrayOctet)
read_first c cs true e =
    ap (λ t. cond (t && all_digits cs) (in_range (value_after (0 * 10 + (c - 48)) cs)) (Err StrayOctet)) e
    ∙ ap (λ n. read_after n cs) (first_value c)
read_first c cs false e =
    ap (λ t. cond (t && all_digits cs) (in_range (value_after (0 * 10 + (c - 48)) cs)) (Err StrayOctet)) e

module _ (xs : List ℕ) (i : ℕ) (within : i < length xs) where
  read_at : (n : ℕ) (b : Bool) → is_digit (get_or xs i 0) ≡ b → read_after n (drop i xs) ≡
      cond (b && all_digits (drop (i + 1) xs)) (in_range (value_after (n * 10 + (get_or xs i 0 - 48)) (drop (i + 1) xs))) (Err StrayOctet)
  read_at n b e =
      at_drop_more (read_after n) xs i 0 within
      ∙ ap (λ t. cond (t && all_digits (drop (i + 1) xs)) (in_range (value_after (n * 10 + (get_or xs i 0 - 48)) (drop (i + 1) xs))) (Err StrayOctet)) e

  pub read_stray : (n : ℕ) → is_digit (get_or xs i 0) ≡ false → read_after n (drop i xs) ≡ Err StrayOctet
  read_stray n e = read_at n false e

  pub read_step : (n : ℕ) → is_digit (get_or xs i 0) ≡ true → read_after n (drop i xs) ≡ read_after (n * 10 + (get_or xs i 0 - 48)) (drop (i + 1) xs)
  read_step n e = read_at n true e

value_grows : (n : ℕ) (cs : List ℕ) → n ≤ value_after n cs
value_grows n [] = omega arith
value_grows n (c ∷ cs) = omega (arith, value_grows (n * 10 + (c - 48)) cs)

-- past the top the digits that follow no longer matter
past_top : (n : ℕ) (cs : List ℕ) → 4294967296 ≤ n → in_range (value_after n cs) ≡ Err TooLarge
past_top n cs h =
    ap
    (λ b. cond b (Ok (value_after n cs)) (Err TooLarge))
    (le-ltb (value_after n cs) 4294967296 (omega (arith, value_grows n cs)))

-- so a value may be held at the top
pub held : (n : ℕ) (cs : List ℕ) → read_after (min n 4294967296) cs ≡ read_after n cs
held n cs =
    ⊎_elim
    (λ below. ap (λ m. read_after m cs) (min-eq_left (omega arith)))
    (λ past. ap (λ r. cond (all_digits cs) r (Err StrayOctet))
    (ap (λ m. in_range (value_after m cs)) (min-eq_right past) ∙ past_top 4294967296 cs (omega arith) ∙ sym (past_top n cs past)))
    (cases_lt n 4294967296)

-- a text by its first octet
pub read_zero : (xs : List ℕ) → 0 < length xs → get_or xs 0 0 ≡ 48 → read_number (48 ∷ between 1 (length xs) xs) ≡ read_number xs
read_zero xs h e = ap (λ c. read_number (c ∷ between 1 (length xs) xs)) (sym e) ∙ ap read_number (sym (first_rest xs 0 h))

plain_first : (c : ℕ) (cs : List ℕ) → (c ≡ 48 → ⊥) → read_digits (c ∷ cs) ≡ read_number (c ∷ cs)
plain_first c [] ne = refl
plain_first c (d ∷ cs) ne = ap (λ b. cond b (cond (all_digits (c ∷ d ∷ cs)) (Err LeadingZero) (Err StrayOctet)) (read_digits (c ∷ d ∷ cs))) (sym (ne_eqb c 48 ne))

pub read_plain : (xs : List ℕ) → 0 < length xs → (get_or xs 0 0 ≡ 48 → ⊥) → read_digits (get_or xs 0 0 ∷ between 1 (length xs) xs) ≡ read_number xs
read_plain xs h ne = plain_first (get_or xs 0 0) (between 1 (length xs) xs) ne ∙ ap read_number (sym (first_rest xs 0 h))
