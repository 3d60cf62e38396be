-- A number and its decimal text belong to each other.
use Rattle.std.proofs.Common.{◌≡◌, ℕ, ◌^◌, ◌<◌, Bool, true, false, cond, ltb, List, [], ◌∷◌, length, get_or, Ok, Err, decimal, Result, sym, refl, ap, ◌∙◌, ⊎_elim, arith, rules}
use Rattle.std.proofs.lemmas.Fmt.{decimal_digit, decimal_nonempty, first_decimal, digits_decimal, digits_value-decimal, decimal-digits_value}
use Rattle.std.proofs.lemmas.Str.Parse.{IsNumeralModel, numerals_by_fold}
use Rattle.std.proofs.lemmas.Bool.{ltb-true, lt-ltb, ne_eqb, eqb-false, cases_lt}
use Rattle.trace.specs.declared.number.NumberFault.{NumberFault}
use Rattle.trace.specs.declared.number.NumberFault.TheVariants.{StrayOctet, LeadingZero, TooLarge}
use Rattle.trace.specs.Laws.{NumbersHaveOneText}
use Rattle.trace.specs.Numbers.{all_digits, value_after, value, leading_zero, read_number}

pub own : IsNumeralModel (λ ds. all_digits ds ≡ true) value
own = numerals_by_fold _ (search rules) value_after (search rules)

-- a zero in front stands alone
abbrev Alone : List ℕ → Type 0
Alone ds = get_or ds 0 0 ≡ 48 → length ds ≡ 1

no_leading_zero : (ds : List ℕ) → Alone ds → leading_zero ds ≡ false
no_leading_zero [] alone = refl
no_leading_zero (c ∷ []) alone = refl
no_leading_zero (c ∷ d ∷ cs) alone =
    ne_eqb c 48 (λ e. let one : length (c ∷ d ∷ cs) ≡ 1 = alone e in omega arith)

zero_alone : (ds : List ℕ) → leading_zero ds ≡ false → 0 < length ds → Alone ds
zero_alone [] none some e = omega arith
zero_alone (c ∷ []) none some e = refl
zero_alone (c ∷ d ∷ cs) none some e = absurd (eqb-false c 48 none e)

decimal_alone : (n : ℕ) → n < 2 ^ 64 → Alone (decimal n)
decimal_alone n fits e =
    ⊎_elim (λ pos. let no : ⊥ = omega (arith, first_decimal n pos fits) in absurd no) (λ zero. ap length (decimal_digit n (omega arith))) (cases_lt 0 n)

-- what is decided by three tests
decided : Bool → Bool → Bool → ℕ → Result ℕ NumberFault
decided zero digits small v = cond zero (cond digits (Err LeadingZero) (Err StrayOctet)) (cond digits (cond small (Ok v) (Err TooLarge)) (Err StrayOctet))

by_tests : (c : ℕ) (cs : List ℕ) → read_number (c ∷ cs) ≡ decided (leading_zero (c ∷ cs)) (all_digits (c ∷ cs)) (ltb (value (c ∷ cs)) 4294967296) (value (c ∷ cs))
unfolding decided
by_tests c cs = refl

pub reads : (ds : List ℕ) → 0 < length ds → all_digits ds ≡ true → leading_zero ds ≡ false → value ds < 4294967296 → read_number ds ≡ Ok (value ds)
unfolding decided
reads [] some digits zero small = let no : ⊥ = omega arith in absurd no
reads (c ∷ cs) some digits zero small =
    by_tests c cs ∙ (λ i. decided (zero i) (digits i) (lt-ltb (value (c ∷ cs)) 4294967296 small i) (value (c ∷ cs)))

record Told (ds : List ℕ) (n : ℕ) : Type 0 where
  some : 0 < length ds
  digits : all_digits ds ≡ true
  zero : leading_zero ds ≡ false
  small : value ds < 4294967296
  same : value ds ≡ n

told : (ds : List ℕ) (n : ℕ) → read_number ds ≡ Ok n → Told ds n
unfolding decided
told [] n e = let z : ◌≡◌ {A = ℕ} 0 1 = cc in let no : ⊥ = omega arith in absurd no
told (c ∷ cs) n e = go (leading_zero (c ∷ cs)) (all_digits (c ∷ cs)) (ltb (value (c ∷ cs)) 4294967296) refl refl refl (sym (by_tests c cs) ∙ e)
  where
    go : (z d s : Bool) → leading_zero (c ∷ cs) ≡ z → all_digits (c ∷ cs) ≡ d → ltb (value (c ∷ cs)) 4294967296 ≡ s →
        decided z d s (value (c ∷ cs)) ≡ Ok n → Told (c ∷ cs) n
    go true true s p q r f = let z : ◌≡◌ {A = ℕ} 0 1 = cc in let no : ⊥ = omega arith in absurd no
    go true false s p q r f = let z : ◌≡◌ {A = ℕ} 0 1 = cc in let no : ⊥ = omega arith in absurd no
    go false false s p q r f = let z : ◌≡◌ {A = ℕ} 0 1 = cc in let no : ⊥ = omega arith in absurd no
    go false true false p q r f = let z : ◌≡◌ {A = ℕ} 0 1 = cc in let no : ⊥ = omega arith in absurd no
    go false true true p q r f = record { some = omega arith; digits = q; zero = p; small = ltb-true (value (c ∷ cs)) 4294967296 r; same = cc }

pub reads_back : (n : ℕ) → n < 2 ^ 32 → read_number (decimal n) ≡ Ok n
reads_back n small =
    let fits : n < 2 ^ 64 = omega arith in
    let worth : value (decimal n) ≡ n = digits_value-decimal own n fits in
    reads (decimal n) (decimal_nonempty n fits) (digits_decimal own n fits) (no_leading_zero (decimal n) (decimal_alone n fits)) (omega arith)
    ∙ ap Ok worth

only_so : (text : List ℕ) (n : ℕ) → read_number text ≡ Ok n → text ≡ decimal n
only_so text n e =
    let t = told text n e in
    let small : value text < 4294967296 = t.small in
    sym (decimal-digits_value own text t.digits t.some (zero_alone text t.zero t.some) (omega arith)) ∙ ap decimal t.same

pub numbers_have_one_text : NumbersHaveOneText
numbers_have_one_text =
    record {
      reads_back = reads_back;
      only_so = only_so;
      same_text = λ text other n e f. only_so text n e ∙ sym (only_so other n f);
    }
