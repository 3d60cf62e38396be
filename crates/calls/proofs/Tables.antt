-- The rule of the table of strides: one test, computed over the whole table, and what it says of each entry.
use Rattle.std.proofs.Common.{◌≡◌, ℕ, zero, suc, ◌+◌, ◌-◌, ◌*◌, ◌<◌, ◌≤◌, Bool, true, ◌&&◌, eqb, List, [], ◌∷◌, length, get_or, sym, refl, ap, ◌∙◌, arith}
use native.Mathlib.Nat.{div-eq_of_eq-mul_right}
use Rattle.std.proofs.lemmas.Bool.{eqb-true, and_parts}
use Rattle.calls.specs.Strides.{stride, ProductOfWeightAndStride}

-- each entry times its weight is 720720, the first weight being w
pub exact_from : ℕ → List ℕ → Bool
exact_from w [] = true
exact_from w (x ∷ xs) = eqb (w * x) 720720 && exact_from (suc w) xs

entry : (w : ℕ) (xs : List ℕ) → exact_from w xs ≡ true → (k : ℕ) → k < length xs → (w + k) * get_or xs k 0 ≡ 720720
unfolding exact_from
entry w [] t k h = let no : ⊥ = omega arith in absurd no
entry w (x ∷ xs) t zero h =
    let e : w * x ≡ 720720 = eqb-true (w * x) 720720 (and_parts (eqb (w * x) 720720) (exact_from (suc w) xs) t).0 in
    omega arith
entry w (x ∷ xs) t (suc k) h =
    let e : (suc w + k) * get_or xs k 0 ≡ 720720 = entry (suc w) xs (and_parts (eqb (w * x) 720720) (exact_from (suc w) xs) t).1 k (omega arith) in
    ap (λ n. n * get_or xs k 0) (let p : w + suc k ≡ suc w + k = omega arith in p) ∙ e

-- an entry of a table that passes the test is the quotient
pub entry_is_stride : (xs : List ℕ) → exact_from 1 xs ≡ true → (w : ℕ) → 0 < w → w ≤ length xs → get_or xs (w - 1) 0 ≡ stride w
entry_is_stride xs t w pos most =
    let at : w ≡ 1 + (w - 1) = omega arith in
    let e : w * get_or xs (w - 1) 0 ≡ 720720 = ap (λ n. n * get_or xs (w - 1) 0) at ∙ entry 1 xs t (w - 1) (omega arith) in
    sym (div-eq_of_eq-mul_right pos (sym e))

-- the published strides
unfoldable pub table : List ℕ
table =
    720720 ∷ 360360 ∷ 240240 ∷ 180180 ∷ 144144 ∷ 120120 ∷ 102960 ∷ 90090 ∷ 80080 ∷ 72072 ∷ 65520 ∷ 60060 ∷ 55440 ∷ 51480 ∷ 48048 ∷ 45045 ∷ []

pub table_is_exact : exact_from 1 table ≡ true
unfolding exact_from table
table_is_exact = refl

pub weight_times_stride : ProductOfWeightAndStride 720720
unfolding table
weight_times_stride w pos most =
    let at : w ≡ 1 + (w - 1) = omega arith in
    ap (λ n. w * n) (sym (entry_is_stride table table_is_exact w pos most)) ∙ ap (λ n. n * get_or table (w - 1) 0) at ∙ entry 1 table table_is_exact (w - 1) (omega arith)
