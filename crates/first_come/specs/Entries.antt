-- The entries of a ring.
use Rattle.std.specs.Prelude.{◌≡◌, ℕ, zero, suc, ◌+◌, ◌%◌, ◌<◌, List, [], ◌∷◌, ◌++◌, length, slice_index, slice_set}
use Rattle.std.proofs.Common.{sym, ap, ◌∙◌, arith}
use Rattle.std.proofs.lemmas.List.{get_or-set_same, get_or-set_other}
use Rattle.first_come.specs.Rings.{entries}

-- a number that is written behind the last of n entries is the last of n + 1
pub entries_append :
    (numbers : List ℕ) (s place : ℕ) → length numbers ≡ 256 → (n head : ℕ) → head < 256 → n < 256 → place ≡ (head + n) % 256 →
    entries (slice_set numbers place s) head (suc n) ≡ entries numbers head n ++ s ∷ []
entries_append numbers s place all zero head low few is =
    let here : place ≡ head = omega arith in
    ap (λ k. slice_index (slice_set numbers place s) k ∷ []) (sym here) ∙ ap (λ k. k ∷ []) (get_or-set_same numbers place s 0 (omega arith))
entries_append numbers s place all (suc n) head low few is =
    let other : head ≡ place → ⊥ = λ e. omega arith in
    let next : place ≡ ((head + 1) % 256 + n) % 256 = omega arith in
    ap (λ k. k ∷ entries (slice_set numbers place s) ((head + 1) % 256) (suc n)) (get_or-set_other numbers place head s 0 other)
    ∙ ap (λ ks. slice_index numbers head ∷ ks) (entries_append numbers s place all n ((head + 1) % 256) (omega arith) (omega arith) next)
