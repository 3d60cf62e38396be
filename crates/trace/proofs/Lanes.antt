-- What the bits of a comparison with a separator say of the octets.
use Rattle.std.proofs.Common.{◌≡◌, ℕ, zero, suc, ◌+◌, ◌-◌, ◌<◌, ◌≤◌, Bool, true, false, cond, not, eqb, ◌⊎◌, List, [], ◌∷◌, map, length, get_or, take, drop, sym, refl, ap, ◌∙◌, subst, inl, inr, ⊎_elim, one-add, arith}
use lib.Count.{count_trailing_zeros}
use lib.Lanes.{mask_l}
use Rattle.std.specs.List.{prefix_len}
use Rattle.std.proofs.lemmas.Simd.{leading_from_mask_l, trailing_mask_l}
use Rattle.std.proofs.lemmas.List.{get_or-take, get_or-drop, take_rest, length-take-le, length-drop}
use Rattle.std.proofs.lemmas.List.Sums.{prefix_len-le-length}
use Rattle.std.proofs.lemmas.Bool.{cases_lt, cases_Bool, eqb-true, eqb-false}

-- how many octets stand before the first separator
abbrev before : ℕ → List ℕ → ℕ
before s xs = prefix_len (λ x. not (eqb x s)) xs

pub record First (s : ℕ) (xs : List ℕ) (k : ℕ) : Type 0 where
  pub none : (j : ℕ) → j < k → get_or xs j 0 ≡ s → ⊥
  pub here : k < length xs → get_or xs k 0 ≡ s

first_from : (s x k : ℕ) (xs : List ℕ) → (x ≡ s → ⊥) → First s xs k → First s (x ∷ xs) (suc k)
first_from s x k xs ne f =
    record { none = λ j less is. go j less is; here = λ less. f.here (omega arith) }
  where
    go : (j : ℕ) → j < suc k → get_or (x ∷ xs) j 0 ≡ s → ⊥
    go zero less is = ne is
    go (suc j) less is = f.none j (omega arith) is

before_first : (s : ℕ) (xs : List ℕ) → First s xs (before s xs)
before_first s [] = record { none = λ j less is. omega arith; here = λ less. absurd (let no : ⊥ = omega arith in no) }
before_first s (x ∷ xs) = go (cases_Bool (eqb x s)) (before_first s xs)
  where
    go : (eqb x s ≡ true) ⊎ (eqb x s ≡ false) → First s xs (before s xs) → First s (x ∷ xs) (before s (x ∷ xs))
    go (inl is) rest =
        subst (First s (x ∷ xs)) (sym (ap (λ b. cond (not b) (1 + before s xs) 0) is))
        (record { none = λ j less e. omega arith; here = λ less. eqb-true x s is })
    go (inr not_is) rest =
        subst (First s (x ∷ xs)) (sym (ap (λ b. cond (not b) (1 + before s xs) 0) not_is ∙ one-add (before s xs)))
        (first_from s x (before s xs) xs (eqb-false x s not_is) rest)

-- where every octet stands before it no bit is set
none_set : (s : ℕ) (xs : List ℕ) → before s xs ≡ length xs → mask_l (map (λ x. eqb x s) xs) ≡ 0
none_set s [] e = refl
none_set s (x ∷ xs) e = go (cases_Bool (eqb x s)) (none_set s xs)
  where
    go : (eqb x s ≡ true) ⊎ (eqb x s ≡ false) → (before s xs ≡ length xs → mask_l (map (λ x. eqb x s) xs) ≡ 0) → mask_l (map (λ x. eqb x s) (x ∷ xs)) ≡ 0
    go (inl is) rest = let no : ⊥ = omega (arith, ap (λ (b : Bool). cond {A = ℕ} (not b) (1 + before s xs) 0) is) in absurd no
    go (inr not_is) rest =
        let less : before s xs ≡ length xs = omega (arith, ap (λ (b : Bool). cond {A = ℕ} (not b) (1 + before s xs) 0) not_is) in
        omega (arith, rest less, ap (λ (b : Bool). cond {A = ℕ} b 1 0) not_is)

-- 16 octets from a place on
module _ (s : ℕ) (xs : List ℕ) (p : ℕ) (room : p + 16 ≤ length xs) (passed : (k : ℕ) → k < p → get_or xs k 0 ≡ s → ⊥) where
  abbrev window : List ℕ
  window = take 16 (take (length xs - p) (drop p xs))

  window_is : window ≡ take 16 (drop p xs)
  window_is = ap (take 16) (take_rest xs p)

  window_long : length window ≡ 16
  window_long = ap length window_is ∙ length-take-le 16 (drop p xs) (omega (arith, length-drop p xs))

  window_at : (j : ℕ) → j < 16 → get_or window j 0 ≡ get_or xs (p + j) 0
  window_at j less = ap (λ ys. get_or ys j 0) window_is ∙ get_or-take 16 (drop p xs) j 0 less ∙ get_or-drop p xs j 0

  -- the octets before p, and then those of the window before k
  none_before : (k : ℕ) → k ≤ 16 → ((j : ℕ) → j < k → get_or window j 0 ≡ s → ⊥) → (i : ℕ) → i < p + k → get_or xs i 0 ≡ s → ⊥
  none_before k most none i less is = ⊎_elim (λ low. passed i low is) (λ high. later high) (cases_lt i p)
    where
      later : p ≤ i → ⊥
      later high =
          let j : ℕ = i - p in
          let at : p + j ≡ i = omega arith in
          none j (omega arith) (window_at j (omega arith) ∙ ap (λ n. get_or xs n 0) at ∙ is)

  module _ (mask : ℕ) (is : mask ≡ mask_l (map (λ x. eqb x s) window)) where
    pub none_in : mask ≡ 0 → (i : ℕ) → i < p + 16 → get_or xs i 0 ≡ s → ⊥
    none_in zero_is =
        let all : before s window ≡ 16 = leading_from_mask_l (λ x. eqb x s) window (sym is ∙ zero_is) ∙ window_long in
        none_before 16 (omega arith) (subst (λ k. (j : ℕ) → j < k → get_or window j 0 ≡ s → ⊥) all (before_first s window).none)

    some_before : 0 < mask → before s window < 16
    some_before some = ⊎_elim (λ less. less) (λ more. absurd (no more)) (cases_lt (before s window) 16)
      where
        no : 16 ≤ before s window → ⊥
        no more =
            let all : before s window ≡ length window = omega (arith, prefix_len-le-length (λ x. not (eqb x s)) window, window_long) in
            omega (arith, none_set s window all)

    trailing_is : 0 < mask → count_trailing_zeros 64 mask ≡ before s window
    trailing_is some = ap (count_trailing_zeros 64) is ∙ trailing_mask_l (λ x. eqb x s) 64 window (omega (arith, window_long)) (omega (arith, is))

    pub first_within : 0 < mask → count_trailing_zeros 64 mask < 16
    first_within some = omega (arith, trailing_is some, some_before some)

    pub none_ahead : 0 < mask → (i : ℕ) → i < p + count_trailing_zeros 64 mask → get_or xs i 0 ≡ s → ⊥
    none_ahead some =
        subst (λ k. (i : ℕ) → i < p + k → get_or xs i 0 ≡ s → ⊥) (sym (trailing_is some))
        (none_before (before s window) (omega (arith, some_before some)) (before_first s window).none)

    pub first_here : 0 < mask → get_or xs (p + count_trailing_zeros 64 mask) 0 ≡ s
    first_here some =
        subst (λ k. get_or xs (p + k) 0 ≡ s) (sym (trailing_is some))
        (sym (window_at (before s window) (some_before some)) ∙ (before_first s window).here (omega (arith, window_long, some_before some)))
