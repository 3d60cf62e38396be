-- Lists of which one element changes: what holds of each element, and sums.
use Rattle.std.proofs.Common.{◌≡◌, ℕ, zero, suc, ◌+◌, ◌<◌, ◌≤◌, List, [], ◌∷◌, length, get_or, set, sum_by, sym, refl, subst, ⊎_elim, suc-le-suc, arith}
use Rattle.std.proofs.lemmas.List.{get_or-set_same, get_or-set_other}
use Rattle.std.proofs.lemmas.List.Sums.{sum_by-cons, get_or-le-sum_by}
use Rattle.std.proofs.lemmas.Bool.{cases_eq}

module _ {X : Type 0} where
  -- what holds of the new element, and of the others, holds of each
  pub each_set :
      (P : X → Type 0) (xs : List X) (s : ℕ) (y d : X) → s < length xs → P y → ((k : ℕ) → (k ≡ s → ⊥) → P (get_or xs k d)) → (k : ℕ) →
      P (get_or (set xs s y) k d)
  each_set P xs s y d within here there k =
      ⊎_elim
      (λ (e : k ≡ s). subst (λ j. P (get_or (set xs s y) j d)) (sym e) (subst P (sym (get_or-set_same xs s y d within)) here))
      (λ (ne : k ≡ s → ⊥). subst P (sym (get_or-set_other xs s k y d ne)) (there k ne))
      (cases_eq k s)

  pub sum_same : (f g : X → ℕ) (xs : List X) (d : X) → ((k : ℕ) → k < length xs → g (get_or xs k d) ≡ f (get_or xs k d)) → sum_by g xs ≡ sum_by f xs
  sum_same f g [] d same = refl
  sum_same f g (x ∷ xs) d same =
      let here : g x ≡ f x = same zero (omega arith) in
      let rest : sum_by g xs ≡ sum_by f xs = sum_same f g xs d (λ k lt. same (suc k) (suc-le-suc lt)) in
      omega (arith, sum_by-cons g x xs, sum_by-cons f x xs)

  pub sum_changed :
      (f g : X → ℕ) (xs : List X) (s : ℕ) (y d : X) → s < length xs →
      ((k : ℕ) → k < length xs → (k ≡ s → ⊥) → g (get_or xs k d) ≡ f (get_or xs k d)) → sum_by g (set xs s y) + f (get_or xs s d) ≡ sum_by f xs + g y
  sum_changed f g [] s y d within same = let no : ⊥ = omega arith in absurd no
  sum_changed f g (x ∷ xs) zero y d within same =
      let rest : sum_by g xs ≡ sum_by f xs = sum_same f g xs d (λ k lt. same (suc k) (suc-le-suc lt) (λ e. omega arith)) in
      omega (arith, sum_by-cons g y xs, sum_by-cons f x xs)
  sum_changed f g (x ∷ xs) (suc s) y d within same =
      let here : g x ≡ f x = same zero (omega arith) (λ e. omega arith) in
      let rest : sum_by g (set xs s y) + f (get_or xs s d) ≡ sum_by f xs + g y =
      sum_changed f g xs s y d (omega arith) (λ k lt ne. same (suc k) (suc-le-suc lt) (λ e. ne (omega arith)))
      in
      omega (arith, sum_by-cons g x (set xs s y), sum_by-cons f x xs)

  -- two elements are at most the sum
  pub two_of_sum :
      (f : X → ℕ) (xs : List X) (i j : ℕ) (d : X) → i < length xs → j < length xs → (i ≡ j → ⊥) →
      f (get_or xs i d) + f (get_or xs j d) ≤ sum_by f xs
  two_of_sum f [] i j d li lj ne = let no : ⊥ = omega arith in absurd no
  two_of_sum f (x ∷ xs) zero zero d li lj ne = absurd (ne refl)
  two_of_sum f (x ∷ xs) zero (suc j) d li lj ne = omega (arith, sum_by-cons f x xs, get_or-le-sum_by f xs j d (omega arith))
  two_of_sum f (x ∷ xs) (suc i) zero d li lj ne = omega (arith, sum_by-cons f x xs, get_or-le-sum_by f xs i d (omega arith))
  two_of_sum f (x ∷ xs) (suc i) (suc j) d li lj ne =
      omega (arith, sum_by-cons f x xs, two_of_sum f xs i j d (omega arith) (omega arith) (λ e. ne (omega arith)))
