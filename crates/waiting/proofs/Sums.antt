-- Sums over the numbers below n.
use Rattle.std.proofs.Common.{◌≡◌, ℕ, zero, suc, ◌+◌, ◌<◌, ◌≤◌, refl, ap, ⊎_elim, arith}
use Rattle.std.proofs.lemmas.Bool.{cases_eq}
use Rattle.calls.specs.Sums.{sum_below}

pub sum_below_none : (n : ℕ) (f : ℕ → ℕ) → ((k : ℕ) → k < n → f k ≡ 0) → sum_below n f ≡ 0
unfolding sum_below
sum_below_none zero f none = refl
sum_below_none (suc n) f none = omega (arith, sum_below_none n f (λ k lt. none k (omega arith)), none n (omega arith))

pub sum_below_same : (n : ℕ) (f g : ℕ → ℕ) → ((k : ℕ) → k < n → g k ≡ f k) → sum_below n g ≡ sum_below n f
unfolding sum_below
sum_below_same zero f g same = refl
sum_below_same (suc n) f g same = omega (arith, sum_below_same n f g (λ k lt. same k (omega arith)), same n (omega arith))

-- one term changes
pub sum_below_changed :
    (n : ℕ) (f g : ℕ → ℕ) (s : ℕ) → s < n → ((k : ℕ) → (k ≡ s → ⊥) → g k ≡ f k) → sum_below n g + f s ≡ sum_below n f + g s
unfolding sum_below
sum_below_changed zero f g s low same = let no : ⊥ = omega arith in absurd no
sum_below_changed (suc n) f g s low same =
    ⊎_elim
    (λ (e : n ≡ s).
    let below : sum_below n g ≡ sum_below n f = sum_below_same n f g (λ k lt. same k (λ is. omega arith)) in
    let here : f n ≡ f s = ap f e in
    let there : g n ≡ g s = ap g e in
    omega arith)
    (λ (ne : n ≡ s → ⊥).
    let below : sum_below n g + f s ≡ sum_below n f + g s = sum_below_changed n f g s (omega arith) same in
    let here : g n ≡ f n = same n ne in
    omega arith)
    (cases_eq n s)

-- a term is at most the sum
pub term_within_sum : (n : ℕ) (f : ℕ → ℕ) (s : ℕ) → s < n → f s ≤ sum_below n f
unfolding sum_below
term_within_sum zero f s low = let no : ⊥ = omega arith in absurd no
term_within_sum (suc n) f s low =
    ⊎_elim
    (λ (e : n ≡ s). let here : f n ≡ f s = ap f e in omega arith)
    (λ (ne : n ≡ s → ⊥). omega (arith, term_within_sum n f s (omega arith)))
    (cases_eq n s)
