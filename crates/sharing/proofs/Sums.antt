-- Sums over the sessions.
use Rattle.std.proofs.Common.{◌≡◌, ℕ, zero, suc, ◌+◌, ◌*◌, ◌<◌, ◌≤◌, ◌⊎◌, refl, subst, inl, inr, arith}
use Rattle.std.proofs.lemmas.Bool.{cases_lt}
use Rattle.calls.specs.Sums.{sum_below}

pub sum_le : (n : ℕ) (f g : ℕ → ℕ) → ((k : ℕ) → f k ≤ g k) → sum_below n f ≤ sum_below n g
unfolding sum_below
sum_le zero f g le = omega arith
sum_le (suc n) f g le = omega (arith, sum_le n f g le, le n)

-- with c to spare at i
pub sum_spare : (n i c : ℕ) (f g : ℕ → ℕ) → ((k : ℕ) → f k ≤ g k) → f i + c ≤ g i → i < n → sum_below n f + c ≤ sum_below n g
unfolding sum_below
sum_spare zero i c f g le at h = omega arith
sum_spare (suc n) i c f g le at h = go (cases_lt i n) (sum_spare n i c f g le at)
  where
    go : (i < n) ⊎ (n ≤ i) → (i < n → sum_below n f + c ≤ sum_below n g) → sum_below n f + f n + c ≤ sum_below n g + g n
    go (inl l) less = omega (arith, less l, le n)
    go (inr l) less = let e : i ≡ n = omega arith in omega (arith, sum_le n f g le, subst (λ m. f m + c ≤ g m) e at)

pub sum_add : (n : ℕ) (f g : ℕ → ℕ) → sum_below n (λ k. f k + g k) ≡ sum_below n f + sum_below n g
unfolding sum_below
sum_add zero f g = refl
sum_add (suc n) f g = omega (arith, sum_add n f g)

pub sum_times : (n a : ℕ) (f : ℕ → ℕ) → sum_below n (λ k. a * f k) ≡ a * sum_below n f
unfolding sum_below
sum_times zero a f = omega arith
sum_times (suc n) a f = omega (arith, sum_times n a f)

pub term_le_sum : (n i : ℕ) (f : ℕ → ℕ) → i < n → f i ≤ sum_below n f
term_le_sum n i f h = omega (arith, sum_spare n i (f i) (λ k. 0) f (λ k. omega arith) (omega arith) h)
