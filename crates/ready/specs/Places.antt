-- The places of a heap: in order but for one entry, which changes places with its parent or with a child. The entry at place k is f k.
use Rattle.std.specs.Prelude.{◌≡◌, ℕ, zero, suc, ◌+◌, ◌-◌, ◌*◌, ◌/◌, ◌<◌, ◌≤◌, cond, ◌≢◌}
use Rattle.std.proofs.Common.{sym, subst, ⊎_elim, arith}
use Rattle.std.proofs.lemmas.Bool.{cases_eq, cond_both}
use Rattle.ready.specs.Order.{Entry, at_most, AtMost}
use Rattle.ready.specs.Heaps.{Child}
use Rattle.ready.specs.Orders.{at_most_same, at_most_through, at_most_other}

-- the parent of j is at most each child of j
abbrev Around : (ℕ → Entry) → ℕ → ℕ → Type 0
Around f n j = (p k : ℕ) → Child p j → Child j k → k < n → AtMost (f p) (f k)

-- in order but for the entry at j, which may come before its parent
abbrev pub ExceptAbove : (ℕ → Entry) → ℕ → ℕ → Type 0
ExceptAbove f n j = ((p k : ℕ) → Child p k → k < n → (k ≢ j) → AtMost (f p) (f k)) × Around f n j

-- in order but for the entry at j, which may come after a child
abbrev pub ExceptBelow : (ℕ → Entry) → ℕ → ℕ → Type 0
ExceptBelow f n j = ((p k : ℕ) → Child p k → k < n → (p ≢ j) → AtMost (f p) (f k)) × Around f n j

-- in order
abbrev pub InOrder : (ℕ → Entry) → ℕ → Type 0
InOrder f n = (k : ℕ) → 1 ≤ k → k < n → AtMost (f ((k - 1) / 2)) (f k)

-- g is f with the entries at i and j exchanged
abbrev pub Swaps : (ℕ → Entry) → (ℕ → Entry) → ℕ → ℕ → Type 0
Swaps f g i j = (g i ≡ f j) × (g j ≡ f i) × ((m : ℕ) → (m ≢ i) → (m ≢ j) → g m ≡ f m)

module _ (f g : ℕ → Entry) (n i j : ℕ) (child : Child i j) (s : Swaps f g i j) (low : AtMost (f j) (f i)) where
  -- the entry at j changes places with its parent i
  pub above_more : j < n → ExceptAbove f n j → ExceptAbove g n i
  above_more within h = (
    λ p k c l ne. ⊎_elim
        (λ (e : k ≡ j). let q : p ≡ i = omega arith in cc (s.0, s.1, low))
        (λ ne'. let same = s.2 k ne ne' in ⊎_elim
        (λ (q : p ≡ j). let up = h.1 i k child (omega arith, omega arith) l in cc s.1)
        (λ nq. let was = h.0 p k c l ne' in ⊎_elim
        (λ (q : p ≡ i). let up = at_most_through (f j) (f i) (f k) low (cc) in cc s.0)
        (λ nq'. cc (s.2 p nq' nq))
        (cases_eq p i)) (cases_eq p j)) (cases_eq k j),
    λ p k a c l.
        let over = h.0 p i a (omega arith) (omega arith) in
        let same = s.2 p (omega arith) (omega arith) in
        ⊎_elim
        (λ (e : k ≡ j). cc s.1)
        (λ ne. let up = at_most_through (f p) (f i) (f k) over (h.0 i k c l ne) in cc (s.2 k (omega arith) ne))
        (cases_eq k j),
  )

  -- the entry at i changes places with j, the child that comes first
  pub below_more : j < n → ((k : ℕ) → Child i k → k < n → AtMost (f j) (f k)) → ExceptBelow f n i → ExceptBelow g n j
  below_more within first h = (
    λ p k c l ne. ⊎_elim
        (λ (q : p ≡ i). ⊎_elim
        (λ (e : k ≡ j). cc (s.0, s.1))
        (λ ne'. let least = first k (omega arith, omega arith) l in cc (s.0, s.2 k (omega arith) ne'))
        (cases_eq k j))
        (λ nq. let same = s.2 p nq ne in ⊎_elim
        (λ (e : k ≡ i). let past = h.1 p j (omega arith, omega arith) child within in cc s.0)
        (λ ne'. let was = h.0 p k c l nq in cc (s.2 k ne' (omega arith)))
        (cases_eq k i)) (cases_eq p i),
    λ p k a c l. let q : p ≡ i = omega arith in let was = h.0 j k c l (omega arith) in cc (s.0, s.2 k (omega arith) (omega arith)),
  )

-- the entry is in its place once its parent is at most it, or it is at most its children
pub above_done : (f : ℕ → Entry) (n j : ℕ) → AtMost (f ((j - 1) / 2)) (f j) → ExceptAbove f n j → InOrder f n
above_done f n j low h k a b = ⊎_elim (λ (e : k ≡ j). cc) (λ ne. h.0 ((k - 1) / 2) k (omega arith, omega arith) b ne) (cases_eq k j)

pub below_done : (f : ℕ → Entry) (n j : ℕ) → ((k : ℕ) → Child j k → k < n → AtMost (f j) (f k)) → ExceptBelow f n j → InOrder f n
below_done f n j low h k a b = ⊎_elim
    (λ (e : (k - 1) / 2 ≡ j). let le = low k (omega arith, omega arith) b in cc)
    (λ ne. h.0 ((k - 1) / 2) k (omega arith, omega arith) b ne)
    (cases_eq ((k - 1) / 2) j)

-- r is the child of p whose entry comes first
abbrev FirstChild : (ℕ → Entry) → ℕ → ℕ → ℕ → Type 0
FirstChild f n p r = Child p r × (r < n) × ((k : ℕ) → Child p k → k < n → AtMost (f r) (f k))

module _ (f : ℕ → Entry) (n p : ℕ) where
  first_from : (r : ℕ) → Child p r → r < n → ((k : ℕ) → Child p k → k < n → (k ≢ r) → AtMost (f r) (f k)) → FirstChild f n p r
  first_from r child within others = (child, within, λ k c l. ⊎_elim (λ (e : k ≡ r). let same = at_most_same (f r) in cc) (λ ne. others k c l ne) (cases_eq k r))

  -- the one child
  pub first_of_one : p * 2 + 1 < n → n ≤ p * 2 + 1 + 1 → FirstChild f n p (p * 2 + 1)
  first_of_one within end = first_from (p * 2 + 1) (omega arith, omega arith) within (λ k c l ne. absurd (omega arith))

  -- of two children the one that comes first
  pub first_of_two : (r : ℕ) → p * 2 + 1 + 1 < n → r ≡ cond (at_most (f (p * 2 + 1)) (f (p * 2 + 1 + 1))) (p * 2 + 1) (p * 2 + 1 + 1) → FirstChild f n p r
  first_of_two r within is =
      let left = p * 2 + 1 in
      subst (FirstChild f n p) (sym is) (cond_both (at_most (f left) (f (left + 1))) left (left + 1) (FirstChild f n p)
      (λ y. first_from left (omega arith, omega arith) (omega arith) (λ k c l ne. let e : k ≡ left + 1 = omega arith in cc))
      (λ no. first_from (left + 1) (omega arith, omega arith) within (λ k c l ne. let e : k ≡ left = omega arith in let other = at_most_other (f left) (f (left + 1)) no in cc)))

-- the first entry is at most each
top_within : (f : ℕ → Entry) (n : ℕ) → InOrder f n → (fuel k : ℕ) → k ≤ fuel → k < n → AtMost (f 0) (f k)
top_within f n h zero k a b = let e : k ≡ 0 = omega arith in let same = at_most_same (f 0) in cc
top_within f n h (suc fuel) k a b = ⊎_elim
    (λ (e : k ≡ 0). let same = at_most_same (f 0) in cc)
    (λ ne. at_most_through (f 0) (f ((k - 1) / 2)) (f k) (top_within f n h fuel ((k - 1) / 2) (omega arith) (omega arith)) (h k (omega arith) b))
    (cases_eq k 0)

pub top_least : (f : ℕ → Entry) (n : ℕ) → InOrder f n → (k : ℕ) → k < n → AtMost (f 0) (f k)
top_least f n h k l = top_within f n h k k (omega arith) l
