-- What a new entry among others leaves.
use Rattle.std.proofs.Common.{◌≡◌, ℕ, ◌+◌, ◌-◌, ◌<◌, ◌≤◌, Bool, true, false, get_or, not, List, [], ◌∷◌, ◌++◌, length, set, is_some, Some, None, Ok, sym, subst, ap, ◌∙◌, ⊎_elim, arith}
use Rattle.std.specs.List.{insert}
use Rattle.std.specs.List.Sorted.{IsPermutation, IsPartitionedBy, IsPartitionPoint}
use Rattle.std.proofs.lemmas.Bool.{cases_lt, cases_eq, not-true, not-false, not_from_false, false_from_ne_true}
use Rattle.std.proofs.lemmas.List.{get_or_default}
use Rattle.std.proofs.lemmas.List.Sorted.{IsPermutation-insert, IsPermutation-to_front, IsPermutation-trans}
use Rattle.std.proofs.lemmas.List.Edits.{length-insert, get_or-insert_below, get_or-insert_at, get_or-insert_above}
use Rattle.ready.specs.Order.{Entry, at_most, AtMost, Before}
use Rattle.ready.specs.Tags.{Tags, tag_of, no_entries, place_answer, free_answer, added}
use Rattle.ready.specs.Entries.{entry_at, Lists}
use Rattle.ready.specs.Orders.{at_most_other, at_most_through}
use Rattle.ready.specs.Counts.{bit, lists_added, lists_room}
use Rattle.ready.specs.Tables.{empty_tags, empty_lists}
use Rattle.ready.proofs.Adds.{place_is, is_free, add_leaves}
use Rattle.sorted_ready.specs.Falling.{Falling, IsSortedLine}
use Rattle.sorted_ready.proofs.Falls.{at_most_of, at_most_before}

-- the entries are those from before, and the new one
pub grown_by : (es : List Entry) (i : ℕ) (e : Entry) → IsPermutation (es ++ e ∷ []) (insert es i e)
grown_by es i e = IsPermutation-trans (es ++ e ∷ []) (e ∷ es) (insert es i e) (IsPermutation-to_front es e) (IsPermutation-insert es i e)

module _ (es : List Entry) (i : ℕ) (e : Entry) (within : i ≤ length es) where
  read_below : (k : ℕ) → k < i → entry_at (insert es i e) k ≡ entry_at es k
  read_below k l = get_or-insert_below es i e (0, 0) k l within

  read_at : (k : ℕ) → k ≡ i → entry_at (insert es i e) k ≡ e
  read_at k q = ap (entry_at (insert es i e)) q ∙ get_or-insert_at es i e (0, 0) within

  read_above : (k j : ℕ) → k ≡ j + 1 → i ≤ j → entry_at (insert es i e) k ≡ entry_at es j
  read_above k j q l = ap (entry_at (insert es i e)) q ∙ get_or-insert_above es i e (0, 0) j l within

  -- they are in order where the new one stands in its place
  pub inserted_falling : ((k : ℕ) → k < i → Before e (entry_at es k)) → (i < length es → AtMost (entry_at es i) e) → Falling es → Falling (insert es i e)
  inserted_falling before after falling k l =
      let long = length-insert es i e within in
      ⊎_elim
      (λ (low : k < i). ⊎_elim
      (λ (q : k + 1 ≡ i). at_most_of (read_at (k + 1) q) (read_below k low) (at_most_other (entry_at es k) e (before k low)))
      (λ ne. at_most_of (read_below (k + 1) (omega arith)) (read_below k low) (falling k (omega arith)))
      (cases_eq (k + 1) i))
      (λ (high : i ≤ k). ⊎_elim
      (λ (q : k ≡ i). at_most_of (read_above (k + 1) i (omega arith) (omega arith)) (read_at k q) (after (omega arith)))
      (λ ne. at_most_of (read_above (k + 1) (k - 1 + 1) (omega arith) (omega arith)) (read_above k (k - 1) (omega arith) (omega arith)) (falling (k - 1) (omega arith)))
      (cases_eq k i))
      (cases_lt k i)

-- one entry more
module _ (xs : Tags) (es : List Entry) (line : IsSortedLine xs es) (wide : length xs ≡ 64) (t s p : ℕ) (at : Ok p ≡ place_answer s) (b : Bool) (is : b ≡ is_some (tag_of xs p)) (ok : Ok tt ≡ free_answer b) where
  here : p ≡ s
  here = (place_is s p at).0

  below : s < length xs
  below = let place = place_is s p at in omega arith

  free : tag_of xs s ≡ None
  free = ap (tag_of xs) (sym here) ∙ is_free (tag_of xs p) b is ok

  pub line_room : length es < 64
  line_room = omega (arith, lists_room es xs s below free line.lists)

  pub tags_added : set xs p (Some t) ≡ added xs t s
  tags_added = ap (λ (n : ℕ). set xs n (Some t)) here ∙ sym (add_leaves xs t s (place_is s p at).1 free)

  pub line_added : (ys : List Entry) → length ys ≡ length (es ++ (t, s) ∷ []) → IsPermutation (es ++ (t, s) ∷ []) ys → Falling ys → IsSortedLine (set xs p (Some t)) ys
  line_added ys long moved falling = record {
    lists = subst (λ (n : ℕ). Lists ys (set xs n (Some t))) (sym here) (lists_added es ys xs t s below free line.lists moved);
    falling = falling;
  }

-- no entries
pub no_line : (es : List Entry) → es ≡ [] → IsSortedLine no_entries es
no_line es none = subst (IsSortedLine no_entries) (sym none) (record { lists = subst (Lists []) empty_tags empty_lists; falling = λ k l. absurd (omega arith) })

-- the entries that come after the new one stand in front
pub parted : (es : List Entry) (e : Entry) → Falling es → IsPartitionedBy (λ x. not (at_most x e)) es
parted es e falling i j d le l h = not_from_false (at_most (get_or es i d) e) (false_from_ne_true (at_most (get_or es i d) e) (λ y.
    let front : AtMost (entry_at es i) e = ap (λ (x : Entry). at_most x e) (get_or_default es i (0, 0) d (omega arith)) ∙ y in
    let back = at_most_through (entry_at es j) (entry_at es i) e (at_most_before es falling i j le l) front in
    let none : at_most (entry_at es j) e ≡ false = ap (λ (x : Entry). at_most x e) (get_or_default es j (0, 0) d l) ∙ not-true (at_most (get_or es j d) e) h in
    absurd (omega (arith, ap bit (sym back ∙ none)))))

-- and what does not, behind it
module _ (es : List Entry) (e : Entry) (i : ℕ) (point : IsPartitionPoint (λ x. not (at_most x e) ≡ true) (λ x. not (at_most x e) ≡ false) es i) where
  pub placed_before : (k : ℕ) → k < i → Before e (entry_at es k)
  placed_before k l = not-true (at_most (entry_at es k) e) (point.0 k (0, 0) (omega arith) l)

  pub placed_after : i < length es → AtMost (entry_at es i) e
  placed_after l = not-false (at_most (entry_at es i) e) (point.1 i (0, 0) (omega arith) l)
