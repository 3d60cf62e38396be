-- The tags that a list of entries stands for.
use Rattle.std.specs.Prelude.{◌≡◌, ℕ, ◌≤◌, false, List, [], ◌∷◌, map, length, replicate, is_some, Some, None, Option, slice_get, ◌==◌, refl}
use Rattle.std.proofs.Common.{sym, ap, subst, ◌∙◌, ⊎_elim, arith}
use Rattle.std.proofs.lemmas.List.FromFn.{fill_by_all}
use Rattle.std.proofs.lemmas.List.{get_or_past, get_or-replicate}
use Rattle.std.proofs.lemmas.List.Sums.{sum_by-cons}
use Rattle.std.proofs.lemmas.Bool.{cases_lt, cases_Bool, eqb-true, cond-true, cond-false}
use Rattle.ready.specs.Order.{Entry, AtMost}
use Rattle.ready.specs.Tags.{Tags, tag_of, no_entries, entry_count}
use Rattle.ready.specs.Least.{IsLeast}
use Rattle.ready.specs.Entries.{entry_at, is_entry, occurrences, tag_is, EachOnce, Lists}
use Rattle.ready.specs.Heaps.{HeapOrdered, tag_among, tags_of}
use Rattle.ready.specs.Leasts.{none_some, same_some}
use Rattle.ready.specs.Places.{top_least}
use Rattle.ready.specs.Counts.{bit, and_false, is_itself, tag_is_one, tag_from_one, once_tag, once_place}

-- the tag of a session, by the number of its entries
tag_counted : (es : List Entry) (t s : ℕ) → tag_among s es ≡ Some t → 1 ≤ occurrences t s es
tag_counted [] t s h = absurd (none_some t h)
tag_counted (e ∷ es) t s h =
    let more = sum_by-cons (λ x. bit (is_entry t s x)) e es in
    ⊎_elim
    (λ y.
    let tag = same_some e.0 t (sym (cond-true (e.1 == s) (Some e.0) (tag_among s es) y) ∙ h) in
    let session = eqb-true e.1 s y in
    let here : bit (is_entry t s e) ≡ 1 = (λ i. bit (is_entry (sym tag i) (sym session i) e)) ∙ is_itself e in
    omega (arith, more))
    (λ n. omega (arith, more, tag_counted es t s (sym (cond-false (e.1 == s) (Some e.0) (tag_among s es) n) ∙ h)))
    (cases_Bool (e.1 == s))

tag_uncounted : (es : List Entry) (t s : ℕ) → tag_among s es ≡ None → occurrences t s es ≡ 0
tag_uncounted [] t s h = refl
tag_uncounted (e ∷ es) t s h =
    let more = sum_by-cons (λ x. bit (is_entry t s x)) e es in
    ⊎_elim
    (λ y. absurd (none_some e.0 (sym h ∙ cond-true (e.1 == s) (Some e.0) (tag_among s es) y)))
    (λ n. omega (arith, more, and_false (e.0 == t) (e.1 == s) n, tag_uncounted es t s (sym (cond-false (e.1 == s) (Some e.0) (tag_among s es) n) ∙ h)))
    (cases_Bool (e.1 == s))

same_tag : (o w : Option ℕ) → ((t : ℕ) → o ≡ Some t → 1 ≤ tag_is w t) → (o ≡ None → (t : ℕ) → tag_is w t ≡ 0) → o ≡ w
same_tag None None p q = refl
same_tag None (Some u) p q = absurd (omega (arith, q refl u, tag_is_one (Some u) u refl))
same_tag (Some t) w p q = sym (tag_from_one w t (p t refl))

-- entries that are those of xs, each once, stand for xs
pub tags_from_once : (es : List Entry) (xs : Tags) → length xs ≡ 64 → EachOnce es xs → tags_of es ≡ xs
unfolding tags_of
tags_from_once es xs wide h = sym (fill_by_all (λ s. tag_among s es) xs 64 None wide
    (λ s l. sym (same_tag (tag_among s es) (tag_of xs s) (λ t e. subst (λ (n : ℕ). 1 ≤ n) (h t s) (tag_counted es t s e)) (λ e t. sym (h t s) ∙ tag_uncounted es t s e))))

-- the first entry of a heap is the least
pub first_is_least : (es : List Entry) (xs : Tags) → HeapOrdered 1 (length es) es → EachOnce es xs → IsLeast xs (slice_get es 0)
first_is_least [] xs ordered h = λ s t o. let r = once_place [] xs h t s o in omega arith
first_is_least (e ∷ es) xs ordered h = (
  once_tag (e ∷ es) xs h 0 (omega arith),
  λ s t o. let r = once_place (e ∷ es) xs h t s o in subst (AtMost e) r.2 (top_least (entry_at (e ∷ es)) (length (e ∷ es)) ordered r.0 r.1),
)

-- no entries
no_tag : (s : ℕ) → tag_of no_entries s ≡ None
no_tag s = ⊎_elim (λ l. get_or-replicate 64 s None None l) (λ p. get_or_past no_entries s None p) (cases_lt s 64)

pub empty_tags : tags_of [] ≡ no_entries
unfolding tags_of
empty_tags = refl

pub empty_once : EachOnce [] (tags_of [])
unfolding tags_of
empty_once = λ t s. ap (λ (o : Option ℕ). tag_is o t) (sym (no_tag s))

pub empty_counted : 0 ≡ entry_count (tags_of [])
unfolding tags_of
empty_counted = refl

pub empty_lists : Lists [] (tags_of [])
empty_lists = record { once = empty_once; count = empty_counted }

pub empty_marked : replicate 64 false ≡ map is_some (tags_of [])
unfolding tags_of
empty_marked = refl
