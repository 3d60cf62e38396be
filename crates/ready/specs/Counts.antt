-- Counting: how often an entry stands in a list, and how many sessions have one.
use Rattle.std.specs.Prelude.{◌≡◌, ℕ, suc, ◌+◌, ◌<◌, ◌≤◌, Bool, true, false, cond, ◌&&◌, List, [], ◌∷◌, ◌++◌, length, is_some, Some, None, Option, ◌==◌, nat_eq, slice_set, refl}
use Rattle.std.proofs.Common.{sym, ap, ◌∙◌, ⊎_elim, arith}
use Rattle.std.specs.List.Sorted.{IsPermutation}
use Rattle.std.proofs.lemmas.List.{get_or-set_same, get_or-set_other, length-set, length_push}
use Rattle.std.proofs.lemmas.List.Sorted.{sum_by-IsPermutation, length_permutation}
use Rattle.std.proofs.lemmas.List.Sums.{sum_by-cons, sum_by_push, sum_by-set, get_or-le-sum_by, count_by-le-length}
use Rattle.std.proofs.lemmas.Bool.{cases_eq, cases_Bool, cond_both, cond-true, cond-false, eqb-true, eq-eqb, ne_eqb, and_parts, and_from}
use Rattle.ready.specs.Order.{Entry}
use Rattle.ready.specs.Tags.{Tags, tag_of, entry_count}
use Rattle.ready.specs.Entries.{entry_at, is_entry, occurrences, tag_is, EachOnce, SameEntries, Lists}
use Rattle.ready.specs.Leasts.{tag_within}

-- a test as a number
abbrev pub bit : Bool → ℕ
bit b = cond b 1 0

pub bit_false : (b : Bool) → b ≡ false → bit b ≡ 0
bit_false b e = ap bit e

and_true : (x y : Bool) → y ≡ true → bit (x && y) ≡ bit x
and_true true y e = ap bit e
and_true false y e = refl

pub and_false : (x y : Bool) → y ≡ false → bit (x && y) ≡ 0
and_false true y e = ap bit e
and_false false y e = refl

-- an entry is itself
pub is_itself : (e : Entry) → bit (is_entry e.0 e.1 e) ≡ 1
is_itself e = ap bit (and_from _ _ (eq-eqb e.0 e.0 refl) (eq-eqb e.1 e.1 refl))

-- the tag is t once or not at all
pub tag_is_one : (o : Option ℕ) (t : ℕ) → o ≡ Some t → tag_is o t ≡ 1
tag_is_one o t e = ap (λ (w : Option ℕ). tag_is w t) e ∙ ap bit (eq-eqb t t refl)

pub tag_from_one : (o : Option ℕ) (t : ℕ) → 1 ≤ tag_is o t → o ≡ Some t
tag_from_one None t h = absurd (omega arith)
tag_from_one (Some u) t h = ⊎_elim
    (λ y. ap Some (eqb-true u t y))
    (λ n. absurd (omega (arith, bit_false (u == t) n)))
    (cases_Bool (u == t))

-- a list that has the entries of xs, each once: what stands in it is in xs
pub once_tag : (es : List Entry) (xs : Tags) → EachOnce es xs → (i : ℕ) → i < length es → tag_of xs (entry_at es i).1 ≡ Some (entry_at es i).0
once_tag es xs h i l =
    let e = entry_at es i in
    tag_from_one (tag_of xs e.1) e.0 (omega (arith, is_itself e, get_or-le-sum_by (λ x. bit (is_entry e.0 e.1 x)) es i (0, 0) l, h e.0 e.1))

-- and what is in xs stands in it
place : (t s : ℕ) (es : List Entry) → 1 ≤ occurrences t s es → (i : ℕ) × (i < length es) × (is_entry t s (entry_at es i) ≡ true)
place t s [] h = absurd (omega arith)
place t s (e ∷ es) h = ⊎_elim
    (λ y. (0, omega arith, y))
    (λ n.
    let more = sum_by-cons (λ x. bit (is_entry t s x)) e es in
    let r = place t s es (omega (arith, bit_false (is_entry t s e) n)) in
    (suc r.0, omega arith, r.2))
    (cases_Bool (is_entry t s e))

pub once_place : (es : List Entry) (xs : Tags) → EachOnce es xs → (t s : ℕ) → tag_of xs s ≡ Some t → (i : ℕ) × (i < length es) × (entry_at es i ≡ (t, s))
once_place es xs h t s o =
    let r = place t s es (omega (arith, h t s, tag_is_one (tag_of xs s) t o)) in
    let both = and_parts _ _ r.2 in
    let tag : (entry_at es r.0).0 ≡ t = eqb-true _ _ both.0 in
    let session : (entry_at es r.0).1 ≡ s = eqb-true _ _ both.1 in
    (r.0, r.1, λ i. (tag i, session i))

-- the same entries in another order
pub same_shuffled : (ds es fs : List Entry) → SameEntries ds es → IsPermutation es fs → SameEntries ds fs
same_shuffled ds es fs h m = λ t s. sum_by-IsPermutation (λ e. bit (is_entry t s e)) es fs m ∙ h t s

pub once_same : (es fs : List Entry) (xs : Tags) → SameEntries es fs → EachOnce es xs → EachOnce fs xs
once_same es fs xs same h = λ t s. same t s ∙ h t s

pub once_shuffled : (es fs : List Entry) (xs : Tags) → IsPermutation es fs → EachOnce es xs → EachOnce fs xs
once_shuffled es fs xs moved = once_same es fs xs (same_shuffled es es fs (λ t s. refl) moved)

-- 1 if the tag o of session s makes the entry of tag u and session r, else 0
makes : Option ℕ → ℕ → ℕ → ℕ → ℕ
makes o s u r = cond (s == r) (tag_is o u) 0

makes_none : (s u r : ℕ) → makes None s u r ≡ 0
unfolding makes
makes_none s u r = cond_both (s == r) 0 0 (λ (n : ℕ). n ≡ 0) (λ y. refl) (λ n. refl)

makes_some : (t s u r : ℕ) → makes (Some t) s u r ≡ bit (is_entry u r (t, s))
unfolding makes
makes_some t s u r = ⊎_elim
    (λ y. cond-true (s == r) (tag_is (Some t) u) 0 y ∙ sym (and_true (t == u) (s == r) y))
    (λ n. cond-false (s == r) (tag_is (Some t) u) 0 n ∙ sym (and_false (t == u) (s == r) n))
    (cases_Bool (s == r))

-- how often the tags have an entry before and after one tag is set
tag_is_set : (xs : Tags) (s : ℕ) (o : Option ℕ) → s < length xs → (u r : ℕ) → tag_is (tag_of (slice_set xs s o) r) u + makes (tag_of xs s) s u r ≡ tag_is (tag_of xs r) u + makes o s u r
unfolding makes
tag_is_set xs s o l u r = ⊎_elim
    (λ (q : r ≡ s).
    let same : nat_eq s r ≡ true = eq-eqb s r (sym q) in
    omega (
      arith,
      cond-true (s == r) (tag_is o u) 0 same,
      cond-true (s == r) (tag_is (tag_of xs s) u) 0 same,
      ap (λ (k : ℕ). tag_is (tag_of xs k) u) q,
      ap (λ (w : Option ℕ). tag_is w u) (ap (tag_of (slice_set xs s o)) q ∙ get_or-set_same xs s o None l),
    ))
    (λ nq.
    let other : nat_eq s r ≡ false = ne_eqb s r (λ q. nq (sym q)) in
    omega (
      arith,
      cond-false (s == r) (tag_is o u) 0 other,
      cond-false (s == r) (tag_is (tag_of xs s) u) 0 other,
      ap (λ (w : Option ℕ). tag_is w u) (get_or-set_other xs s r o None nq),
    ))
    (cases_eq r s)

tag_is_added : (xs : Tags) (t s : ℕ) → s < length xs → tag_of xs s ≡ None → (u r : ℕ) → tag_is (tag_of (slice_set xs s (Some t)) r) u ≡ tag_is (tag_of xs r) u + bit (is_entry u r (t, s))
tag_is_added xs t s l e u r = omega (arith, tag_is_set xs s (Some t) l u r, ap (λ (o : Option ℕ). makes o s u r) e, makes_none s u r, makes_some t s u r)

pub tag_is_dropped : (xs : Tags) (t s : ℕ) → tag_of xs s ≡ Some t → (u r : ℕ) → tag_is (tag_of (slice_set xs s None) r) u + bit (is_entry u r (t, s)) ≡ tag_is (tag_of xs r) u
tag_is_dropped xs t s e u r = omega (arith, tag_is_set xs s None (tag_within xs s t e) u r, ap (λ (o : Option ℕ). makes o s u r) e, makes_none s u r, makes_some t s u r)

-- one entry more, of a session that has none, and one entry less
pub once_added : (es : List Entry) (xs : Tags) (t s : ℕ) → s < length xs → tag_of xs s ≡ None → EachOnce es xs → EachOnce (es ++ (t, s) ∷ []) (slice_set xs s (Some t))
once_added es xs t s l e h = λ u r. omega (arith, sum_by_push (λ x. bit (is_entry u r x)) es (t, s), h u r, tag_is_added xs t s l e u r)

pub once_dropped : (es fs : List Entry) (xs : Tags) (e : Entry) → tag_of xs e.1 ≡ Some e.0 → ((t s : ℕ) → occurrences t s fs + bit (is_entry t s e) ≡ occurrences t s es) →
    EachOnce es xs → EachOnce fs (slice_set xs e.1 None)
once_dropped es fs xs e o less h = λ u r. omega (arith, less u r, h u r, tag_is_dropped xs e.0 e.1 o u r)

-- how many sessions have an entry
count_set : (xs : Tags) (s : ℕ) (o w : Option ℕ) → s < length xs → tag_of xs s ≡ w → entry_count (slice_set xs s o) + bit (is_some w) ≡ entry_count xs + bit (is_some o)
count_set xs s o w l e =
    let was = ap (λ (v : Option ℕ). bit (is_some v)) e in
    omega (arith, was, sum_by-set (λ v. bit (is_some v)) xs s o None l)

pub count_added : (xs : Tags) (t s : ℕ) → s < length xs → tag_of xs s ≡ None → entry_count (slice_set xs s (Some t)) ≡ entry_count xs + 1
count_added xs t s l e = omega (arith, count_set xs s (Some t) None l e)

pub count_dropped : (xs : Tags) (t s : ℕ) → tag_of xs s ≡ Some t → entry_count (slice_set xs s None) + 1 ≡ entry_count xs
count_dropped xs t s e = omega (arith, count_set xs s None (Some t) (tag_within xs s t e) e)

pub count_most : (xs : Tags) → entry_count xs ≤ length xs
count_most xs = count_by-le-length is_some xs

-- where a session has none, not all have one
pub count_free : (xs : Tags) (s : ℕ) → s < length xs → tag_of xs s ≡ None → entry_count xs < length xs
count_free xs s l e = omega (arith, count_added xs 0 s l e, count_most (slice_set xs s (Some 0)), length-set xs s (Some 0))

-- a list of the entries, after one entry more and after one entry less
pub lists_added : (es fs : List Entry) (xs : Tags) (t s : ℕ) → s < length xs → tag_of xs s ≡ None → Lists es xs → IsPermutation (es ++ (t, s) ∷ []) fs → Lists fs (slice_set xs s (Some t))
lists_added es fs xs t s l e h moved = record {
  once = once_shuffled (es ++ (t, s) ∷ []) fs (slice_set xs s (Some t)) moved (once_added es xs t s l e h.once);
  count = omega (arith, length_permutation (es ++ (t, s) ∷ []) fs moved, length_push es (t, s), count_added xs t s l e, h.count);
}

pub lists_dropped : (es fs : List Entry) (xs : Tags) (e : Entry) → tag_of xs e.1 ≡ Some e.0 → Lists es xs → IsPermutation es (e ∷ fs) → Lists fs (slice_set xs e.1 None)
lists_dropped es fs xs e o h moved = record {
  once = once_dropped es fs xs e o (λ t s. omega (arith, sum_by-cons (λ x. bit (is_entry t s x)) e fs, sum_by-IsPermutation (λ x. bit (is_entry t s x)) es (e ∷ fs) moved)) h.once;
  count = omega (arith, length_permutation es (e ∷ fs) moved, count_dropped xs e.0 e.1 o, h.count);
}

-- a session without an entry leaves room for one
pub lists_room : (es : List Entry) (xs : Tags) (s : ℕ) → s < length xs → tag_of xs s ≡ None → Lists es xs → length es < length xs
lists_room es xs s l e h = omega (arith, count_free xs s l e, h.count)
