-- Taking the least entry out of a ready line, again and again.
use Rattle.std.proofs.Common.{◌≡◌, ℕ, ◌+◌, ◌<◌, List, [], ◌∷◌, ◌++◌, length, set, Some, None, Option, refl, sym, ap, ◌∙◌, subst, ⊎_elim, arith}
use Rattle.std.proofs.lemmas.List.{ext_get_or, get_or-replicate, get_or-set_same, get_or-set_other, get_or_append_left, get_or_push, length_push}
use Rattle.std.proofs.lemmas.List.Sums.{sum_by_push}
use Rattle.std.proofs.lemmas.Bool.{cases_eq}
use Rattle.ready.specs.Order.{Entry, Before}
use Rattle.ready.specs.Tags.{Tags, tag_of, entry_count, no_entries, least_of}
use Rattle.ready.specs.Least.{IsLeast}
use Rattle.ready.specs.Entries.{entry_at, is_entry, occurrences, tag_is, EachOnce, Rising}
use Rattle.ready.specs.Orders.{before_other}
use Rattle.ready.specs.Leasts.{none_some, tag_within, is_least_from}
use Rattle.ready.specs.Counts.{bit, tag_is_dropped, count_dropped, count_most}

-- es are entries of xs, in order and before those that ys still has
pub record Taken (xs ys : Tags) (es : List Entry) : Type 0 where
  pub count : length es + entry_count ys ≡ entry_count xs
  pub rising : Rising es
  pub before : (i s t : ℕ) → i < length es → tag_of ys s ≡ Some t → Before (entry_at es i) (t, s)
  pub all : (t s : ℕ) → occurrences t s es + tag_is (tag_of ys s) t ≡ tag_is (tag_of xs s) t

pub taken_none : (xs : Tags) (es : List Entry) → es ≡ [] → Taken xs xs es
taken_none xs es none = subst (Taken xs xs) (sym none) (record {
  count = omega arith;
  rising = λ i j a b. absurd (omega arith);
  before = λ i s t a o. absurd (omega arith);
  all = λ t s. omega arith;
})

-- one more
module _ (xs ys : Tags) (es : List Entry) (e : Entry) (is : Some e ≡ least_of ys) (h : Taken xs ys es) where
  least : IsLeast ys (Some e)
  least = is_least_from ys (Some e) is

  fewer : entry_count (set ys e.1 None) + 1 ≡ entry_count ys
  fewer = count_dropped ys e.0 e.1 least.0

  pub taken_room : length xs ≡ 64 → length es < 64
  taken_room wide = omega (arith, fewer, h.count, count_most xs)

  -- what ys has without e, it has with it, and it comes after e
  left : (s t : ℕ) → tag_of (set ys e.1 None) s ≡ Some t → (tag_of ys s ≡ Some t) × Before e (t, s)
  left s t o =
      let other : s ≡ e.1 → ⊥ = λ q. none_some t (sym (ap (tag_of (set ys e.1 None)) q ∙ get_or-set_same ys e.1 None None (tag_within ys e.1 e.0 least.0)) ∙ o) in
      let was = sym (get_or-set_other ys e.1 s None None other) ∙ o in
      (was, before_other e (t, s) (least.1 s t was) (λ q. other (ap (λ (d : Entry). d.1) (sym q))))

  abbrev longer : List Entry
  longer = es ++ e ∷ []

  here : (i : ℕ) → i ≡ length es → entry_at longer i ≡ e
  here i q = get_or_push es e (0, 0) i (sym q)

  there : (i : ℕ) → i < length es → entry_at longer i ≡ entry_at es i
  there i l = get_or_append_left es (e ∷ []) (0, 0) i l

  longer_taken : Taken xs (set ys e.1 None) longer
  longer_taken =
      let long = length_push es e in record {
        count = omega (arith, fewer, h.count);
        rising = λ i j a b.
            let low = there i (omega arith) in
            ⊎_elim
            (λ (q : j ≡ length es). let before = h.before i e.1 e.0 (omega arith) least.0 in let high = here j q in cc)
            (λ nq. let before = h.rising i j a (omega arith) in let high = there j (omega arith) in cc)
            (cases_eq j (length es));
        before = λ i s t a o.
            let rest = left s t o in
            ⊎_elim
            (λ (q : i ≡ length es). let low = here i q in let before = rest.1 in cc)
            (λ nq. let low = there i (omega arith) in let before = h.before i s t (omega arith) rest.0 in cc)
            (cases_eq i (length es));
        all = λ t s. omega (arith, sum_by_push (λ x. bit (is_entry t s x)) es e, tag_is_dropped ys e.0 e.1 least.0 t s, h.all t s);
      }

  module _ (zs : Tags) (rest : zs ≡ set ys e.1 None) where
    pub taken_fewer : entry_count zs < entry_count ys
    taken_fewer = omega (arith, ap entry_count rest, fewer)

    pub taken_more : (fs : List Entry) → fs ≡ longer → Taken xs zs fs
    taken_more fs grown = subst (λ (ws : Tags). Taken xs ws fs) (sym rest) (subst (Taken xs (set ys e.1 None)) (sym grown) longer_taken)

not_some : (o : Option ℕ) → ((t : ℕ) → o ≡ Some t → ⊥) → o ≡ None
not_some None h = refl
not_some (Some t) h = absurd (h t refl)

-- where no entry is left, all are taken
module _ (ys : Tags) (is : None ≡ least_of ys) where
  none_left : (s : ℕ) → tag_of ys s ≡ None
  none_left s = not_some (tag_of ys s) (is_least_from ys None is s)

  pub left_empty : length ys ≡ 64 → ys ≡ no_entries
  left_empty wide = ext_get_or None ys no_entries wide (λ s l. none_left s ∙ sym (get_or-replicate 64 s None None (omega arith)))

  module _ (xs : Tags) (es : List Entry) (h : Taken xs ys es) where
    pub left_all : EachOnce es xs
    left_all = λ t s. omega (arith, h.all t s, ap (λ (o : Option ℕ). tag_is o t) (none_left s))

    pub left_count : length ys ≡ 64 → length es ≡ entry_count xs
    left_count wide = omega (arith, h.count, ap entry_count (left_empty wide))
