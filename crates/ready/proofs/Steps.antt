-- What a heap's fields say, and that each step keeps it.
use Rattle.std.proofs.Common.{◌≡◌, ℕ, ◌-◌, ◌/◌, ◌<◌, Bool, true, false, List, [], ◌∷◌, ◌++◌, map, length, get_or, set, replicate, is_some, Some, None, Ok, slice_get, sym, ap, ◌∙◌, subst, arith}
use Rattle.std.specs.List.{refill, swap_remove}
use Rattle.std.specs.List.Sorted.{IsPermutation}
use Rattle.std.proofs.lemmas.List.{get_or-map, get_or-take, get_or-set_other, length-set, length-take-le, map-set}
use Rattle.std.proofs.lemmas.List.Sorted.{IsPermutation-cons, IsPermutation-swap_remove, IsPermutation-trans}
use Rattle.std.proofs.lemmas.Option.{slice_get_within, get_or_from_slice_get}
use Rattle.arrayvec.proofs.ArrayVecLemmas.{items-with_items}
use Rattle.ready.specs.Order.{Entry}
use Rattle.ready.specs.Tags.{Tags, tag_of, no_entries, place_answer, free_answer, added, least_of}
use Rattle.ready.specs.Entries.{entry_at, Lists}
use Rattle.ready.specs.Heaps.{HeapOrdered, tags_of, length_tags, IsReadyHeap}
use Rattle.ready.specs.Leasts.{equals_least, least_tag}
use Rattle.ready.proofs.Adds.{place_is, is_free, add_leaves}
use Rattle.ready.specs.Counts.{lists_added, lists_dropped, lists_room}
use Rattle.ready.specs.Tables.{tags_from_once, first_is_least, empty_tags, empty_lists, empty_marked}

-- a write of as many entries leaves them
pub refill_same : (es fs : List Entry) → length fs ≡ length es → refill (length es) es fs ≡ fs
refill_same es fs long = items-with_items (record { items = es }) fs long

-- no entries
pub no_heap : (es : List Entry) (ps : List Bool) → es ≡ [] → ps ≡ replicate 64 false → IsReadyHeap es ps
no_heap es ps none unmarked = subst (λ (fs : List Entry). IsReadyHeap fs ps) (sym none)
    (record { ordered = λ k a b. absurd (omega arith); lists = empty_lists; marked = unmarked ∙ empty_marked })

pub no_tags : (es : List Entry) → es ≡ [] → tags_of es ≡ no_entries
no_tags es none = ap tags_of none ∙ empty_tags

-- entries that are in order and list xs
ready_heap : (ys : List Entry) (ps : List Bool) (xs : Tags) → length xs ≡ 64 → HeapOrdered 1 (length ys) ys → Lists ys xs → ps ≡ map is_some xs → IsReadyHeap ys ps
ready_heap ys ps xs wide ordered lists marked =
    let is = tags_from_once ys xs wide lists.once in
    record { ordered = ordered; lists = subst (Lists ys) (sym is) lists; marked = marked ∙ ap (map is_some) (sym is) }

module _ (es : List Entry) (ps : List Bool) (heap : IsReadyHeap es ps) where
  abbrev held : Tags
  held = tags_of es

  -- the entry at the top comes first
  pub heap_least : slice_get es 0 ≡ least_of held
  heap_least = equals_least held (slice_get es 0) (first_is_least es held heap.ordered heap.lists.once)

  -- one entry more
  module _ (t s p : ℕ) (at : Ok p ≡ place_answer s) (ok : Ok tt ≡ free_answer (get_or ps p false)) where
    below : s < length held
    below = let here = place_is s p at in omega (arith, length_tags es)

    present_at : get_or ps p false ≡ is_some (tag_of held s)
    present_at =
        let here = place_is s p at in
        ap (λ (qs : List Bool). get_or qs p false) heap.marked ∙ get_or-map is_some held p None false (omega (arith, length_tags es)) ∙ ap (λ (n : ℕ). is_some (tag_of held n)) here.0

    free : tag_of held s ≡ None
    free = is_free (tag_of held s) (get_or ps p false) present_at ok

    pub heap_room : length es < 64
    heap_room = omega (arith, length_tags es, lists_room es held s below free heap.lists)

    module _ (ys : List Entry) (long : length ys ≡ length (es ++ (t, s) ∷ [])) (moved : IsPermutation (es ++ (t, s) ∷ []) ys) where
      all : Lists ys (set held s (Some t))
      all = lists_added es ys held t s below free heap.lists moved

      wide : length (set held s (Some t)) ≡ 64
      wide = length-set held s (Some t) ∙ length_tags es

      pub heap_added : HeapOrdered 1 (length ys) ys → IsReadyHeap ys (set ps p true)
      heap_added ordered = ready_heap ys (set ps p true) (set held s (Some t)) wide ordered all
          ((λ i. set (heap.marked i) ((place_is s p at).0 i) true) ∙ sym (map-set is_some held s (Some t)))

      pub tags_added : tags_of ys ≡ added held t s
      tags_added = tags_from_once ys (set held s (Some t)) wide all.once ∙ sym (add_leaves held t s (place_is s p at).1 free)

  -- without the entry that comes first
  module _ (t s : ℕ) (is : Some (t, s) ≡ least_of held) where
    top : slice_get es 0 ≡ Some (t, s)
    top = heap_least ∙ sym is

    pub heap_some : 0 < length es
    heap_some = slice_get_within es 0 (t, s) top

    module _ (x : Entry) where
      abbrev shorter : List Entry
      shorter = swap_remove es 0 x

      shorter_long : length shorter ≡ length es - 1
      shorter_long = length-take-le (length es - 1) (set es 0 (get_or es (length es - 1) x)) (omega (arith, length-set es 0 (get_or es (length es - 1) x)))

      shorter_at : (k : ℕ) → 0 < k → k < length es - 1 → entry_at shorter k ≡ entry_at es k
      shorter_at k a b = get_or-take (length es - 1) (set es 0 (get_or es (length es - 1) x)) k (0, 0) b ∙ get_or-set_other es 0 k (get_or es (length es - 1) x) (0, 0) (omega arith)

      pub drop_ordered : HeapOrdered 3 (length shorter) shorter
      drop_ordered = λ k a b.
          let small : k < length es - 1 = omega (arith, shorter_long) in
          let was = heap.ordered k (omega arith) (omega arith) in
          cc (shorter_at k (omega arith) small, shorter_at ((k - 1) / 2) (omega arith) (omega arith))

      module _ (first : x ≡ get_or es 0 x) (ys : List Entry) (moved : IsPermutation (swap_remove es 0 x) ys) where
        left : Lists ys (set held s None)
        left =
            let here : x ≡ (t, s) = first ∙ get_or_from_slice_get es 0 (t, s) x top in
            let all = IsPermutation-trans es (x ∷ shorter) (x ∷ ys) (IsPermutation-swap_remove es 0 x heap_some first) (IsPermutation-cons x shorter ys moved) in
            lists_dropped es ys held (t, s) (least_tag held (t, s) is) heap.lists (subst (λ (e : Entry). IsPermutation es (e ∷ ys)) here all)

        wide_left : length (set held s None) ≡ 64
        wide_left = length-set held s None ∙ length_tags es

        pub heap_dropped : HeapOrdered 1 (length ys) ys → IsReadyHeap ys (set ps s false)
        heap_dropped ordered = ready_heap ys (set ps s false) (set held s None) wide_left ordered left (ap (λ (qs : List Bool). set qs s false) heap.marked ∙ sym (map-set is_some held s None))

        pub tags_dropped : tags_of ys ≡ set held s None
        tags_dropped = tags_from_once ys (set held s None) wide_left left.once
