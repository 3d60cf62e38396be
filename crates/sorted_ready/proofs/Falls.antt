-- Entries in order, the least last: which is the least, and what is left without it.
use Rattle.std.proofs.Common.{◌≡◌, ℕ, zero, suc, ◌+◌, ◌-◌, ◌<◌, ◌≤◌, List, [], ◌∷◌, ◌++◌, length, set, Some, None, slice_get, refl, sym, ap, ◌∙◌, subst, ⊎_elim, arith}
use Rattle.std.specs.List.Sorted.{IsPermutation}
use Rattle.std.proofs.lemmas.List.{get_or_append_left, length_push}
use Rattle.std.proofs.lemmas.List.Sorted.{IsPermutation-to_front}
use Rattle.std.proofs.lemmas.Option.{slice_get_past, slice_get-get_or}
use Rattle.std.proofs.lemmas.Bool.{cases_lt}
use Rattle.ready.specs.Order.{Entry, AtMost}
use Rattle.ready.specs.Tags.{Tags, least_of}
use Rattle.ready.specs.Least.{IsLeast}
use Rattle.ready.specs.Entries.{entry_at}
use Rattle.ready.specs.Orders.{at_most_same, at_most_through}
use Rattle.ready.specs.Leasts.{equals_least, least_tag, least_within}
use Rattle.ready.specs.Counts.{once_tag, once_place, lists_dropped}
use Rattle.sorted_ready.specs.Falling.{Falling, IsSortedLine}

-- equal entries are in the same order
pub at_most_of : {a b c d : Entry} → a ≡ c → b ≡ d → AtMost c d → AtMost a b
at_most_of p q h = cc

-- an entry is at most the one that stands n places before it
at_most_after : (es : List Entry) → Falling es → (n k m : ℕ) → m ≡ k + n → m < length es → AtMost (entry_at es m) (entry_at es k)
at_most_after es falling zero k m e l = let q : m ≡ k = omega arith in subst (λ (j : ℕ). AtMost (entry_at es m) (entry_at es j)) q (at_most_same (entry_at es m))
at_most_after es falling (suc n) k m e l =
    at_most_through (entry_at es m) (entry_at es (k + 1)) (entry_at es k) (at_most_after es falling n (k + 1) m (omega arith) l) (falling k (omega arith))

pub at_most_before : (es : List Entry) → Falling es → (k m : ℕ) → k ≤ m → m < length es → AtMost (entry_at es m) (entry_at es k)
at_most_before es falling k m e l = at_most_after es falling (m - k) k m (omega arith) l

module _ (xs : Tags) (es : List Entry) (line : IsSortedLine xs es) where
  -- the last is the least
  last_is_least : IsLeast xs (slice_get es (length es - 1))
  last_is_least = ⊎_elim
      (λ (some : 0 < length es).
      subst (IsLeast xs) (sym (slice_get-get_or es (length es - 1) (0, 0) (omega arith))) (
        once_tag es xs line.lists.once (length es - 1) (omega arith),
        λ s t o. let at = once_place es xs line.lists.once t s o in
            at_most_of refl (sym at.2) (at_most_before es line.falling at.0 (length es - 1) (omega arith) (omega arith)),
      ))
      (λ none.
      subst (IsLeast xs) (sym (slice_get_past es (length es - 1) (omega arith)))
      (λ s t o. let at = once_place es xs line.lists.once t s o in let below = at.1 in omega arith))
      (cases_lt 0 (length es))

  pub last_least : slice_get es (length es - 1) ≡ least_of xs
  last_least = equals_least xs (slice_get es (length es - 1)) last_is_least

  -- without the last
  module _ (t s : ℕ) (is : Some (t, s) ≡ slice_get es (length es - 1)) where
    least : Some (t, s) ≡ least_of xs
    least = is ∙ last_least

    pub last_within : s < length xs
    last_within = least_within xs (t, s) least

    module _ (ds : List Entry) (shorter : es ≡ ds ++ (t, s) ∷ []) where
      falling_left : Falling ds
      falling_left k l =
          let alike : (j : ℕ) → j < length ds → entry_at ds j ≡ entry_at es j = λ j low. sym (ap (λ (fs : List Entry). entry_at fs j) shorter ∙ get_or_append_left ds ((t, s) ∷ []) (0, 0) j low) in
          at_most_of (alike (k + 1) l) (alike k (omega arith)) (line.falling k (omega (arith, ap length shorter, length_push ds (t, s))))

      pub line_dropped : IsSortedLine (set xs s None) ds
      line_dropped = record {
        lists = lists_dropped es ds xs (t, s) (least_tag xs (t, s) least) line.lists (subst (λ (fs : List Entry). IsPermutation fs ((t, s) ∷ ds)) (sym shorter) (IsPermutation-to_front ds (t, s)));
        falling = falling_left;
      }
