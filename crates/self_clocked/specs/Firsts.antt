-- The marks of the first waiting packets, and what each call makes of them.
use Rattle.std.specs.Prelude.{◌≡◌, ℕ, ◌<◌, ◌⊎◌, List, [], ◌∷◌, map, length, Some, None, ◌≢◌, slice_set, refl}
use Rattle.std.proofs.Common.{inl, inr, sym, ap, ◌∙◌, arith}
use Rattle.std.specs.List.{range_with_len}
use Rattle.std.proofs.lemmas.List.FromFn.{fill_by_all, length-map-range_with_len, get_or-map-range_with_len}
use Rattle.std.proofs.lemmas.List.{get_or-set_same, get_or-set_other, length-set}
use Rattle.std.proofs.lemmas.Bool.{cases_eq}
use Rattle.calls.specs.declared.call.Packet.{Packet}
use Rattle.ready.specs.Order.{Entry}
use Rattle.ready.specs.Tags.{Tags, tag_of, least_of}
use Rattle.ready.specs.Leasts.{none_some, same_some, least_tag, least_within}
use Rattle.sharing.specs.Meanings.{Meaning, waiting_in, after_first}
use Rattle.self_clocked.specs.Exact.{first_mark, first_marks, with_first, first_with, next}

-- ---- as a list

pub first_marks_length : (m : Meaning) → length (first_marks m) ≡ 64
unfolding first_marks
first_marks_length m = length-map-range_with_len (λ s. first_mark (waiting_in m s)) 0 64

pub first_marks_at : (m : Meaning) (s : ℕ) → s < 64 → tag_of (first_marks m) s ≡ first_mark (waiting_in m s)
unfolding first_marks
first_marks_at m s low = get_or-map-range_with_len (λ n. first_mark (waiting_in m n)) 0 64 s s None low (omega arith)

pub first_marks_from : (m : Meaning) (xs : Tags) → length xs ≡ 64 → ((s : ℕ) → s < 64 → tag_of xs s ≡ first_mark (waiting_in m s)) → xs ≡ first_marks m
unfolding first_marks
first_marks_from m xs long each = fill_by_all (λ n. first_mark (waiting_in m n)) xs 64 None long each

pub first_marks_equal : (m y : Meaning) → ((s : ℕ) → waiting_in y s ≡ waiting_in m s) → first_marks y ≡ first_marks m
unfolding first_marks
first_marks_equal m y same = λ i. map (λ s. first_mark (same s i)) (range_with_len 0 64)

-- ---- where the packets of one session change

module _ (m y : Meaning) (n : ℕ) (there : (k : ℕ) → (k ≢ n) → waiting_in y k ≡ waiting_in m k) where
  pub first_marks_set : n < 64 → first_marks y ≡ slice_set (first_marks m) n (first_mark (waiting_in y n))
  first_marks_set low =
      let mark = first_mark (waiting_in y n) in
      sym
      (first_marks_from y (slice_set (first_marks m) n mark) (length-set (first_marks m) n mark ∙ first_marks_length m)
      (λ s l. at_session s l (cases_eq s n)))
    where
      at_session : (s : ℕ) → s < 64 → (s ≡ n) ⊎ (s ≢ n) → tag_of (slice_set (first_marks m) n (first_mark (waiting_in y n))) s ≡ first_mark (waiting_in y s)
      at_session s l (inl e) =
          let inside : n < length (first_marks m) = omega (arith, first_marks_length m) in
          ap (tag_of (slice_set (first_marks m) n (first_mark (waiting_in y n)))) e ∙ get_or-set_same (first_marks m) n (first_mark (waiting_in y n)) None inside ∙
          ap (λ k. first_mark (waiting_in y k)) (sym e)
      at_session s l (inr ne) =
          get_or-set_other (first_marks m) n s (first_mark (waiting_in y n)) None ne ∙ first_marks_at m s l ∙ ap first_mark (sym (there s ne))

  -- the first marks are the same where the first packet is
  pub first_marks_same : first_mark (waiting_in y n) ≡ first_mark (waiting_in m n) → first_marks y ≡ first_marks m
  first_marks_same same =
      first_marks_from m (first_marks y) (first_marks_length y) (λ s l. first_marks_at y s l ∙ at_session s (cases_eq s n))
    where
      at_session : (s : ℕ) → (s ≡ n) ⊎ (s ≢ n) → first_mark (waiting_in y s) ≡ first_mark (waiting_in m s)
      at_session s (inl e) = ap (λ k. first_mark (waiting_in y k)) e ∙ same ∙ ap (λ k. first_mark (waiting_in m k)) (sym e)
      at_session s (inr ne) = ap first_mark (there s ne)

-- ---- what the next packet is

first_marked : (packets : List Packet) (t : ℕ) → first_mark packets ≡ Some t → (p : Packet) × (packets ≡ p ∷ after_first packets) × (p.mark ≡ t)
first_marked [] t e = absurd (none_some t e)
first_marked (p ∷ ps) t e = (p, refl, same_some p.mark t e)

-- the least entry of the first marks is that of a first packet
pub record FirstOf (m : Meaning) (entry : Entry) : Type 0 where
  pub session : entry.1 < 64
  pub packet : Packet
  pub first : waiting_in m entry.1 ≡ packet ∷ after_first (waiting_in m entry.1)
  pub mark : packet.mark ≡ entry.0

pub least_first : (m : Meaning) (entry : Entry) → Some entry ≡ least_of (first_marks m) → FirstOf m entry
least_first m entry is =
    let low : entry.1 < 64 = omega (arith, least_within (first_marks m) entry is, first_marks_length m) in
    let found = first_marked (waiting_in m entry.1) entry.0 (sym (first_marks_at m entry.1 low) ∙ least_tag (first_marks m) entry is) in
    record { session = low; packet = found.0; first = found.1; mark = found.2 }

pub next_is : (m : Meaning) (entry : Entry) (p : Packet) (ps : List Packet) → Some entry ≡ least_of (first_marks m) → waiting_in m entry.1 ≡ p ∷ ps →
    next m ≡ Some (record { session = entry.1; packet = p })
next_is m entry p ps is first = ap (first_with m) (sym is) ∙ ap (with_first entry.1) first
