-- What each call does to the waiting packets and to the ready line, and that the line stays sound.
use Rattle.std.specs.Prelude.{◌≡◌, ℕ, ◌<◌, true, false, cond, List, [], ◌∷◌, ◌++◌, length, is_some, Some, None, Ok, nat_eq, slice_set}
use Rattle.std.proofs.Common.{sym, ap, ◌∙◌, arith}
use Rattle.std.proofs.lemmas.List.{get_or-set_same, set-set}
use Rattle.std.proofs.lemmas.Bool.{eq-eqb}
use Rattle.calls.specs.declared.call.Packet.{Packet}
use Rattle.calls.specs.declared.call.Service.{Service}
use Rattle.ready.specs.Tags.{Tags, tag_of, add_answer, added}
use Rattle.ready.proofs.Adds.{add_answers, add_leaves}
use Rattle.sharing.specs.Meanings.{Meaning, waiting_in, all_waiting, after_open, after_enter, after_start, after_finish}
use Rattle.sharing.specs.Clocked.{Clocked}
use Rattle.sessions.proofs.Using.{same_all_waiting, open_waiting, finish_waiting, enter_waiting_here, enter_waiting_there, enter_all_waiting, start_waiting_there}
use Rattle.self_clocked.specs.Exact.{first_mark, first_marks, opened_at, entered_at, started_at, finished_at, Sound}
use Rattle.self_clocked.specs.Firsts.{first_marks_length, first_marks_at, first_marks_equal, first_marks_set, first_marks_same}

-- ---- the ready line

module _ (tags : Tags) (m : Meaning) (n : ℕ) (p : Packet) (low : n < 64) (opened : is_some (m.session n) ≡ true) (ready : tags ≡ first_marks m) where
  -- the first packet of a session makes it ready
  none_ready : waiting_in m n ≡ [] → tag_of tags n ≡ None
  none_ready none = ap (λ xs. tag_of xs n) ready ∙ first_marks_at m n low ∙ ap first_mark none

  pub first_added : waiting_in m n ≡ [] → add_answer tags n ≡ Ok tt
  first_added none = add_answers tags p.mark n low (none_ready none)

  pub first_ready : waiting_in m n ≡ [] → added tags p.mark n ≡ first_marks (after_enter m n p)
  first_ready none =
      add_leaves tags p.mark n low (none_ready none) ∙ ap (λ xs. slice_set xs n (Some p.mark)) ready ∙
      ap (λ ps. slice_set (first_marks m) n (first_mark (ps ++ p ∷ []))) (sym none) ∙
      ap (λ ps. slice_set (first_marks m) n (first_mark ps)) (sym (enter_waiting_here m n p opened)) ∙
      sym (first_marks_set m (after_enter m n p) n (enter_waiting_there m n p) low)

  -- a later one leaves the ready line as it is
  pub later_ready : (q : Packet) (qs : List Packet) → waiting_in m n ≡ q ∷ qs → tags ≡ first_marks (after_enter m n p)
  later_ready q qs some =
      ready ∙
      sym
      (first_marks_same m (after_enter m n p) n (enter_waiting_there m n p)
      (ap first_mark (enter_waiting_here m n p opened) ∙ ap (λ ps. first_mark (ps ++ p ∷ [])) some ∙ sym (ap first_mark some)))

-- a session whose first packet started is ready again with its next one
module _ (rest : Tags) (m : Meaning) (n : ℕ) (p : Packet) (low : n < 64) (gone : rest ≡ slice_set (first_marks m) n None) where
  after_marks : first_marks (after_start m n p) ≡ slice_set (first_marks m) n (first_mark (waiting_in (after_start m n p) n))
  after_marks = first_marks_set m (after_start m n p) n (start_waiting_there m n p) low

  pub none_left : waiting_in (after_start m n p) n ≡ [] → rest ≡ first_marks (after_start m n p)
  none_left none = gone ∙ ap (λ ps. slice_set (first_marks m) n (first_mark ps)) (sym none) ∙ sym after_marks

  free : tag_of rest n ≡ None
  free =
      let inside : n < length (first_marks m) = omega (arith, first_marks_length m) in
      ap (λ xs. tag_of xs n) gone ∙ get_or-set_same (first_marks m) n None None inside

  pub next_ready : (q : Packet) (qs : List Packet) → waiting_in (after_start m n p) n ≡ q ∷ qs → added rest q.mark n ≡ first_marks (after_start m n p)
  next_ready q qs some =
      add_leaves rest q.mark n low free ∙ ap (λ xs. slice_set xs n (Some q.mark)) gone ∙ set-set (first_marks m) n None (Some q.mark) ∙
      ap (λ ps. slice_set (first_marks m) n (first_mark ps)) (sym some) ∙ sym after_marks

-- ---- the line stays sound

pub sound_opened : (tags : Tags) (x : Clocked) (n weight limit : ℕ) → Sound tags x → is_some (x.meaning.session n) ≡ false → Sound tags (opened_at x n weight limit)
sound_opened tags x n weight limit ok closed =
    let same = open_waiting x.meaning n weight limit closed in
    record {
      ready = ok.ready ∙ sym (first_marks_equal x.meaning (after_open x.meaning n weight limit) same);
      idle = λ i.
          let reset = ok.idle (record { none_waits = sym (same_all_waiting x.meaning (after_open x.meaning n weight limit) same) ∙ i.none_waits; none_served = i.none_served }) in
          record { clock = reset.clock; last = reset.last };
    }

pub sound_entered : (tags : Tags) (x : Clocked) (n : ℕ) (p : Packet) → n < 64 → is_some (x.meaning.session n) ≡ true →
    tags ≡ first_marks (after_enter x.meaning n p) → Sound tags (entered_at x n p)
sound_entered tags x n p low opened ready =
    record { ready = ready; idle = λ i. let no : ⊥ = omega (arith, enter_all_waiting x.meaning n p low opened, i.none_waits) in absurd no }

pub sound_started : (tags : Tags) (x : Clocked) (service : Service) → tags ≡ first_marks (after_start x.meaning service.session service.packet) →
    Sound tags (started_at x (Some service))
sound_started tags x service ready =
    record { ready = ready; idle = λ i. let served = i.none_served in let z : ◌≡◌ {A = ℕ} 0 1 = cc in let no : ⊥ = omega arith in absurd no }

pub sound_finished : (tags : Tags) (x : Clocked) (service : Service) → Sound tags x → Sound tags (finished_at x (Some service))
sound_finished tags x service ok =
    let m = x.meaning in
    let y = after_finish m service.session service.packet in
    let same = finish_waiting m service.session service.packet in
    record {
      ready = ok.ready ∙ sym (first_marks_equal m y same);
      idle = λ i.
          let none : nat_eq (all_waiting m) 0 ≡ true = eq-eqb (all_waiting m) 0 (sym (same_all_waiting m y same) ∙ i.none_waits) in
          record { clock = ap (λ b. cond b 0 x.clock) none; last = λ j s. cond (none j) 0 (x.last s) };
    }
