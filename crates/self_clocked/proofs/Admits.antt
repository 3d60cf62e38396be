-- The checks of an entry, one after the other, are its rule; and the reach is what is asked.
use Rattle.std.proofs.Common.{◌≡◌, ℕ, ◌≤◌, max, Bool, true, false, cond, ltb, leb, Some, None, Ok, Err, Option, Result, sym, refl, ap, ◌∙◌, arith}
use Rattle.std.proofs.lemmas.Bool.{and_from, cond-true, lt-ltb, le-leb}
use Rattle.calls.specs.Strides.{within}
use Rattle.calls.specs.declared.call.Terms.{Terms}
use Rattle.calls.specs.declared.refusal.Refusal.{Refusal}
use Rattle.calls.specs.declared.refusal.Refusal.TheVariants.{NoSuchSession, BadWeight, Full, OutOfReach}
use Rattle.sharing.specs.Histories.{weight_in}
use Rattle.sharing.specs.Rules.{mark_after, ceiling, reach_from, room_beside, check}
use Rattle.sharing.specs.Meanings.{Session, all_waiting, if_open, terms_answer, reach_answer}
use Rattle.sharing.specs.Clocked.{Clocked}
use Rattle.sharing.proofs.Pending.{terms_in}
use Rattle.sharing.proofs.Reaches.{within_reach}
use Rattle.sessions.specs.Verdicts.{verdict, room_answer_at, length_answer}
use Rattle.sessions.proofs.Using.{InOrder, open_in_order, enterable, enter_by_room_and_reach}
use Rattle.sessions.specs.Meanings.{meaning_of}
use Rattle.self_clocked.specs.declared.line.SelfClocked.{SelfClocked}
use Rattle.self_clocked.specs.Exact.{weight_at, room_of, reach_of, enter_answer}
use Rattle.self_clocked.specs.Marks.{under_ceiling, mark_answer_from, reach_answer_from, mark_answer, reach_answer_at}
use Rattle.self_clocked.specs.States.{last_in, state}

ok_passes : {A : Type 0} (b : Bool) (value : A) (others : Result A Refusal) (reason : Refusal) → Ok value ≡ cond b others (Err reason) → (b ≡ true) × (Ok value ≡ others)
ok_passes true value others reason is = (refl, is)
ok_passes false value others reason is = let z : ◌≡◌ {A = ℕ} 0 1 = cc in let no : ⊥ = omega arith in absurd no

module _ (x : Clocked) (s : ℕ) (orderly : (t : Session) → x.meaning.session s ≡ Some t → InOrder s t) where
  weight_within : (t : Session) → x.meaning.session s ≡ Some t → within (weight_at x s) 16 ≡ true
  weight_within t is =
      let range = orderly t is in
      let same : weight_at x s ≡ t.weight = ap (λ o. weight_in (terms_in o)) is in
      ap (λ w. within w 16) same ∙ and_from (ltb 0 t.weight) (leb t.weight 16) (lt-ltb 0 t.weight range.some_weight) (le-leb t.weight 16 range.weight)

  pub admit_is : (n : ℕ) (terms : Terms) → Ok terms ≡ length_answer x.meaning s n → Ok tt ≡ room_answer_at (all_waiting x.meaning) →
      mark_answer (x.last s) x.clock n terms.weight ≡ enter_answer x s n
  admit_is n terms fits placed =
      let room = ok_passes (ltb 0 (room_beside (all_waiting x.meaning))) tt (Ok tt) Full placed in
      let e = enterable x.meaning s n 0 terms fits in
      let range = orderly e.account e.is_open in
      let short : n ≤ 65535 = omega (arith, range.limit, e.most) in
      let same : terms.weight ≡ weight_at x s = ap (λ (v : Terms). v.weight) e.is_terms ∙ ap (λ o. weight_in (terms_in o)) (sym e.is_open) in
      let mark = mark_after (x.last s) x.clock n (weight_at x s) in
      ap (mark_answer (x.last s) x.clock n) same ∙
      cond-true (within (weight_at x s) 16) (under_ceiling mark) (Err BadWeight) (weight_within e.account e.is_open) ∙ under (leb mark ceiling) mark ∙
      ap (λ b. verdict (check b OutOfReach None) mark) (sym (within_reach (max (x.last s) x.clock) (weight_at x s) n e.some short)) ∙
      sym
      (ap (λ r. verdict r mark)
      (enter_by_room_and_reach x.meaning s n 0 (room_of x) (reach_of x) terms fits ∙
      cond-true (ltb 0 (room_of x s)) (check (leb n (reach_of x s)) OutOfReach None) (Some Full) room.0))
    where
      under : (b : Bool) (mark : ℕ) → cond b (Ok mark) (Err OutOfReach) ≡ verdict (check b OutOfReach None) mark
      under true mark = refl
      under false mark = refl

  pub reach_is_asked : (terms : Terms) → Ok terms ≡ terms_answer x.meaning s →
      reach_answer_at (x.last s) x.clock terms.weight ≡ reach_answer x.meaning (reach_of x) s
  reach_is_asked terms is =
      let number = ok_passes (ltb s 64) terms (if_open (x.meaning.session s) (λ t. record { weight = t.weight; limit = t.limit })) NoSuchSession is in
      go (x.meaning.session s) refl terms number.1 ∙
      sym (cond-true (ltb s 64) (if_open (x.meaning.session s) (λ t. reach_of x s)) (Err NoSuchSession) number.0)
    where
      go : (o : Option Session) → x.meaning.session s ≡ o → (terms : Terms) → Ok terms ≡ if_open o (λ t. record { weight = t.weight; limit = t.limit }) →
          reach_answer_at (x.last s) x.clock terms.weight ≡ if_open o (λ t. reach_of x s)
      go None is terms e = let z : ◌≡◌ {A = ℕ} 0 1 = cc in let no : ⊥ = omega arith in absurd no
      go (Some t) is terms e =
          let given : terms ≡ record { weight = t.weight; limit = t.limit } = cc in
          let same : terms.weight ≡ weight_at x s = ap (λ (v : Terms). v.weight) given ∙ ap (λ o. weight_in (terms_in o)) (sym is) in
          ap (reach_answer_at (x.last s) x.clock) same ∙
          cond-true (within (weight_at x s) 16) (Ok (reach_from (max (x.last s) x.clock) (weight_at x s))) (Err BadWeight) (weight_within t is)

-- the same of a line, with the base of its next mark
module _ {R : Type 0} (x : SelfClocked R) (s base : ℕ) (terms : Terms) (is : base ≡ max (last_in x.lasts s) x.clock) where
  pub admits : (n : ℕ) → Ok terms ≡ length_answer (meaning_of x.sessions) s n → Ok tt ≡ room_answer_at (all_waiting (meaning_of x.sessions)) →
      mark_answer_from base n terms.weight ≡ enter_answer (state x) s n
  admits n fits placed =
      ap (λ b. mark_answer_from b n terms.weight) is ∙ admit_is (state x) s (open_in_order x.sessions s) n terms fits placed

  pub reaches : Ok terms ≡ terms_answer (meaning_of x.sessions) s →
      reach_answer_from base terms.weight ≡ reach_answer (meaning_of x.sessions) (reach_of (state x)) s
  reaches fits = ap (λ b. reach_answer_from b terms.weight) is ∙ reach_is_asked (state x) s (open_in_order x.sessions s) terms fits
