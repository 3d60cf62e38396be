-- What starting a packet makes of the line and of its ready line.
use Rattle.std.proofs.Common.{◌≡◌, ℕ, cond, not, ltb, List, [], ◌∷◌, is_some, Some, Ok, Err, Option, Result, sym, refl, ap, ◌∙◌}
use Rattle.std.proofs.lemmas.Bool.{cond-true, lt-ltb}
use Rattle.calls.specs.declared.call.Packet.{Packet}
use Rattle.calls.specs.declared.call.Service.{Service}
use Rattle.calls.specs.declared.refusal.Refusal.{Refusal}
use Rattle.calls.specs.declared.refusal.Refusal.TheVariants.{NoSuchSession, ServerBusy}
use Rattle.waiting.specs.Queues.{first_of}
use Rattle.ready.specs.Tags.{Tags}
use Rattle.ready.specs.Leasts.{none_some, same_some}
use Rattle.sharing.specs.Meanings.{Meaning, waiting_in, after_first, after_start}
use Rattle.sharing.specs.Clocked.{Clocked}
use Rattle.sessions.specs.Verdicts.{taken, take_answer}
use Rattle.self_clocked.specs.Exact.{first_mark, first_marks, with_first, started_at, renewed, Due}
use Rattle.self_clocked.specs.Keeps.{none_left, next_ready}

-- the packet that is due, which is the first of its session
pub record Found (m : Meaning) (mark s : ℕ) (service : Service) : Type 0 where
  pub first : waiting_in m s ≡ service.packet ∷ after_first (waiting_in m s)
  pub mark_is : mark ≡ service.packet.mark
  pub session_is : service.session ≡ s
  pub is_next : with_first s (waiting_in m s) ≡ Some service

module _ (tags : Tags) (m : Meaning) (mark s : ℕ) (due : Due tags m mark s) where
  pub due_answer : (r : Result Service Refusal) → r ≡ take_answer m s → r ≡ taken s (first_of (waiting_in m s))
  due_answer r took =
      took ∙
      ap (λ o. cond (not (is_some o)) (cond (ltb s 64) (taken s (first_of (waiting_in m s))) (Err NoSuchSession)) (Err ServerBusy)) due.none_served ∙
      cond-true (ltb s 64) (taken s (first_of (waiting_in m s))) (Err NoSuchSession) (lt-ltb s 64 due.session)

  pub due_found : (service : Service) → Ok service ≡ take_answer m s → Found m mark s service
  due_found service took = go (waiting_in m s) refl due.first (due_answer (Ok service) took)
    where
      go : (ps : List Packet) → waiting_in m s ≡ ps → first_mark ps ≡ Some mark → Ok service ≡ taken s (first_of ps) → Found m mark s service
      go [] is e answer = absurd (none_some mark e)
      go (p ∷ ps) is e answer =
          let here : service ≡ record { session = s; packet = p } = cc in
          record {
            first = is ∙ (λ i. (sym here i).packet ∷ after_first (sym is i));
            mark_is = sym (same_some p.mark mark e) ∙ ap (λ v. v.packet.mark) (sym here);
            session_is = ap (λ v. v.session) here;
            is_next = ap (with_first s) is ∙ ap Some (sym here);
          }

  -- y is what the sessions mean after the packet was taken
  module _ (service : Service) (took : Ok service ≡ take_answer m s) (y : Meaning) (moved : y ≡ after_start m service.session service.packet) where
    pub started_state : (clock : ℕ) (last : ℕ → ℕ) →
        record { meaning = y; clock = mark; last = last } ≡ started_at (record { meaning = m; clock = clock; last = last }) (with_first s (waiting_in m s))
    started_state clock last =
        let found = due_found service took in
        let x : Clocked = record { meaning = m; clock = clock; last = last } in
        (λ i. record { meaning = moved i; clock = found.mark_is i; last = last }) ∙ ap (started_at x) (sym found.is_next)

    after_is : y ≡ after_start m s service.packet
    after_is = moved ∙ ap (λ n. after_start m n service.packet) (due_found service took).session_is

    pub started_ready : (next : Option Packet) (left : Tags) → next ≡ first_of (waiting_in y s) → left ≡ renewed tags next s → left ≡ first_marks y
    started_ready next left is_next is =
        is ∙ ap (λ o. renewed tags o s) (is_next ∙ ap (λ (z : Meaning). first_of (waiting_in z s)) after_is) ∙
        go (waiting_in (after_start m s service.packet) s) refl ∙ ap first_marks (sym after_is)
      where
        go : (ps : List Packet) → waiting_in (after_start m s service.packet) s ≡ ps → renewed tags (first_of ps) s ≡ first_marks (after_start m s service.packet)
        go [] none = none_left tags m s service.packet due.session due.others none
        go (q ∷ qs) some = next_ready tags m s service.packet due.session due.others q qs some
