-- What the changes make of the meaning.
use Rattle.std.proofs.Common.{◌≡◌, ℕ, ◌<◌, Bool, true, false, cond, eqb, List, [], ◌∷◌, ◌++◌, set, is_some, Some, None, Option, sym, refl, ap, ◌∙◌, ⊎_elim, arith}
use Rattle.std.specs.Option.{option_map}
use Rattle.std.proofs.lemmas.List.{get_or-set_same, get_or-set_other}
use Rattle.std.proofs.lemmas.Bool.{cases_eq, eq-eqb, ne_eqb, cond-true, cond-false}
use Rattle.calls.specs.Strides.{charge}
use Rattle.calls.specs.declared.call.Packet.{Packet}
use Rattle.calls.specs.declared.call.Service.{Service}
use Rattle.calls.specs.declared.call.Terms.{Terms}
use Rattle.waiting.specs.Queues.{queue, all_waiting, put, rest_of}
use Rattle.waiting.proofs.Using.{put_here, put_other}
use Rattle.sharing.specs.Meanings.{Meaning, Session, nothing_open, with_session, with_waiting, after_first, credited, after_open, after_enter, after_start, after_finish}
use Rattle.sessions.specs.declared.seat.Account.{Account}
use Rattle.sessions.specs.declared.condition.Condition.{Condition}
use Rattle.sessions.specs.declared.condition.Condition.TheVariants.{Idle, Pausing, Carrying}
use Rattle.sessions.specs.declared.condition.Event.TheVariants.{Entered, Started, Finished}
use Rattle.sessions.specs.declared.parts.Parts.{Parts}
use Rattle.sessions.specs.Seats.{seat_at, new_account, with_octets, waiting_while_closed, session_of}
use Rattle.sessions.specs.Conditions.{moved, service_of}
use Rattle.sessions.specs.Steps.{Fresh, Entering, Starting, with_seat, with_condition}
use Rattle.sessions.specs.Meanings.{meaning_in}
use Rattle.sessions.proofs.Keeping.{repeated}

-- a meaning that differs from m at one session and in the packet in service
pub is_with_session :
    (m n : Meaning) (s : ℕ) (new : Option Session) (service : Option Service) → n.session s ≡ new →
    ((k : ℕ) → (k ≡ s → ⊥) → n.session k ≡ m.session k) → n.in_service ≡ service → n ≡ with_session m s new service
is_with_session m n s new service here there served =
    let at : (k : ℕ) → n.session k ≡ cond (eqb s k) new (m.session k) = λ k.
    ⊎_elim
    (λ (e : s ≡ k). ap n.session (sym e) ∙ here ∙ sym (cond-true (eqb s k) new (m.session k) (eq-eqb s k e)))
    (λ (ne : s ≡ k → ⊥). there k (λ e. ne (sym e)) ∙ sym (cond-false (eqb s k) new (m.session k) (ne_eqb s k ne)))
    (cases_eq s k)
    in
    λ i. record { session = λ k. at k i; in_service = served i }

-- ---- one session

entered_session : (seat : Option Account) (packets : List Packet) (p : Packet) →
    session_of seat (packets ++ p ∷ []) ≡ option_map (λ t. with_waiting (t.waiting ++ p ∷ []) t) (session_of seat packets)
entered_session None packets p = refl
entered_session (Some account) packets p = refl

started_session : (seat : Option Account) (packets : List Packet) →
    session_of seat (rest_of packets) ≡ option_map (λ t. with_waiting (after_first t.waiting) t) (session_of seat packets)
started_session None packets = refl
started_session (Some account) [] = refl
started_session (Some account) (p ∷ packets) = refl

finished_session : (seat : Option Account) (packets : List Packet) (amount : ℕ) →
    session_of (option_map (with_octets amount) seat) packets ≡ option_map (credited amount) (session_of seat packets)
finished_session None packets amount = refl
finished_session (Some account) packets amount = refl

closed_none : (seat : Option Account) (packets : List Packet) → is_some seat ≡ false → waiting_while_closed seat packets ≡ 0 → packets ≡ []
closed_none None [] closed none = refl
closed_none None (p ∷ packets) closed none = let no : ⊥ = omega arith in absurd no
closed_none (Some account) packets closed none = let never : ◌≡◌ {A = ℕ} 0 1 = cc in let no : ⊥ = omega arith in absurd no

-- ---- the packet in service

entered_service : (condition : Condition) (n : ℕ) → service_of (moved condition Entered n) ≡ service_of condition
entered_service Idle n = refl
entered_service Pausing n = refl
entered_service (Carrying service) n = refl

no_service : (b : Bool) → service_of (cond b Idle Pausing) ≡ None
no_service true = refl
no_service false = refl

-- ---- the parts

pub fresh_meaning : (p : Parts) → Fresh p → meaning_in p ≡ nothing_open
fresh_meaning p new =
    let closed : (s : ℕ) → seat_at p.seats s ≡ None = λ s. ap (λ seats. seat_at seats s) new.seats ∙ repeated 64 s in
    λ i. record {
      session = λ s. ap (λ seat. session_of seat (queue p.waiting s)) (closed s) i;
      in_service = ap service_of new.condition i;
    }

-- the same seats, queues and condition have one meaning
pub same_meaning : (p q : Parts) → p.seats ≡ q.seats → p.waiting ≡ q.waiting → p.condition ≡ q.condition → meaning_in p ≡ meaning_in q
same_meaning p q seats waiting condition = λ i. record {
  session = λ s. session_of (seat_at (seats i) s) (queue (waiting i) s);
  in_service = service_of (condition i);
}

-- one seat changes
module _ (p : Parts) (s : ℕ) (seat : Option Account) (low : s < 64) where
  changed_here : session_of (seat_at (set p.seats s seat) s) (queue p.waiting s) ≡ session_of seat (queue p.waiting s)
  changed_here = ap (λ t. session_of t (queue p.waiting s)) (get_or-set_same p.seats s seat None (omega (arith, low, p.sessions)))

  changed_there : (k : ℕ) → (k ≡ s → ⊥) → session_of (seat_at (set p.seats s seat) k) (queue p.waiting k) ≡ (meaning_in p).session k
  changed_there k ne = ap (λ t. session_of t (queue p.waiting k)) (get_or-set_other p.seats s k seat None ne)

pub open_meaning :
    (p after : Parts) (s : ℕ) (terms : Terms) → s < 64 → is_some (seat_at p.seats s) ≡ false →
    waiting_while_closed (seat_at p.seats s) (queue p.waiting s) ≡ 0 → after ≡ with_seat p s (Some (new_account terms)) →
    meaning_in after ≡ after_open (meaning_in p) s terms.weight terms.limit
open_meaning p after s terms low closed none is =
    ap meaning_in is ∙
    is_with_session (meaning_in p) (meaning_in (with_seat p s (Some (new_account terms)))) s _ _
    (changed_here p s (Some (new_account terms)) low ∙ ap (session_of (Some (new_account terms))) (closed_none (seat_at p.seats s) (queue p.waiting s) closed none))
    (changed_there p s (Some (new_account terms)) low)
    refl

pub finish_meaning :
    (p after : Parts) (service : Service) → service.session < 64 → p.condition ≡ Carrying service →
    after ≡ with_condition (with_seat p service.session (option_map (with_octets (charge service.packet.length)) (seat_at p.seats service.session)))
    (moved p.condition Finished (all_waiting p.waiting)) →
    meaning_in after ≡ after_finish (meaning_in p) service.session service.packet
finish_meaning p after service low carried is =
    let s = service.session in
    let seat = option_map (with_octets (charge service.packet.length)) (seat_at p.seats s) in
    let n = all_waiting p.waiting in
    ap meaning_in is ∙
    is_with_session (meaning_in p) (meaning_in (with_condition (with_seat p s seat) (moved p.condition Finished n))) s _ _
    (changed_here p s seat low ∙ finished_session (seat_at p.seats s) (queue p.waiting s) (charge service.packet.length))
    (changed_there p s seat low)
    (ap (λ c. service_of (moved c Finished n)) carried ∙ no_service (eqb n 0))

-- one queue changes
module _ (p after : Parts) (s : ℕ) (packets : List Packet) (seats : after.seats ≡ p.seats)
    (queues : queue after.waiting ≡ put (queue p.waiting) s packets) where
  queue_here : (meaning_in after).session s ≡ session_of (seat_at p.seats s) packets
  queue_here =
      ap (λ l. session_of (seat_at l s) (queue after.waiting s)) seats
      ∙ ap (λ q. session_of (seat_at p.seats s) (q s)) queues
      ∙ ap (session_of (seat_at p.seats s)) (put_here (queue p.waiting) s packets)

  queue_there : (k : ℕ) → (k ≡ s → ⊥) → (meaning_in after).session k ≡ (meaning_in p).session k
  queue_there k ne =
      ap (λ l. session_of (seat_at l k) (queue after.waiting k)) seats
      ∙ ap (λ q. session_of (seat_at p.seats k) (q k)) queues
      ∙ ap (session_of (seat_at p.seats k)) (put_other (queue p.waiting) s packets k ne)

pub enter_meaning :
    (p after : Parts) (s : ℕ) (packet : Packet) → Entering p s packet after → meaning_in after ≡ after_enter (meaning_in p) s packet
enter_meaning p after s packet is =
    let packets = queue p.waiting s in
    is_with_session (meaning_in p) (meaning_in after) s _ _
    (queue_here p after s (packets ++ packet ∷ []) is.seats is.queues ∙ entered_session (seat_at p.seats s) packets packet)
    (queue_there p after s (packets ++ packet ∷ []) is.seats is.queues)
    (ap service_of is.condition ∙ entered_service p.condition (all_waiting after.waiting))

pub start_meaning :
    (p after : Parts) (service : Service) → p.condition ≡ Pausing → Starting p service after →
    meaning_in after ≡ after_start (meaning_in p) service.session service.packet
start_meaning p after service paused is =
    let s = service.session in
    let packets = queue p.waiting s in
    is_with_session (meaning_in p) (meaning_in after) s _ _
    (queue_here p after s (rest_of packets) is.seats is.queues ∙ started_session (seat_at p.seats s) packets)
    (queue_there p after s (rest_of packets) is.seats is.queues)
    (ap service_of (is.condition ∙ ap (λ c. moved c (Started service) (all_waiting after.waiting)) paused))
