-- What the calls answer and make of the meaning, from what their parts ensure.
use Rattle.std.proofs.Common.{◌≡◌, ℕ, ◌<◌, true, cond, not, ltb, ◌∷◌, length, set, option_map, is_some as option_is_some, Some, None, Ok, Err, Option, Result, sym, refl, ap, ◌∙◌, subst, arith}
use Rattle.std.proofs.lemmas.Bool.{cond-true, cond-false, lt-ltb, le-ltb}
use Rattle.calls.specs.Strides.{charge}
use Rattle.calls.specs.declared.call.Packet.{Packet}
use Rattle.calls.specs.declared.call.Service.{Service}
use Rattle.calls.specs.declared.call.Terms.{Terms}
use Rattle.calls.specs.declared.refusal.Refusal.{Refusal}
use Rattle.calls.specs.declared.refusal.Refusal.TheVariants.{NoSuchSession, NothingWaiting, ServerBusy}
use Rattle.waiting.specs.Queues.{queue, first_of, rest_of, put, first_answer}
use Rattle.waiting.specs.Queues as queues
use Rattle.waiting.proofs.Using.{first_some, of_session_ok, of_session_err}
use Rattle.sharing.specs.Rules.{open_refusal}
use Rattle.sharing.specs.Meanings.{waiting_in, after_open, after_enter, after_start, after_finish}
use Rattle.sessions.specs.declared.condition.Condition.{Condition}
use Rattle.sessions.specs.declared.condition.Condition.TheVariants.{Idle, Pausing, Carrying}
use Rattle.sessions.specs.declared.condition.Event.TheVariants.{Finished}
use Rattle.sessions.specs.declared.parts.Parts.{Parts}
use Rattle.sessions.specs.declared.state.Sessions.{Sessions}
use Rattle.sessions.specs.Seats.{seat_at, new_account, with_octets}
use Rattle.sessions.specs.Conditions.{moved, free_from, service_of}
use Rattle.sessions.specs.Steps.{Entering, Starting, with_seat, with_condition}
use Rattle.sessions.specs.Meanings.{meaning_in, meaning_of}
use Rattle.sessions.specs.Verdicts.{verdict, settled, why_open, why_put, taken, take_answer, served, finish_answer}
use Rattle.sessions.proofs.Reading.{open_is_some, waiting_is_queue, all_waiting_is_total}
use Rattle.sessions.proofs.Keeping.{Ghosts, ghosts, no_reason, the_reason, Openable, openable, seat_keeps, must_pause, carrying, serves_below, enter_keeps, start_keeps, finish_keeps}
use Rattle.sessions.proofs.Using.{Puttable, put_parts}
use Rattle.sessions.proofs.Changing.{same_meaning, open_meaning, enter_meaning, start_meaning, finish_meaning}

-- ---- refused or not

pub settles : {X A : Type 0} (why : Option Refusal) (value given : A) (before after found : X) → Ok given ≡ verdict why value → found ≡ after →
    found ≡ settled why before after
settles why value given before after found ok is = is ∙ sym (ap (λ w. settled w before after) (no_reason why value given ok))

pub stays : {X A : Type 0} (why : Option Refusal) (value : A) (before after : X) (e : Refusal) → Err e ≡ verdict why value → before ≡ settled why before after
stays why value before after e refused = sym (ap (λ w. settled w before after) (the_reason why value e refused))

-- ---- open

module _ (x : Sessions) (s weight limit : ℕ) where
  abbrev terms : Terms
  terms = record { weight = weight; limit = limit }

  pub open_verdict :
      verdict (open_refusal (option_is_some (seat_at x.parts.seats s)) s weight limit) (tt {0}) ≡
      verdict (why_open (meaning_of x) s weight limit) (tt {0})
  unfolding meaning_of
  open_verdict =
      ap (λ b. verdict (open_refusal b s weight limit) (tt {0}))
      (sym (open_is_some (seat_at x.parts.seats s) (queue x.parts.waiting s)))

  module _ (ok : Ok (tt {0}) ≡ verdict (why_open (meaning_of x) s weight limit) (tt {0})) where
    can_open : Openable (option_is_some (seat_at x.parts.seats s)) s terms
    can_open =
        openable (option_is_some (seat_at x.parts.seats s)) s terms
        (no_reason (open_refusal (option_is_some (seat_at x.parts.seats s)) s weight limit) (tt {0}) (tt {0}) (ok ∙ sym open_verdict))

    pub open_below : s < 64
    open_below = can_open.session

    pub open_keeps : (after : Parts) → after ≡ with_seat x.parts s (Some (new_account terms)) → Ghosts after
    open_keeps after is =
        subst Ghosts (sym is) (seat_keeps x.parts (ghosts x) s (Some (new_account terms)) can_open.session refl can_open.terms)

    pub opened : (y : Sessions) → y.parts.seats ≡ set x.parts.seats s (Some (new_account terms)) → y.parts.waiting ≡ x.parts.waiting →
        y.parts.condition ≡ x.parts.condition →
        meaning_of y ≡ settled (why_open (meaning_of x) s weight limit) (meaning_of x) (after_open (meaning_of x) s weight limit)
    unfolding meaning_of
    opened y seats waiting condition =
        settles (why_open (meaning_of x) s weight limit) (tt {0}) (tt {0}) (meaning_of x)
        (after_open (meaning_of x) s weight limit) (meaning_of y) ok
        (same_meaning y.parts (with_seat x.parts s (Some (new_account terms))) seats waiting condition
        ∙ open_meaning x.parts (with_seat x.parts s (Some (new_account terms))) s terms open_below can_open.closed (x.closed s) refl)

-- ---- put

module _ (x : Sessions) (s : ℕ) (ok : Ok (tt {0}) ≡ verdict (why_put (meaning_of x) s) (tt {0})) where
  can_put : Puttable (meaning_of x) s
  can_put = put_parts (meaning_of x) s (no_reason (why_put (meaning_of x) s) (tt {0}) (tt {0}) ok)

  pub put_below : s < 64
  put_below = can_put.session

  pub put_open : option_is_some (seat_at x.parts.seats s) ≡ true
  unfolding meaning_of
  put_open = sym (open_is_some (seat_at x.parts.seats s) (queue x.parts.waiting s)) ∙ can_put.is_open

  pub put_room : queues.all_waiting x.parts.waiting < 256
  put_room = omega (arith, all_waiting_is_total x, can_put.room)

  pub entered : (y : Sessions) (packet : Packet) → Entering x.parts s packet y.parts →
      meaning_of y ≡ settled (why_put (meaning_of x) s) (meaning_of x) (after_enter (meaning_of x) s packet)
  unfolding meaning_of
  entered y packet is =
      settles (why_put (meaning_of x) s) (tt {0}) (tt {0}) (meaning_of x) (after_enter (meaning_of x) s packet) (meaning_of y) ok
      (enter_meaning x.parts y.parts s packet is)

pub put_keeps :
    (x : Sessions) (s : ℕ) (packet : Packet) (after : Parts) → Entering x.parts s packet after →
    Ok (tt {0}) ≡ verdict (why_put (meaning_of x) s) (tt {0}) → Ghosts after
put_keeps x s packet after is ok = enter_keeps x.parts (ghosts x) s packet after (put_below x s ok) (put_open x s ok) is

-- ---- take

busy : (condition : Condition) (others : Result Service Refusal) (e : Refusal) → Err e ≡ free_from condition →
    Err e ≡ cond (not (option_is_some (service_of condition))) others (Err ServerBusy)
busy Idle others e is = let never : ◌≡◌ {A = ℕ} 0 1 = cc in let no : ⊥ = omega arith in absurd no
busy Pausing others e is = let never : ◌≡◌ {A = ℕ} 0 1 = cc in let no : ⊥ = omega arith in absurd no
busy (Carrying service) others e is = cc

free : (condition : Condition) (others : Result Service Refusal) → Ok (tt {0}) ≡ free_from condition →
    others ≡ cond (not (option_is_some (service_of condition))) others (Err ServerBusy)
free Idle others is = refl
free Pausing others is = refl
free (Carrying service) others is = let never : ◌≡◌ {A = ℕ} 0 1 = cc in let no : ⊥ = omega arith in absurd no

module _ (x : Sessions) (s : ℕ) where
  pub take_busy : (e : Refusal) → Err e ≡ free_from x.parts.condition → Err e ≡ take_answer (meaning_of x) s
  unfolding meaning_of
  take_busy e is = busy x.parts.condition (cond (ltb s 64) (taken s (first_of (waiting_in (meaning_of x) s))) (Err NoSuchSession)) e is

  module _ (idle : Ok (tt {0}) ≡ free_from x.parts.condition) where
    take_free : cond (ltb s 64) (taken s (first_of (waiting_in (meaning_of x) s))) (Err NoSuchSession) ≡ take_answer (meaning_of x) s
    unfolding meaning_of
    take_free = free x.parts.condition (cond (ltb s 64) (taken s (first_of (waiting_in (meaning_of x) s))) (Err NoSuchSession)) idle

    pub take_past : (e : Refusal) → Err e ≡ first_answer (queue x.parts.waiting) s → Err e ≡ take_answer (meaning_of x) s
    take_past e is =
        let past = of_session_err s (first_of (queue x.parts.waiting s)) e (sym is) in
        ap Err past.1
        ∙ sym (cond-false (ltb s 64) (taken s (first_of (waiting_in (meaning_of x) s))) (Err NoSuchSession) (le-ltb s 64 past.0)) ∙ take_free

    pub take_first : (o : Option Packet) → Ok o ≡ first_answer (queue x.parts.waiting) s → taken s o ≡ take_answer (meaning_of x) s
    take_first o is =
        let ok = of_session_ok s (first_of (queue x.parts.waiting s)) o (sym is) in
        ap (taken s) (sym ok.1 ∙ ap first_of (sym (waiting_is_queue x s)))
        ∙ sym (cond-true (ltb s 64) (taken s (first_of (waiting_in (meaning_of x) s))) (Err NoSuchSession) (lt-ltb s 64 ok.0)) ∙ take_free

    pub take_none : (o : Option Packet) → Ok o ≡ first_answer (queue x.parts.waiting) s → o ≡ None → Err NothingWaiting ≡ take_answer (meaning_of x) s
    take_none o is none = ap (taken s) (sym none) ∙ take_first o is

    module _ (o : Option Packet) (packet : Packet) (answer : Ok o ≡ first_answer (queue x.parts.waiting) s) (is_some : o ≡ Some packet) where
      found : (s < 64) × (queue x.parts.waiting s ≡ packet ∷ rest_of (queue x.parts.waiting s))
      found = first_some (queue x.parts.waiting) s packet (sym answer ∙ ap Ok is_some)

      take_low : s < 64
      take_low = found.0

      pub take_ok : Ok (record { session = s; packet = packet }) ≡ take_answer (meaning_of x) s
      take_ok = ap (taken s) (sym is_some) ∙ take_first o answer

      take_some : 0 < length (queue x.parts.waiting s)
      take_some = omega (arith, ap length found.1)

      module _ (after : Parts) (is : Starting x.parts (record { session = s; packet = packet }) after) where
        pub take_keeps : Ghosts after
        take_keeps = start_keeps x.parts (ghosts x) (record { session = s; packet = packet }) after take_low take_some idle is

        pub took : (y : Sessions) → y.parts ≡ after → meaning_of y ≡ after_start (meaning_of x) s packet
        unfolding meaning_of
        took y same =
            ap meaning_in same
            ∙ start_meaning x.parts after (record { session = s; packet = packet }) (must_pause x.parts (ghosts x) s take_low take_some idle) is

-- ---- finish

module _ (x : Sessions) where
  pub finish_verdict : served (service_of x.parts.condition) ≡ finish_answer (meaning_of x)
  unfolding meaning_of
  finish_verdict = refl

  module _ (service : Service) (ok : Ok service ≡ served (service_of x.parts.condition)) where
    carries : x.parts.condition ≡ Carrying service
    carries = carrying x.parts.condition service ok

    pub finish_below : service.session < 64
    finish_below = serves_below x.parts (ghosts x) service carries

    module _ (after : Parts)
        (is : after ≡ with_condition (with_seat x.parts service.session (option_map (with_octets (charge service.packet.length)) (seat_at x.parts.seats service.session)))
        (moved x.parts.condition Finished (queues.all_waiting x.parts.waiting))) where
      pub finished_keeps : Ghosts after
      finished_keeps = finish_keeps x.parts (ghosts x) service (charge service.packet.length) after carries is

    pub finished :
        (y : Sessions) → y.parts.seats ≡ set x.parts.seats service.session (option_map (with_octets (charge service.packet.length)) (seat_at x.parts.seats service.session)) →
        y.parts.waiting ≡ x.parts.waiting → y.parts.condition ≡ moved x.parts.condition Finished (queues.all_waiting x.parts.waiting) →
        meaning_of y ≡ after_finish (meaning_of x) service.session service.packet
    unfolding meaning_of
    finished y seats waiting condition =
        let after : Parts = with_condition (with_seat x.parts service.session (option_map (with_octets (charge service.packet.length)) (seat_at x.parts.seats service.session)))
        (moved x.parts.condition Finished (queues.all_waiting x.parts.waiting)) in
        same_meaning y.parts after seats waiting condition ∙ finish_meaning x.parts after service finish_below carries refl
