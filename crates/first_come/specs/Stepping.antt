-- What the calls make of a line of first come.
use Rattle.std.specs.Prelude.{◌≡◌, ℕ, zero, suc, ◌+◌, ◌%◌, ◌<◌, Bool, true, false, cond, List, [], ◌∷◌, ◌++◌, length, Some, None, Ok, Err, count_by, Result, ◌≢◌, nat_eq, nat_le, nat_lt, slice_index, refl}
use Rattle.std.proofs.Math.Path.{sym, ap, subst}
use Rattle.std.proofs.Common.{◌∙◌, add-one, arith}
use Rattle.std.proofs.lemmas.Bool.{lt-ltb, le-leb, cond-true}
use Rattle.calls.specs.declared.call.Packet.{Packet}
use Rattle.calls.specs.declared.call.Service.{Service}
use Rattle.calls.specs.declared.call.Terms.{Terms}
use Rattle.calls.specs.declared.call.Call.TheVariants.{Enter, Start}
use Rattle.calls.specs.declared.refusal.Refusal.{Refusal}
use Rattle.calls.specs.declared.refusal.Refusal.TheVariants.{Full, OutOfReach}
use Rattle.sharing.specs.Rules.{check, room_beside}
use Rattle.sharing.specs.Meanings.{Meaning, nothing_open, waiting_in, all_waiting, after_open, after_enter, after_start}
use Rattle.sessions.specs.declared.state.Sessions.{Sessions}
use Rattle.sessions.specs.Meanings.{meaning_of}
use Rattle.sessions.specs.Verdicts.{verdict, settled, room_answer_at, why_open, after_served, why_put, why_start, length_answer, take_answer, after_take}
use Rattle.sessions.proofs.Using.{accepted, enterable, enter_by_room_and_reach, open_in_order, same_all_waiting, settled_open_waiting, served_waiting, enter_all_waiting, start_all_waiting, puttable, startable, takeable, nothing_waits, Puttable, put_parts, waits_below_64}
use Rattle.sessions.proofs.Generals.{Chosen}
use Rattle.first_come.specs.declared.ring.Ring.{Ring}
use Rattle.first_come.specs.declared.line.FirstCome.{FirstCome}
use Rattle.first_come.specs.Rings.{entries, entries_of, Fresh, advanced}
use Rattle.first_come.specs.Rings as rings
use Rattle.first_come.specs.Invariants.{ListsAll, arrivals_in, ArrivalsListed}
use Rattle.first_come.specs.Models.{Model, new_model, appended, why, room_in, reach_in, if_startable, take_earliest, start_answer, without_earliest, arrivals_after}
use Rattle.first_come.specs.Models as Models
use Rattle.first_come.specs.States.{model_of}
use Rattle.first_come.specs.Entries.{entries_append}
use Rattle.first_come.specs.Listing.{enter_lists, start_lists, earliest_waits}

-- the ghost field by its name
abbrev pub Ghosts : Sessions → Ring → Type 0
Ghosts sessions ring = record { listed : ArrivalsListed sessions ring }

-- ---- new

module _ (sessions : Sessions) (ring : Ring) (empty : meaning_of sessions ≡ nothing_open) (new : Fresh ring) where
  none_waits : all_waiting (meaning_of sessions) ≡ 0
  none_waits = ap all_waiting empty ∙ nothing_waits

  no_arrivals : arrivals_in sessions ring ≡ []
  no_arrivals = ap (entries_of ring) none_waits

  pub fresh_keeps : Ghosts sessions ring
  fresh_keeps = record {
    listed = λ s. ap (count_by (λ k. nat_eq k s)) no_arrivals ∙ sym (ap (λ m. length (waiting_in m s)) empty);
  }

  pub fresh_model : ◌≡◌ {A = Model} (record { meaning = meaning_of sessions; arrivals = arrivals_in sessions ring }) new_model
  fresh_model = λ i. record { meaning = empty i; arrivals = no_arrivals i }

-- ---- open and finish leave what waits

module _ (x : FirstCome) (after : Sessions) (same : (k : ℕ) → waiting_in (meaning_of after) k ≡ waiting_in (meaning_of x.sessions) k) where
  pub same_arrivals : arrivals_in after x.ring ≡ arrivals_in x.sessions x.ring
  same_arrivals = ap (entries_of x.ring) (same_all_waiting (meaning_of x.sessions) (meaning_of after) same)

  pub same_keeps : Ghosts after x.ring
  same_keeps = record {
    listed = λ s. ap (count_by (λ k. nat_eq k s)) same_arrivals ∙ x.listed s ∙ sym (ap length (same s));
  }

pub open_leaves :
    (x : FirstCome) (after : Sessions) (s weight limit : ℕ) →
    meaning_of after ≡ settled (why_open (meaning_of x.sessions) s weight limit) (meaning_of x.sessions) (after_open (meaning_of x.sessions) s weight limit) →
    (k : ℕ) → waiting_in (meaning_of after) k ≡ waiting_in (meaning_of x.sessions) k
open_leaves x after s weight limit became k = ap (λ m. waiting_in m k) became ∙ settled_open_waiting (meaning_of x.sessions) s weight limit k

pub finish_leaves :
    (x : FirstCome) (after : Sessions) (r : Result Service Refusal) → meaning_of after ≡ after_served (meaning_of x.sessions) r →
    (k : ℕ) → waiting_in (meaning_of after) k ≡ waiting_in (meaning_of x.sessions) k
finish_leaves x after r became k = ap (λ m. waiting_in m k) became ∙ served_waiting (meaning_of x.sessions) r k

-- ---- enter

pub enter_passes :
    (x : FirstCome) (s n : ℕ) (terms : Terms) → Ok terms ≡ length_answer (meaning_of x.sessions) s n → all_waiting (meaning_of x.sessions) < 256 →
    why (meaning_of x.sessions) (Enter s n 0) ≡ None
enter_passes x s n terms is room =
    let m = meaning_of x.sessions in
    let can = enterable m s n 0 terms is in
    let order = open_in_order x.sessions s can.account can.is_open in
    let left = check (nat_le n 65535) OutOfReach None in
    enter_by_room_and_reach m s n 0 (room_in m) reach_in terms is
    ∙ cond-true (nat_lt 0 (room_beside (all_waiting m))) left (Some Full) (lt-ltb 0 (room_beside (all_waiting m)) (omega arith))
    ∙ cond-true (nat_le n 65535) None (Some OutOfReach) (le-leb n 65535 (omega arith))

checked : (b : Bool) → ◌≡◌ {A = Result (Unit {0}) Refusal} (cond b (Ok tt) (Err Full)) (verdict (check b Full None) tt)
checked true = refl
checked false = refl

-- where the length passes, room alone decides
pub enter_checks :
    (x : FirstCome) (s n : ℕ) (terms : Terms) → Ok terms ≡ length_answer (meaning_of x.sessions) s n →
    room_answer_at (all_waiting (meaning_of x.sessions)) ≡ verdict (why (meaning_of x.sessions) (Enter s n 0)) tt
enter_checks x s n terms is =
    let m = meaning_of x.sessions in
    let can = enterable m s n 0 terms is in
    let order = open_in_order x.sessions s can.account can.is_open in
    let some = nat_lt 0 (room_beside (all_waiting m)) in
    let short : check (nat_le n 65535) OutOfReach None ≡ None = cond-true (nat_le n 65535) None (Some OutOfReach) (le-leb n 65535 (omega arith)) in
    checked some
    ∙ ap (λ o. verdict (check some Full o) (tt {0})) (sym short)
    ∙ sym (ap (λ o. verdict o (tt {0})) (enter_by_room_and_reach m s n 0 (room_in m) reach_in terms is))

pub enter_puts : (m : Meaning) (s n ticket : ℕ) → why m (Enter s n ticket) ≡ None → why_put m s ≡ None
enter_puts m s n ticket none =
    let can = accepted m (room_in m) reach_in s n ticket none in
    puttable m s can.session can.is_open (omega (arith, can.has_room))

module _ (x : FirstCome) (s : ℕ) (packet : Packet) (after : Sessions) (count : ℕ) (ring : Ring)
    (none : why_put (meaning_of x.sessions) s ≡ None) (counted : count ≡ all_waiting (meaning_of x.sessions))
    (became : meaning_of after ≡ settled (why_put (meaning_of x.sessions) s) (meaning_of x.sessions) (after_enter (meaning_of x.sessions) s packet))
    (is : ring ≡ rings.appended x.ring count s) where
  abbrev m : Meaning
  m = meaning_of x.sessions

  can : Puttable m s
  can = put_parts m s none

  entered : meaning_of after ≡ after_enter m s packet
  entered = became ∙ ap (λ w. settled w m (after_enter m s packet)) none

  one_more : all_waiting (meaning_of after) ≡ suc (all_waiting m)
  one_more = ap all_waiting entered ∙ enter_all_waiting m s packet can.session can.is_open ∙ add-one (all_waiting m)

  more_arrivals : arrivals_in after ring ≡ arrivals_in x.sessions x.ring ++ s ∷ []
  more_arrivals =
      ap (λ r. entries_of r (all_waiting (meaning_of after))) is
      ∙ ap (entries_of (rings.appended x.ring count s)) one_more
      ∙ entries_append x.ring.numbers s ((x.ring.head + count) % 256) x.ring.places (all_waiting m) x.ring.head x.ring.front can.room
      (ap (λ n. (x.ring.head + n) % 256) counted)

  pub append_keeps : Ghosts after ring
  append_keeps = record {
    listed = λ k. ap (count_by (λ n. nat_eq n k)) more_arrivals
        ∙ enter_lists m (arrivals_in x.sessions x.ring) s packet can.is_open x.listed k
        ∙ sym (ap (λ z. length (waiting_in z k)) entered);
  }

  pub append_model : ◌≡◌ {A = Model} (record { meaning = meaning_of after; arrivals = arrivals_in after ring }) (appended (model_of x) s packet)
  append_model = λ i. record { meaning = entered i; arrivals = more_arrivals i }

-- ---- start

positive : (n : ℕ) → 0 < n → (k : ℕ) × (n ≡ suc k)
positive zero some = let no : ⊥ = omega arith in absurd no
positive (suc k) some = (k, refl)

module _ (x : FirstCome) where
  abbrev before : Meaning
  before = meaning_of x.sessions

  abbrev arrived : List ℕ
  arrived = arrivals_in x.sessions x.ring

  abbrev earliest : ℕ
  earliest = slice_index x.ring.numbers x.ring.head

  pub start_refused : (e : Refusal) → why_start (meaning_of x.sessions) ≡ Some e → start_answer (model_of x) ≡ Err e
  start_refused e is = ap (λ w. if_startable w (take_earliest before arrived)) is

  module _ (ready : why_start (meaning_of x.sessions) ≡ None) where
    left : (k : ℕ) × (all_waiting before ≡ suc k)
    left = positive (all_waiting before) (startable before ready).1

    later : List ℕ
    later = entries x.ring.numbers ((x.ring.head + 1) % 256) left.0

    arrivals_are : arrived ≡ earliest ∷ later
    unfolding later
    arrivals_are = ap (entries_of x.ring) left.1

    lists : ListsAll before (earliest ∷ later)
    lists k = ap (count_by (λ n. nat_eq n k)) (sym arrivals_are) ∙ x.listed k

    waits : (first : Packet) × (rest : List Packet) × (waiting_in before earliest ≡ first ∷ rest)
    waits = earliest_waits before earliest later lists

    pub taken : Service
    taken = record { session = slice_index x.ring.numbers x.ring.head; packet = waits.0 }

    pub takes : take_answer (meaning_of x.sessions) (slice_index x.ring.numbers x.ring.head) ≡ Ok taken
    unfolding taken
    takes =
        takeable before earliest waits.0 waits.1 (startable before ready).0 (waits_below_64 x.sessions earliest waits.0 waits.1 waits.2) waits.2

    -- so the take is not refused
    pub never_refused : (s : ℕ) (e : Refusal) → s ≡ slice_index x.ring.numbers x.ring.head → Err e ≢ take_answer (meaning_of x.sessions) s
    never_refused s e is refused =
        let ok : take_answer before s ≡ Ok taken = ap (take_answer before) is ∙ takes in
        let never : ◌≡◌ {A = ℕ} 0 1 = cc in omega arith

    pub start_takes : start_answer (model_of x) ≡ Ok taken
    start_takes =
        ap (λ w. if_startable w (take_earliest before arrived)) ready ∙ ap (take_earliest before) arrivals_are ∙ takes

    pub start_chosen : Chosen (meaning_of x.sessions) (start_answer (model_of x))
    unfolding taken
    start_chosen = subst (Chosen before) (sym start_takes) (ready, (waits.1, waits.2))

    module _ (after : Sessions) (ring : Ring) (r : Result Service Refusal)
        (answer : r ≡ take_answer (meaning_of x.sessions) (slice_index x.ring.numbers x.ring.head))
        (became : meaning_of after ≡ after_take (meaning_of x.sessions) r) (is : ring ≡ advanced x.ring) where
      started : meaning_of after ≡ after_start before earliest waits.0
      unfolding taken
      started = became ∙ ap (after_take before) (answer ∙ takes)

      one_less : all_waiting (meaning_of after) ≡ left.0
      one_less =
          let fell : all_waiting (after_start before earliest waits.0) + 1 ≡ all_waiting before =
          start_all_waiting before earliest waits.0 waits.0 waits.1 (waits_below_64 x.sessions earliest waits.0 waits.1 waits.2) waits.2 in
          let to : all_waiting (meaning_of after) ≡ all_waiting (after_start before earliest waits.0) = ap all_waiting started in
          let was : all_waiting before ≡ suc left.0 = left.1 in
          omega arith

      less_arrivals : arrivals_in after ring ≡ later
      unfolding later
      less_arrivals = ap (λ z. entries_of z (all_waiting (meaning_of after))) is ∙ ap (entries_of (advanced x.ring)) one_less

      pub start_keeps : Ghosts after ring
      start_keeps = record {
        listed = λ k. ap (count_by (λ n. nat_eq n k)) less_arrivals
            ∙ start_lists before earliest later waits.0 waits.0 waits.1 waits.2 lists k
            ∙ sym (ap (λ z. length (waiting_in z k)) started);
      }

      pub start_model : ◌≡◌ {A = Model} (record { meaning = meaning_of after; arrivals = arrivals_in after ring }) (Models.after (model_of x) Start)
      unfolding taken
      start_model = λ i. record {
        meaning = (became ∙ ap (after_take before) (answer ∙ takes ∙ sym start_takes)) i;
        arrivals = (less_arrivals ∙ ap without_earliest (sym arrivals_are) ∙ ap (arrivals_after arrived) (sym start_takes)) i;
      }
