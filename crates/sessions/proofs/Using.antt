-- What a caller learns from the contracts, in the forms that its proofs want.
use Rattle.std.proofs.Common.{◌≡◌, ℕ, ◌+◌, ◌<◌, ◌≤◌, Bool, true, false, cond, not, eqb, ltb, leb, List, [], ◌∷◌, ◌++◌, length, is_some, Some, None, Ok, Err, Option, Result, sym, refl, ap, ◌∙◌, ⊎_elim, arith}
use Rattle.std.specs.Option.{option_map}
use Rattle.std.proofs.lemmas.List.{length_push}
use Rattle.std.proofs.lemmas.Bool.{cases_eq, cases_Bool, both_ways, cond-true, cond-false, eq-eqb, ne_eqb, ltb-true, leb-true, lt-ltb, and_parts}
use Rattle.calls.specs.Strides.{within}
use Rattle.calls.specs.declared.call.Packet.{Packet}
use Rattle.calls.specs.declared.call.Service.{Service}
use Rattle.calls.specs.declared.call.Terms.{Terms}
use Rattle.calls.specs.declared.call.Call.TheVariants.{Enter}
use Rattle.calls.specs.declared.refusal.Refusal.{Refusal}
use Rattle.calls.specs.declared.refusal.Refusal.TheVariants.{NoSuchSession, NotOpen, BadLength, Full, OutOfReach, NothingWaiting, ServerBusy}
use Rattle.waiting.specs.Queues.{queue, first_of}
use Rattle.waiting.proofs.Sums.{sum_below_none, sum_below_same, sum_below_changed}
use Rattle.waiting.proofs.Using.{at_most_256_wait, none_waiting}
use Rattle.sharing.specs.Rules.{check, length_refusal, room_beside}
use Rattle.sharing.specs.Meanings.{Meaning, Session, nothing_open, waiting_of, waiting_in, all_waiting, refusal, with_session, with_waiting, after_first, credited, after_open, after_enter, after_start, after_finish}
use Rattle.sessions.specs.declared.seat.Account.{Account}
use Rattle.sessions.specs.declared.condition.Condition.{Condition}
use Rattle.sessions.specs.declared.condition.Condition.TheVariants.{Idle, Pausing, Carrying}
use Rattle.sessions.specs.declared.state.Sessions.{Sessions}
use Rattle.sessions.specs.Seats.{seat_at, terms_within, session_of}
use Rattle.sessions.specs.Conditions.{service_of}
use Rattle.sessions.specs.Meanings.{meaning_of}
use Rattle.sessions.specs.Verdicts.{settled, why_open, why_put, why_start, after_served, length_of, length_answer, taken, take_answer}
use Rattle.sessions.proofs.Reading.{open_is_some, waiting_is_queue, all_waiting_is_total}
use Rattle.sessions.proofs.Keeping.{ghosts, passed, openable, open_below, serves}

-- ---- what always holds

-- what an open session is
pub record InOrder (s : ℕ) (t : Session) : Type 0 where
  pub session : s < 64
  pub some_weight : 0 < t.weight
  pub weight : t.weight ≤ 16
  pub some_limit : 0 < t.limit
  pub limit : t.limit ≤ 65535

in_order : (seat : Option Account) (packets : List Packet) (s : ℕ) (t : Session) → s < 64 → terms_within seat ≡ true → session_of seat packets ≡ Some t → InOrder s t
in_order None packets s t low fit is = let never : ◌≡◌ {A = ℕ} 0 1 = cc in let no : ⊥ = omega arith in absurd no
in_order (Some account) packets s t low fit is =
    let parts = and_parts (within account.terms.weight 16) (within account.terms.limit 65535) fit in
    let weights = and_parts (ltb 0 account.terms.weight) (leb account.terms.weight 16) parts.0 in
    let limits = and_parts (ltb 0 account.terms.limit) (leb account.terms.limit 65535) parts.1 in
    let weight : account.terms.weight ≡ t.weight = cc in
    let limit : account.terms.limit ≡ t.limit = cc in
    record {
      session = low;
      some_weight = omega (arith, ltb-true 0 account.terms.weight weights.0);
      weight = omega (arith, leb-true account.terms.weight 16 weights.1);
      some_limit = omega (arith, ltb-true 0 account.terms.limit limits.0);
      limit = omega (arith, leb-true account.terms.limit 65535 limits.1);
    }

some_open : (seat : Option Account) (packets : List Packet) (t : Session) → session_of seat packets ≡ Some t → is_some seat ≡ true
some_open seat packets t is = sym (open_is_some seat packets) ∙ ap is_some is

carried : (condition : Condition) (service : Service) → service_of condition ≡ Some service → condition ≡ Carrying service
carried Idle service is = let never : ◌≡◌ {A = ℕ} 0 1 = cc in let no : ⊥ = omega arith in absurd no
carried Pausing service is = let never : ◌≡◌ {A = ℕ} 0 1 = cc in let no : ⊥ = omega arith in absurd no
carried (Carrying other) service is = cc

some_session : (o : Option Session) (first : Packet) (rest : List Packet) → waiting_of o ≡ first ∷ rest → (t : Session) × (o ≡ Some t)
some_session None first rest is = let never : ◌≡◌ {A = ℕ} 0 1 = cc in let no : ⊥ = omega arith in absurd no
some_session (Some t) first rest is = (t, refl)

module _ (x : Sessions) where
  pub at_most_256 : all_waiting (meaning_of x) ≤ 256
  at_most_256 = omega (arith, all_waiting_is_total x, at_most_256_wait x.parts.waiting)

  pub open_in_order : (s : ℕ) (t : Session) → (meaning_of x).session s ≡ Some t → InOrder s t
  unfolding meaning_of
  open_in_order s t is =
      let seat = seat_at x.parts.seats s in
      let packets = queue x.parts.waiting s in
      in_order seat packets s t (omega (arith, open_below x.parts.seats s (some_open seat packets t is), x.parts.sessions)) (x.terms s) is

  -- a session with a waiting packet is open, and so below 64
  pub waits_below_64 : (s : ℕ) (first : Packet) (rest : List Packet) → waiting_in (meaning_of x) s ≡ first ∷ rest → s < 64
  waits_below_64 s first rest is =
      let opened = some_session ((meaning_of x).session s) first rest is in
      (open_in_order s opened.0 opened.1).session

  -- the session of the packet in service is open, and so below 64
  pub serves_an_open : (service : Service) → (meaning_of x).in_service ≡ Some service → is_some ((meaning_of x).session service.session) ≡ true
  unfolding meaning_of
  serves_an_open service is =
      let s = service.session in
      open_is_some (seat_at x.parts.seats s) (queue x.parts.waiting s)
      ∙ serves x.parts (ghosts x) service (carried x.parts.condition service is)

  pub serves_below_64 : (service : Service) → (meaning_of x).in_service ≡ Some service → service.session < 64
  unfolding meaning_of
  serves_below_64 service is =
      omega (arith, open_below x.parts.seats service.session (serves x.parts (ghosts x) service (carried x.parts.condition service is)), x.parts.sessions)

  -- where nothing waits, no session has a packet
  pub no_queue : all_waiting (meaning_of x) ≡ 0 → (s : ℕ) → waiting_in (meaning_of x) s ≡ []
  no_queue none s =
      let all : queue x.parts.waiting ≡ (λ k. []) = none_waiting x.parts.waiting (omega (arith, all_waiting_is_total x)) in
      waiting_is_queue x s ∙ ap (λ q. q s) all

-- ---- what waits, after a change of one session

module _ (m : Meaning) (s : ℕ) (new : Option Session) (service : Option Service) where
  pub session_here : (with_session m s new service).session s ≡ new
  session_here = cond-true (eqb s s) new (m.session s) (eq-eqb s s refl)

  pub session_there : (k : ℕ) → (k ≡ s → ⊥) → (with_session m s new service).session k ≡ m.session k
  session_there k ne = cond-false (eqb s k) new (m.session k) (ne_eqb s k (λ e. ne (sym e)))

  pub waiting_here : waiting_in (with_session m s new service) s ≡ waiting_of new
  waiting_here = ap waiting_of session_here

  pub waiting_there : (k : ℕ) → (k ≡ s → ⊥) → waiting_in (with_session m s new service) k ≡ waiting_in m k
  waiting_there k ne = ap waiting_of (session_there k ne)

  all_waiting_changed : s < 64 → all_waiting (with_session m s new service) + length (waiting_in m s) ≡ all_waiting m + length (waiting_of new)
  all_waiting_changed low =
      omega (
        arith,
        sum_below_changed 64 (λ k. length (waiting_in m k)) (λ k. length (waiting_in (with_session m s new service) k)) s low
            (λ k ne. ap length (waiting_there k ne)),
        ap length waiting_here,
      )

  -- what waits at the session is as it was
  same_waiting : waiting_of new ≡ waiting_in m s → (k : ℕ) → waiting_in (with_session m s new service) k ≡ waiting_in m k
  same_waiting same k =
      ⊎_elim (λ (e : k ≡ s). ap (waiting_in (with_session m s new service)) e ∙ waiting_here ∙ same ∙ ap (waiting_in m) (sym e)) (waiting_there k) (cases_eq k s)

waiting_entered : (o : Option Session) (packet : Packet) → is_some o ≡ true →
    waiting_of (option_map (λ t. with_waiting (t.waiting ++ packet ∷ []) t) o) ≡ waiting_of o ++ packet ∷ []
waiting_entered None packet opened = absurd (both_ways false refl opened)
waiting_entered (Some t) packet opened = refl

waiting_started : (o : Option Session) → waiting_of (option_map (λ t. with_waiting (after_first t.waiting) t) o) ≡ after_first (waiting_of o)
waiting_started None = refl
waiting_started (Some t) = refl

waiting_finished : (o : Option Session) (amount : ℕ) → waiting_of (option_map (credited amount) o) ≡ waiting_of o
waiting_finished None amount = refl
waiting_finished (Some t) amount = refl

waiting_closed : (o : Option Session) → is_some o ≡ false → waiting_of o ≡ []
waiting_closed None closed = refl
waiting_closed (Some t) closed = absurd (both_ways true closed refl)

by_reason : (before after : Meaning) (k : ℕ) (why : Option Refusal) → (why ≡ None → waiting_in after k ≡ waiting_in before k) →
    waiting_in (settled why before after) k ≡ waiting_in before k
by_reason before after k None same = same refl
by_reason before after k (Some reason) same = refl

pub nothing_waits : all_waiting nothing_open ≡ 0
nothing_waits = sum_below_none 64 (λ s. length (waiting_in nothing_open s)) (λ s low. refl)

-- where the same packets wait, as many wait
pub same_all_waiting : (m n : Meaning) → ((k : ℕ) → waiting_in n k ≡ waiting_in m k) → all_waiting n ≡ all_waiting m
same_all_waiting m n same = sum_below_same 64 (λ k. length (waiting_in m k)) (λ k. length (waiting_in n k)) (λ k low. ap length (same k))

module _ (m : Meaning) (s : ℕ) where
  -- opening and finishing leave what waits
  pub open_waiting : (weight limit : ℕ) → is_some (m.session s) ≡ false → (k : ℕ) → waiting_in (after_open m s weight limit) k ≡ waiting_in m k
  open_waiting weight limit closed = same_waiting m s _ m.in_service (sym (waiting_closed (m.session s) closed))

  pub settled_open_waiting : (weight limit k : ℕ) →
      waiting_in (settled (why_open m s weight limit) m (after_open m s weight limit)) k ≡ waiting_in m k
  settled_open_waiting weight limit k =
      by_reason m (after_open m s weight limit) k (why_open m s weight limit)
      (λ none. open_waiting weight limit (openable (is_some (m.session s)) s (record { weight = weight; limit = limit }) none).closed k)

  pub finish_waiting : (packet : Packet) (k : ℕ) → waiting_in (after_finish m s packet) k ≡ waiting_in m k
  finish_waiting packet = same_waiting m s _ None (waiting_finished (m.session s) packet.length)

  -- a packet more
  pub enter_waiting_here : (packet : Packet) → is_some (m.session s) ≡ true → waiting_in (after_enter m s packet) s ≡ waiting_in m s ++ packet ∷ []
  enter_waiting_here packet opened = waiting_here m s _ m.in_service ∙ waiting_entered (m.session s) packet opened

  pub enter_waiting_there : (packet : Packet) (k : ℕ) → (k ≡ s → ⊥) → waiting_in (after_enter m s packet) k ≡ waiting_in m k
  enter_waiting_there packet = waiting_there m s _ m.in_service

  pub enter_all_waiting : (packet : Packet) → s < 64 → is_some (m.session s) ≡ true → all_waiting (after_enter m s packet) ≡ all_waiting m + 1
  enter_all_waiting packet low opened =
      let new = option_map (λ t. with_waiting (t.waiting ++ packet ∷ []) t) (m.session s) in
      omega (
        arith,
        all_waiting_changed m s new m.in_service low,
        ap length (waiting_entered (m.session s) packet opened),
        length_push (waiting_in m s) packet,
      )

  -- a packet less
  pub start_waiting_here : (packet : Packet) → waiting_in (after_start m s packet) s ≡ after_first (waiting_in m s)
  start_waiting_here packet = waiting_here m s _ (Some (record { session = s; packet = packet })) ∙ waiting_started (m.session s)

  pub start_waiting_there : (packet : Packet) (k : ℕ) → (k ≡ s → ⊥) → waiting_in (after_start m s packet) k ≡ waiting_in m k
  start_waiting_there packet = waiting_there m s _ (Some (record { session = s; packet = packet }))

  pub start_all_waiting :
      (packet first : Packet) (rest : List Packet) → s < 64 → waiting_in m s ≡ first ∷ rest → all_waiting (after_start m s packet) + 1 ≡ all_waiting m
  start_all_waiting packet first rest low is =
      let new = option_map (λ t. with_waiting (after_first t.waiting) t) (m.session s) in
      omega (
        arith,
        all_waiting_changed m s new (Some (record { session = s; packet = packet })) low,
        ap length (waiting_started (m.session s)),
        ap length is,
        ap (λ ps. length (after_first ps)) is,
      )

pub served_waiting : (m : Meaning) (r : Result Service Refusal) (k : ℕ) → waiting_in (after_served m r) k ≡ waiting_in m k
served_waiting m (Ok service) k = finish_waiting m service.session service.packet k
served_waiting m (Err reason) k = refl

-- ---- entering: the checks of `check_length` come before those of room and reach

pub record Enterable (m : Meaning) (s n : ℕ) (terms : Terms) : Type 0 where
  pub session : s < 64
  pub account : Session
  pub is_open : m.session s ≡ Some account
  pub is_terms : terms ≡ record { weight = account.weight; limit = account.limit }
  pub some : 0 < n
  pub most : n ≤ account.limit

length_ok : (o : Option Session) (n : ℕ) (terms : Terms) → Ok terms ≡ length_of n o →
    (t : Session) × (o ≡ Some t) × (within n t.limit ≡ true) × (terms ≡ record { weight = t.weight; limit = t.limit })
length_ok None n terms is = let never : ◌≡◌ {A = ℕ} 0 1 = cc in let no : ⊥ = omega arith in absurd no
length_ok (Some t) n terms is =
    ⊎_elim
    (λ (fits : within n t.limit ≡ true).
    let ok : length_of n (Some t) ≡ Ok (record { weight = t.weight; limit = t.limit }) = cond-true (within n t.limit) _ (Err BadLength) fits in
    (t, refl, fits, (cc)))
    (λ (fails : within n t.limit ≡ false).
    let err : length_of n (Some t) ≡ Err BadLength = cond-false (within n t.limit) (Ok (record { weight = t.weight; limit = t.limit })) (Err BadLength) fails in
    let never : ◌≡◌ {A = ℕ} 0 1 = cc in let no : ⊥ = omega arith in absurd no)
    (cases_Bool (within n t.limit))

length_err : (o : Option Session) (n room reach : ℕ) (e : Refusal) → Err e ≡ length_of n o → length_refusal (option_map (λ t. t.limit) o) room reach n ≡ Some e
length_err None n room reach e is = cc
length_err (Some t) n room reach e is =
    ⊎_elim
    (λ (fits : within n t.limit ≡ true).
    let ok : length_of n (Some t) ≡ Ok (record { weight = t.weight; limit = t.limit }) = cond-true (within n t.limit) _ (Err BadLength) fits in
    let never : ◌≡◌ {A = ℕ} 0 1 = cc in let no : ⊥ = omega arith in absurd no)
    (λ (fails : within n t.limit ≡ false).
    let err : length_of n (Some t) ≡ Err BadLength = cond-false (within n t.limit) (Ok (record { weight = t.weight; limit = t.limit })) (Err BadLength) fails in
    let same : e ≡ BadLength = cc in
    cond-false (within n t.limit) _ (Some BadLength) fails ∙ ap Some (sym same))
    (cases_Bool (within n t.limit))

-- what passes, and what does not pass, a first test
first_ok : {X E : Type 0} (b : Bool) (r : Result X E) (e : E) (x : X) → Ok x ≡ cond b r (Err e) → (b ≡ true) × (Ok x ≡ r)
first_ok true r e x is = (refl, is)
first_ok false r e x is = let never : ◌≡◌ {A = ℕ} 0 1 = cc in let no : ⊥ = omega arith in absurd no

first_err : {X : Type 0} (b : Bool) (r : Result X Refusal) (o : Option Refusal) (first e : Refusal) → Err e ≡ cond b r (Err first) →
    (Err e ≡ r → o ≡ Some e) → check b first o ≡ Some e
first_err true r o first e is others = others is
first_err false r o first e is others = cc

module _ (m : Meaning) (s n ticket : ℕ) where
  pub enterable : (terms : Terms) → Ok terms ≡ length_answer m s n → Enterable m s n terms
  enterable terms is =
      let low = first_ok (ltb s 64) (length_of n (m.session s)) NoSuchSession terms is in
      let ok = length_ok (m.session s) n terms low.1 in
      let fits = and_parts (ltb 0 n) (leb n ok.0.limit) ok.2 in
      record {
        session = ltb-true s 64 low.0;
        account = ok.0;
        is_open = ok.1;
        is_terms = ok.3;
        some = ltb-true 0 n fits.0;
        most = leb-true n ok.0.limit fits.1;
      }

  module _ (room reach : ℕ → ℕ) where
    pub enter_refused_by_length : (e : Refusal) → Err e ≡ length_answer m s n → refusal m room reach (Enter s n ticket) ≡ Some e
    enter_refused_by_length e is =
        first_err (ltb s 64) (length_of n (m.session s)) _ NoSuchSession e is (length_err (m.session s) n (room s) (reach s) e)

    -- what is left to check
    pub enter_by_room_and_reach :
        (terms : Terms) → Ok terms ≡ length_answer m s n →
        refusal m room reach (Enter s n ticket) ≡ check (ltb 0 (room s)) Full (check (leb n (reach s)) OutOfReach None)
    enter_by_room_and_reach terms is =
        let low = first_ok (ltb s 64) (length_of n (m.session s)) NoSuchSession terms is in
        let ok = length_ok (m.session s) n terms low.1 in
        cond-true (ltb s 64) (length_refusal (option_map (λ t. t.limit) (m.session s)) (room s) (reach s) n) (Some NoSuchSession) low.0
        ∙ ap (λ o. length_refusal (option_map (λ t. t.limit) o) (room s) (reach s) n) ok.1
        ∙ cond-true (within n ok.0.limit) (check (ltb 0 (room s)) Full (check (leb n (reach s)) OutOfReach None)) (Some BadLength) ok.2

-- a packet may enter
pub record Accepted (m : Meaning) (room reach : ℕ → ℕ) (s n : ℕ) : Type 0 where
  pub session : s < 64
  pub is_open : is_some (m.session s) ≡ true
  pub has_room : 0 < room s
  pub in_reach : n ≤ reach s

accepted_length : (o : Option Session) (n room reach : ℕ) → length_refusal (option_map (λ t. t.limit) o) room reach n ≡ None →
    (is_some o ≡ true) × (check (ltb 0 room) Full (check (leb n reach) OutOfReach None) ≡ None)
accepted_length None n room reach none = let never : ◌≡◌ {A = ℕ} 0 1 = cc in let no : ⊥ = omega arith in absurd no
accepted_length (Some t) n room reach none =
    (refl, (passed (within n t.limit) BadLength (check (ltb 0 room) Full (check (leb n reach) OutOfReach None)) none).1)

pub accepted : (m : Meaning) (room reach : ℕ → ℕ) (s n ticket : ℕ) → refusal m room reach (Enter s n ticket) ≡ None → Accepted m room reach s n
accepted m room reach s n ticket none =
    let low = passed (ltb s 64) NoSuchSession (length_refusal (option_map (λ t. t.limit) (m.session s)) (room s) (reach s) n) none in
    let opened = accepted_length (m.session s) n (room s) (reach s) low.1 in
    let some = passed (ltb 0 (room s)) Full (check (leb n (reach s)) OutOfReach None) opened.1 in
    let within = passed (leb n (reach s)) OutOfReach None some.1 in
    record {
      session = ltb-true s 64 low.0;
      is_open = opened.0;
      has_room = ltb-true 0 (room s) some.0;
      in_reach = leb-true n (reach s) within.0;
    }

-- a packet can wait where a session is open and there is a place, and only there
pub record Puttable (m : Meaning) (s : ℕ) : Type 0 where
  pub session : s < 64
  pub is_open : is_some (m.session s) ≡ true
  pub room : all_waiting m < 256

pub put_parts : (m : Meaning) (s : ℕ) → why_put m s ≡ None → Puttable m s
put_parts m s none =
    let room = check (ltb 0 (room_beside (all_waiting m))) Full None in
    let low = passed (ltb s 64) NoSuchSession (check (is_some (m.session s)) NotOpen room) none in
    let opened = passed (is_some (m.session s)) NotOpen room low.1 in
    let some = ltb-true 0 (room_beside (all_waiting m)) (passed (ltb 0 (room_beside (all_waiting m))) Full None opened.1).0 in
    record { session = ltb-true s 64 low.0; is_open = opened.0; room = omega arith }

pub puttable : (m : Meaning) (s : ℕ) → s < 64 → is_some (m.session s) ≡ true → all_waiting m < 256 → why_put m s ≡ None
puttable m s low opened room =
    cond-true (ltb s 64) (check (is_some (m.session s)) NotOpen (check (ltb 0 (room_beside (all_waiting m))) Full None)) (Some NoSuchSession) (lt-ltb s 64 low)
    ∙ cond-true (is_some (m.session s)) (check (ltb 0 (room_beside (all_waiting m))) Full None) (Some NotOpen) opened
    ∙ cond-true (ltb 0 (room_beside (all_waiting m))) None (Some Full) (lt-ltb 0 (room_beside (all_waiting m)) (omega arith))

-- ---- starting

not_some : {A : Type 0} (o : Option A) → not (is_some o) ≡ true → o ≡ None
not_some None is = refl
not_some (Some x) is = absurd (both_ways false refl is)

-- nothing is in service, and something waits
pub startable : (m : Meaning) → why_start m ≡ None → (m.in_service ≡ None) × (0 < all_waiting m)
startable m none =
    let free = passed (not (is_some m.in_service)) ServerBusy (check (ltb 0 (all_waiting m)) NothingWaiting None) none in
    let some = passed (ltb 0 (all_waiting m)) NothingWaiting None free.1 in
    (not_some m.in_service free.0, ltb-true 0 (all_waiting m) some.0)

-- the first waiting packet of a session can be taken
pub takeable :
    (m : Meaning) (s : ℕ) (first : Packet) (rest : List Packet) → m.in_service ≡ None → s < 64 → waiting_in m s ≡ first ∷ rest →
    take_answer m s ≡ Ok (record { session = s; packet = first })
takeable m s first rest free low is =
    ap (λ o. cond (not (is_some o)) (cond (ltb s 64) (taken s (first_of (waiting_in m s))) (Err NoSuchSession)) (Err ServerBusy)) free
    ∙ cond-true (ltb s 64) (taken s (first_of (waiting_in m s))) (Err NoSuchSession) (lt-ltb s 64 low)
    ∙ ap (λ ps. taken s (first_of ps)) is
