-- What the small changes keep of what always holds.
use Rattle.std.proofs.Common.{◌≡◌, ℕ, zero, suc, ◌<◌, ◌≤◌, Bool, true, false, cond, not, ◌&&◌, eqb, ltb, List, [], ◌∷◌, ◌++◌, length, set, replicate, is_some, option_map, Some, None, Ok, Err, Option, sym, refl, ap, ◌∙◌, subst, ⊎_elim, arith}
use Rattle.std.proofs.lemmas.List.{get_or-set_same, get_or-set_other, get_or_past}
use Rattle.std.proofs.lemmas.Bool.{cases_eq, cases_lt, both_ways, not-true, lt-ltb, ltb-true, eqb-true, eq-eqb, ne_eqb, cond-true, cond-false, and_from}
use Rattle.calls.specs.Strides.{within}
use Rattle.calls.specs.declared.call.Packet.{Packet}
use Rattle.calls.specs.declared.call.Service.{Service}
use Rattle.calls.specs.declared.call.Terms.{Terms}
use Rattle.calls.specs.declared.refusal.Refusal.{Refusal}
use Rattle.calls.specs.declared.refusal.Refusal.TheVariants.{NoSuchSession, BadWeight, BadLimit, AlreadyOpen}
use Rattle.waiting.specs.Queues.{queue, total, all_waiting, put, rest_of}
use Rattle.waiting.proofs.Using.{put_here, put_other, total_no_packets, total_push, count_within_total}
use Rattle.sharing.specs.Rules.{check, open_refusal}
use Rattle.sessions.specs.declared.seat.Account.{Account}
use Rattle.sessions.specs.declared.condition.Condition.{Condition}
use Rattle.sessions.specs.declared.condition.Condition.TheVariants.{Idle, Pausing, Carrying}
use Rattle.sessions.specs.declared.condition.Event.TheVariants.{Entered, Started, Finished}
use Rattle.sessions.specs.declared.parts.Parts.{Parts}
use Rattle.sessions.specs.declared.state.Sessions.{Sessions}
use Rattle.sessions.specs.Seats.{seat_at, with_octets, terms_within, waiting_while_closed}
use Rattle.sessions.specs.Conditions.{moved, resting, fits, serves_open, free_from, service_of}
use Rattle.sessions.specs.Steps.{Fresh, Entering, Starting, with_seat, with_condition}
use Rattle.sessions.specs.Invariants.{TermsWithin, ClosedEmpty, ConditionFits, ServesOpen}
use Rattle.sessions.specs.Verdicts.{verdict, served}

-- the ghost fields, one within the other
abbrev pub Ghosts : Parts → Type 0
Ghosts p = record {
  terms : TermsWithin p;
  closed : ClosedEmpty p;
  fits : ConditionFits p;
  served : ServesOpen p;
}

-- ---- reasons

-- what passes a check that refuses
pub passed : (test : Bool) (reason : Refusal) (others : Option Refusal) → check test reason others ≡ None → (test ≡ true) × (others ≡ None)
passed true reason others is = (refl, is)
passed false reason others is = let never : ◌≡◌ {A = ℕ} 0 1 = cc in let no : ⊥ = omega arith in absurd no

pub no_reason : {A : Type 0} (why : Option Refusal) (value given : A) → Ok given ≡ verdict why value → why ≡ None
no_reason None value given is = refl
no_reason (Some reason) value given is = let never : ◌≡◌ {A = ℕ} 0 1 = cc in let no : ⊥ = omega arith in absurd no

pub the_reason : {A : Type 0} (why : Option Refusal) (value : A) (reason : Refusal) → Err reason ≡ verdict why value → why ≡ Some reason
the_reason None value reason is = let never : ◌≡◌ {A = ℕ} 0 1 = cc in let no : ⊥ = omega arith in absurd no
the_reason (Some other) value reason is = cc

pub record Openable (opened : Bool) (s : ℕ) (given : Terms) : Type 0 where
  pub session : s < 64
  pub terms : within given.weight 16 && within given.limit 65535 ≡ true
  pub closed : opened ≡ false

pub openable : (is_open : Bool) (s : ℕ) (terms : Terms) → open_refusal is_open s terms.weight terms.limit ≡ None → Openable is_open s terms
openable is_open s terms none =
    let closed = check (not is_open) AlreadyOpen None in
    let limited = check (within terms.limit 65535) BadLimit closed in
    let a = passed (ltb s 64) NoSuchSession (check (within terms.weight 16) BadWeight limited) none in
    let b = passed (within terms.weight 16) BadWeight limited a.1 in
    let d = passed (within terms.limit 65535) BadLimit closed b.1 in
    let e = passed (not is_open) AlreadyOpen None d.1 in
    record {
      session = ltb-true s 64 a.0;
      terms = and_from (within terms.weight 16) (within terms.limit 65535) b.0 d.0;
      closed = not-true is_open e.0;
    }

-- ---- seats

pub repeated : (n s : ℕ) → seat_at (replicate n None) s ≡ None
repeated zero s = refl
repeated (suc n) zero = refl
repeated (suc n) (suc s) = repeated n s

-- one seat changes
pub seat_set :
    (P : ℕ → Option Account → Type 0) (seats : List (Option Account)) (s : ℕ) (seat : Option Account) → s < length seats → P s seat →
    ((k : ℕ) → (k ≡ s → ⊥) → P k (seat_at seats k)) → (k : ℕ) → P k (seat_at (set seats s seat) k)
seat_set P seats s seat low here there k =
    ⊎_elim
    (λ (e : k ≡ s). subst (λ n. P n (seat_at (set seats s seat) n)) (sym e) (subst (P s) (sym (get_or-set_same seats s seat None low)) here))
    (λ (ne : k ≡ s → ⊥). subst (P k) (sym (get_or-set_other seats s k seat None ne)) (there k ne))
    (cases_eq k s)

open_empty : (seat : Option Account) (packets : List Packet) → is_some seat ≡ true → waiting_while_closed seat packets ≡ 0
open_empty None packets opened = absurd (both_ways false refl opened)
open_empty (Some account) packets opened = refl

rest_empty : (seat : Option Account) (packets : List Packet) → waiting_while_closed seat packets ≡ 0 → waiting_while_closed seat (rest_of packets) ≡ 0
rest_empty None [] none = none
rest_empty None (p ∷ packets) none = let no : ⊥ = omega arith in absurd no
rest_empty (Some account) packets none = refl

pub open_if_waiting : (seat : Option Account) (packets : List Packet) → waiting_while_closed seat packets ≡ 0 → 0 < length packets → is_some seat ≡ true
open_if_waiting None packets none some = let no : ⊥ = omega arith in absurd no
open_if_waiting (Some account) packets none some = refl

credited_open : (amount : ℕ) (seat : Option Account) → is_some seat ≡ true → is_some (option_map (with_octets amount) seat) ≡ true
credited_open amount None opened = opened
credited_open amount (Some account) opened = refl

credited_within : (amount : ℕ) (seat : Option Account) → terms_within seat ≡ true → terms_within (option_map (with_octets amount) seat) ≡ true
credited_within amount None within = within
credited_within amount (Some account) within = within

pub open_below : (seats : List (Option Account)) (s : ℕ) → is_some (seat_at seats s) ≡ true → s < length seats
open_below seats s opened =
    ⊎_elim
    (λ (low : s < length seats). low)
    (λ (past : length seats ≤ s). absurd (both_ways (is_some (seat_at seats s)) (ap is_some (get_or_past seats s None past)) opened))
    (cases_lt s (length seats))

-- ---- the condition

serves_set :
    (condition : Condition) (seats : List (Option Account)) (s : ℕ) (seat : Option Account) → s < length seats → is_some seat ≡ true →
    serves_open condition seats ≡ true → serves_open condition (set seats s seat) ≡ true
serves_set Idle seats s seat low opened serves = refl
serves_set Pausing seats s seat low opened serves = refl
serves_set (Carrying service) seats s seat low opened serves =
    let P : ℕ → Option Account → Type 0 = λ k t. is_some (seat_at seats k) ≡ true → is_some t ≡ true in
    seat_set P seats s seat low (λ was. opened) (λ k ne was. was) service.session serves

fits_entered : (condition : Condition) (n : ℕ) → 0 < n → fits (moved condition Entered n) n ≡ true
fits_entered Idle n some = lt-ltb 0 n some
fits_entered Pausing n some = lt-ltb 0 n some
fits_entered (Carrying service) n some = refl

serves_entered : (condition : Condition) (seats : List (Option Account)) (n : ℕ) → serves_open condition seats ≡ true → serves_open (moved condition Entered n) seats ≡ true
serves_entered Idle seats n serves = refl
serves_entered Pausing seats n serves = refl
serves_entered (Carrying service) seats n serves = serves

fits_resting : (n : ℕ) → fits (resting n) n ≡ true
fits_resting n =
    ⊎_elim
    (λ (none : n ≡ 0). ap (λ c. fits c n) (cond-true (eqb n 0) Idle Pausing (eq-eqb n 0 none)) ∙ eq-eqb n 0 none)
    (λ (some : n ≡ 0 → ⊥). ap (λ c. fits c n) (cond-false (eqb n 0) Idle Pausing (ne_eqb n 0 some)) ∙ lt-ltb 0 n (omega arith))
    (cases_eq n 0)

serves_either : (b : Bool) (seats : List (Option Account)) → serves_open (cond b Idle Pausing) seats ≡ true
serves_either true seats = refl
serves_either false seats = refl

-- a packet waits and none is in service
pub pausing : (condition : Condition) (n : ℕ) → fits condition n ≡ true → 0 < n → Ok (tt {0}) ≡ free_from condition → condition ≡ Pausing
pausing Idle n fit some free = let none : n ≡ 0 = eqb-true n 0 fit in let no : ⊥ = omega arith in absurd no
pausing Pausing n fit some free = refl
pausing (Carrying service) n fit some free = let never : ◌≡◌ {A = ℕ} 0 1 = cc in let no : ⊥ = omega arith in absurd no

pub carrying : (condition : Condition) (service : Service) → Ok service ≡ served (service_of condition) → condition ≡ Carrying service
carrying Idle service is = let never : ◌≡◌ {A = ℕ} 0 1 = cc in let no : ⊥ = omega arith in absurd no
carrying Pausing service is = let never : ◌≡◌ {A = ℕ} 0 1 = cc in let no : ⊥ = omega arith in absurd no
carrying (Carrying other) service is = cc

-- ---- the parts

pub fresh_keeps : (p : Parts) → Fresh p → Ghosts p
fresh_keeps p new =
    let closed : (s : ℕ) → seat_at p.seats s ≡ None = λ s. ap (λ seats. seat_at seats s) new.seats ∙ repeated 64 s in
    let none : all_waiting p.waiting ≡ 0 = ap total new.queues ∙ total_no_packets in
    record {
      terms = λ s. ap terms_within (closed s);
      closed = λ s. ap (λ seat. waiting_while_closed seat (queue p.waiting s)) (closed s) ∙ ap (λ q. length (q s)) new.queues;
      fits = ap (λ c. fits c (all_waiting p.waiting)) new.condition ∙ eq-eqb (all_waiting p.waiting) 0 none;
      served = ap (λ c. serves_open c p.seats) new.condition;
    }

module _ (p : Parts) (g : Ghosts p) where
  -- an open seat in the place of another
  pub seat_keeps : (s : ℕ) (seat : Option Account) → s < 64 → is_some seat ≡ true → terms_within seat ≡ true → Ghosts (with_seat p s seat)
  seat_keeps s seat low opened within =
      let there : s < length p.seats = omega (arith, p.sessions) in
      record {
        terms = seat_set (λ k t. terms_within t ≡ true) p.seats s seat there within (λ k ne. g.terms k);
        closed =
            seat_set (λ k t. waiting_while_closed t (queue p.waiting k) ≡ 0) p.seats s seat there (open_empty seat _ opened)
            (λ k ne. g.closed k);
        fits = g.fits;
        served = serves_set p.condition p.seats s seat there opened g.served;
      }

  -- the queues change, and the condition
  queues_keep :
      (after : Parts) → after.seats ≡ p.seats →
      ((k : ℕ) → waiting_while_closed (seat_at p.seats k) (queue after.waiting k) ≡ 0) → ConditionFits after →
      serves_open after.condition p.seats ≡ true → Ghosts after
  queues_keep after seats closed fit serves = record {
    terms = λ k. ap (λ l. terms_within (seat_at l k)) seats ∙ g.terms k;
    closed = λ k. ap (λ l. waiting_while_closed (seat_at l k) (queue after.waiting k)) seats ∙ closed k;
    fits = fit;
    served = ap (serves_open after.condition) seats ∙ serves;
  }

  pub enter_keeps :
      (s : ℕ) (packet : Packet) (after : Parts) → s < 64 → is_some (seat_at p.seats s) ≡ true → Entering p s packet after → Ghosts after
  enter_keeps s packet after low opened is =
      let q = queue p.waiting in
      let n = all_waiting after.waiting in
      let some : 0 < n = omega (arith, ap total is.queues, total_push q s packet low) in
      queues_keep after is.seats
      (λ k. ap (λ f. waiting_while_closed (seat_at p.seats k) (f k)) is.queues ∙
      ⊎_elim
      (λ (e : k ≡ s). open_empty (seat_at p.seats k) _ (ap (λ i. is_some (seat_at p.seats i)) e ∙ opened))
      (λ (ne : k ≡ s → ⊥). ap (waiting_while_closed (seat_at p.seats k)) (put_other q s (q s ++ packet ∷ []) k ne) ∙ g.closed k)
      (cases_eq k s))
      (ap (λ c. fits c n) is.condition ∙ fits_entered p.condition n some)
      (ap (λ c. serves_open c p.seats) is.condition ∙ serves_entered p.condition p.seats n g.served)

  -- the session has a first packet, and none is in service
  pub must_pause : (s : ℕ) → s < 64 → 0 < length (queue p.waiting s) → Ok (tt {0}) ≡ free_from p.condition → p.condition ≡ Pausing
  must_pause s low some free =
      pausing p.condition (all_waiting p.waiting) g.fits (omega (arith, count_within_total (queue p.waiting) s low)) free

  pub start_keeps :
      (service : Service) (after : Parts) → service.session < 64 → 0 < length (queue p.waiting service.session) →
      Ok (tt {0}) ≡ free_from p.condition → Starting p service after → Ghosts after
  start_keeps service after low some free is =
      let s = service.session in
      let q = queue p.waiting in
      let n = all_waiting after.waiting in
      let now : after.condition ≡ Carrying service = is.condition ∙ ap (λ c. moved c (Started service) n) (must_pause s low some free) in
      queues_keep after is.seats
      (λ k. ap (λ f. waiting_while_closed (seat_at p.seats k) (f k)) is.queues ∙
      ⊎_elim
      (λ (e : k ≡ s).
      subst (λ i. waiting_while_closed (seat_at p.seats i) (put q s (rest_of (q s)) i) ≡ 0) (sym e)
      (ap (waiting_while_closed (seat_at p.seats s)) (put_here q s (rest_of (q s))) ∙ rest_empty (seat_at p.seats s) (q s) (g.closed s)))
      (λ (ne : k ≡ s → ⊥). ap (waiting_while_closed (seat_at p.seats k)) (put_other q s (rest_of (q s)) k ne) ∙ g.closed k)
      (cases_eq k s))
      (ap (λ c. fits c n) now)
      (ap (λ c. serves_open c p.seats) now ∙ open_if_waiting (seat_at p.seats s) (q s) (g.closed s) some)

  pub serves : (service : Service) → p.condition ≡ Carrying service → is_some (seat_at p.seats service.session) ≡ true
  serves service is = sym (ap (λ c. serves_open c p.seats) is) ∙ g.served

  pub serves_below : (service : Service) → p.condition ≡ Carrying service → service.session < 64
  serves_below service is = omega (arith, open_below p.seats service.session (serves service is), p.sessions)

  pub finish_keeps :
      (service : Service) (amount : ℕ) (after : Parts) → p.condition ≡ Carrying service →
      after ≡ with_condition (with_seat p service.session (option_map (with_octets amount) (seat_at p.seats service.session)))
      (moved p.condition Finished (all_waiting p.waiting)) → Ghosts after
  finish_keeps service amount after carried is =
      let s = service.session in
      let n = all_waiting p.waiting in
      let seat = seat_at p.seats s in
      let h = seat_keeps s (option_map (with_octets amount) seat) (serves_below service carried) (credited_open amount seat (serves service carried))
      (credited_within amount seat (g.terms s)) in
      let rests : moved p.condition Finished n ≡ resting n = ap (λ c. moved c Finished n) carried in
      let seats = set p.seats s (option_map (with_octets amount) seat) in
      subst Ghosts (sym is) (
      record {
        terms = h.terms;
        closed = h.closed;
        fits = ap (λ c. fits c n) rests ∙ fits_resting n;
        served = ap (λ c. serves_open c seats) rests ∙ serves_either (eqb n 0) seats;
      }
      )

pub ghosts : (x : Sessions) → Ghosts x.parts
ghosts x = record { terms = x.terms; closed = x.closed; fits = x.fits; served = x.served }
