-- What the questions read, against the meaning.
use Rattle.std.proofs.Common.{◌≡◌, ℕ, ◌+◌, ◌<◌, ◌≤◌, Bool, true, false, cond, ltb, List, [], ◌∷◌, length, is_some, Some, None, Ok, Err, sum_by, Option, Result, sym, refl, ap, ◌∙◌, ⊎_elim, arith}
use Rattle.std.specs.Option.{option_flatten}
use Rattle.std.specs.Result.{result_ok}
use Rattle.calls.specs.declared.call.Packet.{Packet}
use Rattle.calls.specs.declared.refusal.Refusal.{Refusal}
use Rattle.calls.specs.declared.refusal.Refusal.TheVariants.{NoSuchSession, NothingWaiting}
use Rattle.calls.specs.Sums.{sum_below}
use Rattle.waiting.specs.Queues.{queue, first_of, first_answer, total_length, of_session}
use Rattle.waiting.specs.Queues as queues
use Rattle.waiting.proofs.Using.{of_session_low, of_session_past, no_queue_past}
use Rattle.sharing.specs.Meanings.{Session, waiting_of, waiting_in, all_waiting, if_open, asked}
use Rattle.sessions.specs.declared.seat.Account.{Account}
use Rattle.sessions.specs.declared.state.Sessions.{Sessions}
use Rattle.sessions.specs.declared.condition.Condition.{Condition}
use Rattle.sessions.specs.declared.condition.Condition.TheVariants.{Idle, Pausing, Carrying}
use Rattle.sessions.specs.Seats.{seat_at, account_of, account_at, session_with, session_of, waiting_while_closed}
use Rattle.sessions.specs.Conditions.{service_of, start_from, fits}
use Rattle.sessions.specs.Meanings.{meaning_of}
use Rattle.sessions.specs.Verdicts.{verdict, why_start}
use Rattle.sharing.specs.Rules.{check, start_refusal}
use Rattle.std.proofs.lemmas.List.Sums.{sum_by-cons}
use Rattle.std.proofs.lemmas.Bool.{cases_lt, cond-false, le-ltb, eqb-true}

-- ---- seats

pub open_is_some : (seat : Option Account) (packets : List Packet) → is_some (session_of seat packets) ≡ is_some seat
open_is_some None packets = refl
open_is_some (Some account) packets = refl

no_length : (packets : List Packet) → length packets ≡ 0 → packets ≡ []
no_length [] none = refl
no_length (p ∷ packets) none = let no : ⊥ = omega arith in absurd no

waiting_of_session : (seat : Option Account) (packets : List Packet) → waiting_while_closed seat packets ≡ 0 → waiting_of (session_of seat packets) ≡ packets
waiting_of_session None packets none = sym (no_length packets none)
waiting_of_session (Some account) packets none = refl

-- ---- a question about an open session

ask_ok :
    {A : Type 0} (low : Bool) (seat : Option Account) (packets : List Packet) (ask : Session → A) (account : Account) →
    Ok account ≡ cond low (account_of seat) (Err NoSuchSession) →
    Ok (ask (session_with account packets)) ≡ cond low (if_open (session_of seat packets) ask) (Err NoSuchSession)
ask_ok true None packets ask account is = let never : ◌≡◌ {A = ℕ} 0 1 = cc in let no : ⊥ = omega arith in absurd no
ask_ok true (Some other) packets ask account is =
    let same : account ≡ other = cc in ap (λ a. Ok (ask (session_with a packets))) same
ask_ok false seat packets ask account is = let never : ◌≡◌ {A = ℕ} 0 1 = cc in let no : ⊥ = omega arith in absurd no

ask_err :
    {A : Type 0} (low : Bool) (seat : Option Account) (packets : List Packet) (ask : Session → A) (e : Refusal) →
    Err e ≡ cond low (account_of seat) (Err NoSuchSession) → Err e ≡ cond low (if_open (session_of seat packets) ask) (Err NoSuchSession)
ask_err true None packets ask e is = cc
ask_err true (Some other) packets ask e is = let never : ◌≡◌ {A = ℕ} 0 1 = cc in let no : ⊥ = omega arith in absurd no
ask_err false seat packets ask e is = cc

account_below : (s : ℕ) (seats : List (Option Account)) (account : Account) → Ok account ≡ account_at seats s → s < 64
account_below s seats account is =
    ⊎_elim
    (λ (low : s < 64). low)
    (λ (past : 64 ≤ s).
    let refused : account_at seats s ≡ Err NoSuchSession = cond-false (ltb s 64) (account_of (seat_at seats s)) (Err NoSuchSession) (le-ltb s 64 past) in
    let never : ◌≡◌ {A = ℕ} 0 1 = cc in let no : ⊥ = omega arith in absurd no)
    (cases_lt s 64)

module _ {A : Type 0} (x : Sessions) (s : ℕ) (ask : Session → A) where
  pub asked_open : (account : Account) → Ok account ≡ account_at x.parts.seats s →
      Ok (ask (session_with account (queue x.parts.waiting s))) ≡ asked (meaning_of x) s ask
  unfolding meaning_of
  asked_open account is = ask_ok (ltb s 64) (seat_at x.parts.seats s) (queue x.parts.waiting s) ask account is

  pub asked_refused : (e : Refusal) → Err e ≡ account_at x.parts.seats s → Err e ≡ asked (meaning_of x) s ask
  unfolding meaning_of
  asked_refused e is = ask_err (ltb s 64) (seat_at x.parts.seats s) (queue x.parts.waiting s) ask e is

  -- the same, where the answer is one of the table of waiting packets
  pub asked_waiting :
      (account : Account) (n : A) (r : Result A Refusal) → Ok account ≡ account_at x.parts.seats s → r ≡ of_session s n →
      n ≡ ask (session_with account (queue x.parts.waiting s)) → r ≡ asked (meaning_of x) s ask
  asked_waiting account n r is answer same =
      answer ∙ of_session_low s n (account_below s x.parts.seats account is) ∙ ap Ok same ∙ asked_open account is

-- ---- what waits

pub sum_of_lengths : (packets : List Packet) → total_length packets ≡ sum_by (λ packet. packet.length) packets
sum_of_lengths [] = refl
sum_of_lengths (p ∷ packets) = ap (λ n. p.length + n) (sum_of_lengths packets) ∙ sym (sum_by-cons (λ packet. packet.length) p packets)

pub waiting_is_queue : (x : Sessions) (s : ℕ) → waiting_in (meaning_of x) s ≡ queue x.parts.waiting s
unfolding meaning_of
waiting_is_queue x s = waiting_of_session (seat_at x.parts.seats s) (queue x.parts.waiting s) (x.closed s)

pub all_waiting_is_total : (x : Sessions) → all_waiting (meaning_of x) ≡ queues.all_waiting x.parts.waiting
all_waiting_is_total x =
    let same : (λ s. waiting_in (meaning_of x) s) ≡ queue x.parts.waiting = λ i s. waiting_is_queue x s i in
    ap (λ q. sum_below 64 (λ s. length (q s))) same

-- the first waiting packet; a session above 63 has none
pub first_asked : (x : Sessions) (s : ℕ) → option_flatten (result_ok (first_answer (queue x.parts.waiting) s)) ≡ first_of (waiting_in (meaning_of x) s)
first_asked x s =
    let first = first_of (queue x.parts.waiting s) in
    ⊎_elim
    (λ (low : s < 64). ap (λ r. option_flatten (result_ok r)) (of_session_low s first low) ∙ ap first_of (sym (waiting_is_queue x s)))
    (λ (past : 64 ≤ s).
    ap (λ r. option_flatten (result_ok r)) (of_session_past s first past)
    ∙ sym (ap first_of (waiting_is_queue x s ∙ no_queue_past x.parts.waiting s past)))
    (cases_lt s 64)

-- ---- the condition

starts_by : (condition : Condition) (n : ℕ) → fits condition n ≡ true →
    start_from condition ≡ verdict (start_refusal (is_some (service_of condition)) n) tt
starts_by Idle n fit = let none : n ≡ 0 = eqb-true n 0 fit in ap (λ k. verdict (start_refusal false k) tt) (sym none)
starts_by Pausing n fit = ap (λ b. verdict (check b NothingWaiting None) tt) (sym fit)
starts_by (Carrying service) n fit = refl

pub start_from_meaning : (x : Sessions) → start_from x.parts.condition ≡ verdict (why_start (meaning_of x)) tt
unfolding meaning_of
start_from_meaning x =
    starts_by x.parts.condition (queues.all_waiting x.parts.waiting) x.fits
    ∙ ap (λ n. verdict (start_refusal (is_some (service_of x.parts.condition)) n) tt) (sym (all_waiting_is_total x))
