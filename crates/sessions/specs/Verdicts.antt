-- What each call answers, and what it makes of the meaning.
use Rattle.std.specs.Prelude.{ℕ, cond, not, is_some, Some, None, Ok, Err, Option, Result, nat_lt}
use Rattle.calls.specs.Strides.{within}
use Rattle.calls.specs.declared.call.Packet.{Packet}
use Rattle.calls.specs.declared.call.Service.{Service}
use Rattle.calls.specs.declared.call.Terms.{Terms}
use Rattle.calls.specs.declared.refusal.Refusal.{Refusal}
use Rattle.calls.specs.declared.refusal.Refusal.TheVariants.{NoSuchSession, NotOpen, BadLength, Full, NothingWaiting, ServerBusy, NothingInService}
use Rattle.waiting.specs.Queues.{first_of}
use Rattle.sharing.specs.Rules.{check, open_refusal, start_refusal, finish_refusal, room_beside}
use Rattle.sharing.specs.Meanings.{Meaning, Session, waiting_in, all_waiting, after_start, after_finish}

-- ---- a call is refused for a reason, or it is not

-- the answer
abbrev pub verdict : {A : Type 0} → Option Refusal → A → Result A Refusal
verdict None value = Ok value
verdict (Some reason) value = Err reason

-- what is there after the call: `before` where it is refused
abbrev pub settled : {X : Type 0} → Option Refusal → X → X → X
settled None before after = after
settled (Some reason) before after = before

-- ---- why the calls are refused

abbrev pub why_open : Meaning → ℕ → ℕ → ℕ → Option Refusal
why_open m s weight limit = open_refusal (is_some (m.session s)) s weight limit

-- no such session; not open; 256 packets wait
abbrev pub why_put : Meaning → ℕ → Option Refusal
why_put m s =
    check (nat_lt s 64) NoSuchSession (check (is_some (m.session s)) NotOpen (check (nat_lt 0 (room_beside (all_waiting m))) Full None))

abbrev pub why_start : Meaning → Option Refusal
why_start m = start_refusal (is_some m.in_service) (all_waiting m)

abbrev pub why_finish : Meaning → Option Refusal
why_finish m = finish_refusal (is_some m.in_service)

-- ---- a packet waits only where a place is left

abbrev pub room_answer_at : ℕ → Result (Unit {0}) Refusal
room_answer_at waiting = cond (nat_lt 0 (room_beside waiting)) (Ok tt) (Err Full)

-- ---- the terms of a session that may enter a packet of this length

abbrev pub length_of : ℕ → Option Session → Result Terms Refusal
length_of n None = Err NotOpen
length_of n (Some t) = cond (within n t.limit) (Ok (record { weight = t.weight; limit = t.limit })) (Err BadLength)

-- no such session; not open; the length is 0 or above the limit
abbrev pub length_answer : Meaning → ℕ → ℕ → Result Terms Refusal
length_answer m s n = cond (nat_lt s 64) (length_of n (m.session s)) (Err NoSuchSession)

-- ---- the first waiting packet of a session goes into service

abbrev pub taken : ℕ → Option Packet → Result Service Refusal
taken s None = Err NothingWaiting
taken s (Some packet) = Ok (record { session = s; packet = packet })

-- a packet is in service; no such session; it has no packet
abbrev pub take_answer : Meaning → ℕ → Result Service Refusal
take_answer m s =
    cond (not (is_some m.in_service)) (cond (nat_lt s 64) (taken s (first_of (waiting_in m s))) (Err NoSuchSession)) (Err ServerBusy)

abbrev pub after_take : Meaning → Result Service Refusal → Meaning
after_take m (Ok service) = after_start m service.session service.packet
after_take m (Err reason) = m

-- ---- the packet in service leaves

abbrev pub served : Option Service → Result Service Refusal
served None = Err NothingInService
served (Some service) = Ok service

abbrev pub finish_answer : Meaning → Result Service Refusal
finish_answer m = served m.in_service

abbrev pub after_served : Meaning → Result Service Refusal → Meaning
after_served m (Ok service) = after_finish m service.session service.packet
after_served m (Err reason) = m
