-- The exact rule of the self-clocked line: what each call answers, and the state that it leaves.
use Rattle.std.specs.Prelude.{◌≡◌, ℕ, ◌<◌, max, List, [], ◌∷◌, map, Some, None, Ok, Option, Result, slice_set, Err}
use Rattle.std.specs.List.{range_with_len}
use Rattle.calls.specs.declared.call.Packet.{Packet}
use Rattle.calls.specs.declared.call.Service.{Service}
use Rattle.calls.specs.declared.call.Call.{Call}
use Rattle.calls.specs.declared.call.Call.TheVariants.{Open, Enter, Start, Finish}
use Rattle.calls.specs.Answers.{Answer}
use Rattle.calls.specs.declared.call.Reply.TheVariants.{Opened, Entered, Started, Finished}
use Rattle.calls.specs.declared.refusal.Refusal.{Refusal}
use Rattle.calls.specs.declared.refusal.Refusal.TheVariants.{NothingWaiting, NothingInService}
use Rattle.ready.specs.Order.{Entry}
use Rattle.ready.specs.Tags.{Tags, added, add_answer, no_entries, least_of}
use Rattle.sharing.specs.Histories.{weight_in}
use Rattle.sharing.specs.Rules.{mark_after, reach_from, room_beside}
use Rattle.sharing.specs.Meanings.{Meaning, terms_at, waiting_in, all_waiting, refusal, after_open, after_enter, after_start, after_finish}
use Rattle.sharing.specs.Clocked.{Clocked, New, with_mark, while_waiting}
use Rattle.sessions.specs.Verdicts.{verdict, settled}

-- ---- why a call is refused

abbrev pub weight_at : Clocked → ℕ → ℕ
weight_at x s = weight_in (terms_at x.meaning s)

-- all sessions share the 256 places
abbrev pub room_of : Clocked → ℕ → ℕ
room_of x s = room_beside (all_waiting x.meaning)

abbrev pub reach_of : Clocked → ℕ → ℕ
reach_of x s = reach_from (max (x.last s) x.clock) (weight_at x s)

abbrev pub refusal_of : Clocked → Call → Option Refusal
refusal_of x call = refusal x.meaning (room_of x) (reach_of x) call

-- ---- which packet is the next to start

abbrev pub first_mark : List Packet → Option ℕ
first_mark [] = None
first_mark (packet ∷ packets) = Some packet.mark

-- for each session in turn the mark of its first waiting packet, if one waits
unfoldable pub first_marks : Meaning → Tags
first_marks m = map (λ s. first_mark (waiting_in m s)) (range_with_len 0 64)

abbrev pub with_first : ℕ → List Packet → Option Service
with_first s [] = None
with_first s (packet ∷ packets) = Some (record { session = s; packet = packet })

abbrev pub first_with : Meaning → Option Entry → Option Service
first_with m None = None
first_with m (Some entry) = with_first entry.1 (waiting_in m entry.1)

-- of the first waiting packets the one with the smallest mark, and of equal marks that of the smaller session
abbrev pub next : Meaning → Option Service
next m = first_with m (least_of (first_marks m))

-- ---- what an accepted call answers

abbrev pub mark_for : Clocked → ℕ → ℕ → ℕ
mark_for x s length = mark_after (x.last s) x.clock length (weight_at x s)

-- the mark of a packet of this length, or why it does not enter
abbrev pub enter_answer : Clocked → ℕ → ℕ → Result ℕ Refusal
enter_answer x s length = verdict (refusal_of x (Enter s length 0)) (mark_for x s length)

-- where nothing waits a start is refused
abbrev pub started_with : Option Service → Answer
started_with None = Err NothingWaiting
started_with (Some service) = Ok (Started service)

-- where nothing is in service a finish is refused
abbrev pub finished_with : Option Service → Answer
finished_with None = Err NothingInService
finished_with (Some service) = Ok (Finished service)

abbrev pub accepted_answer : Clocked → Call → Answer
accepted_answer x (Open s weight limit) = Ok Opened
accepted_answer x (Enter s length ticket) = Ok (Entered (mark_for x s length))
accepted_answer x Start = started_with (next x.meaning)
accepted_answer x Finish = finished_with x.meaning.in_service

-- ---- the state that an accepted call leaves

abbrev pub opened_at : Clocked → ℕ → ℕ → ℕ → Clocked
opened_at x s weight limit = record { meaning = after_open x.meaning s weight limit; clock = x.clock; last = x.last }

-- the packet's mark is now the last mark of its session
abbrev pub entered_at : Clocked → ℕ → Packet → Clocked
entered_at x s packet =
    record { meaning = after_enter x.meaning s packet; clock = x.clock; last = with_mark x.last s packet.mark }

-- the clock is now the packet's mark
abbrev pub started_at : Clocked → Option Service → Clocked
started_at x None = x
started_at x (Some service) =
    record { meaning = after_start x.meaning service.session service.packet; clock = service.packet.mark; last = x.last }

-- where nothing waits the clock and every last mark are now 0
abbrev pub finished_at : Clocked → Option Service → Clocked
finished_at x None = x
finished_at x (Some service) =
    record {
      meaning = after_finish x.meaning service.session service.packet;
      clock = while_waiting x.meaning x.clock;
      last = λ s. while_waiting x.meaning (x.last s);
    }

abbrev pub accepted_after : Clocked → Call → Clocked
accepted_after x (Open s weight limit) = opened_at x s weight limit
accepted_after x (Enter s length ticket) = entered_at x s (record { length = length; ticket = ticket; mark = mark_for x s length })
accepted_after x Start = started_at x (next x.meaning)
accepted_after x Finish = finished_at x x.meaning.in_service

-- ---- every call

-- a refused call is answered with the reason
abbrev pub decided : Option Refusal → Answer → Answer
decided None answer = answer
decided (Some reason) answer = Err reason

-- and changes nothing
abbrev pub answer_to : Clocked → Call → Answer
answer_to x call = decided (refusal_of x call) (accepted_answer x call)

abbrev pub after : Clocked → Call → Clocked
after x call = settled (refusal_of x call) x (accepted_after x call)

pub record Exact (x : Clocked) (call : Call) (a : Answer) (y : Clocked) : Type 0 where
  pub answer : a ≡ answer_to x call
  pub after : y ≡ after x call

-- ---- the ready line while a packet starts

-- nothing is in service, the first waiting packet of session s has the mark, and the ready line has every entry but that of s
pub record Due (tags : Tags) (m : Meaning) (mark s : ℕ) : Type 0 where
  pub none_served : m.in_service ≡ None
  pub session : s < 64
  pub first : first_mark (waiting_in m s) ≡ Some mark
  pub others : tags ≡ slice_set (first_marks m) s None

-- its session comes in again with the next packet, if one waits
abbrev pub renewed : Tags → Option Packet → ℕ → Tags
renewed tags None s = tags
renewed tags (Some packet) s = added tags packet.mark s

abbrev pub renew_answer : Tags → Option Packet → ℕ → Result (Unit {0}) Refusal
renew_answer tags None s = Ok tt
renew_answer tags (Some packet) s = add_answer tags s

-- ---- what every call keeps

-- nothing waits and nothing is in service
pub record Idle (m : Meaning) : Type 0 where
  pub none_waits : all_waiting m ≡ 0
  pub none_served : m.in_service ≡ None

-- the clock and every last mark are 0
pub record Reset (x : Clocked) : Type 0 where
  pub clock : x.clock ≡ 0
  pub last : x.last ≡ (λ s. 0)

-- `tags` is what the ready line means: its entries are the first waiting packets
pub record Sound (tags : Tags) (x : Clocked) : Type 0 where
  pub ready : tags ≡ first_marks x.meaning
  pub idle : Idle x.meaning → Reset x

-- a new line
pub record Fresh (tags : Tags) (x : Clocked) : Type 0 where
  pub ready : tags ≡ no_entries
  pub new : New x
