-- The rule of first come: what each call answers, and what it makes of the line.
use Rattle.std.specs.Prelude.{◌≡◌, ℕ, List, [], ◌∷◌, ◌++◌, Some, None, Ok, Err, Option, Result}
use Rattle.calls.specs.declared.call.Packet.{Packet}
use Rattle.calls.specs.declared.call.Service.{Service}
use Rattle.calls.specs.declared.call.Call.{Call}
use Rattle.calls.specs.declared.call.Call.TheVariants.{Open, Enter, Start, Finish}
use Rattle.calls.specs.Answers.{Answer}
use Rattle.calls.specs.declared.refusal.Refusal.{Refusal}
use Rattle.calls.specs.declared.refusal.Refusal.TheVariants.{NothingWaiting}
use Rattle.sharing.specs.Rules.{room_beside}
use Rattle.sharing.specs.Meanings.{Meaning, nothing_open, all_waiting, refusal, after_open, after_enter}
use Rattle.discipline.specs.Answers.{opened, entered, started, finished}
use Rattle.sessions.specs.Verdicts.{verdict, settled, why_start, take_answer, after_take, finish_answer, after_served}

pub record Model : Type 0 where
  pub meaning : Meaning
  -- the sessions of the waiting packets, in the order in which the packets entered
  pub arrivals : List ℕ

abbrev pub new_model : Model
new_model = record { meaning = nothing_open; arrivals = [] }

-- ---- room, reach and mark

abbrev pub room_in : Meaning → ℕ → ℕ
room_in m s = room_beside (all_waiting m)

abbrev pub reach_in : ℕ → ℕ
reach_in s = 65535

-- every mark is 0
abbrev pub unmarked : ℕ → ℕ → Packet
unmarked length ticket = record { length = length; ticket = ticket; mark = 0 }

abbrev pub why : Meaning → Call → Option Refusal
why m call = refusal m (room_in m) reach_in call

-- ---- start: the session that stands first among the arrivals sends its first waiting packet

abbrev pub take_earliest : Meaning → List ℕ → Result Service Refusal
take_earliest m [] = Err NothingWaiting
take_earliest m (s ∷ later) = take_answer m s

abbrev pub if_startable : Option Refusal → Result Service Refusal → Result Service Refusal
if_startable None answer = answer
if_startable (Some reason) answer = Err reason

abbrev pub start_answer : Model → Result Service Refusal
start_answer x = if_startable (why_start x.meaning) (take_earliest x.meaning x.arrivals)

abbrev pub without_earliest : List ℕ → List ℕ
without_earliest [] = []
without_earliest (s ∷ later) = later

abbrev pub arrivals_after : List ℕ → Result Service Refusal → List ℕ
arrivals_after arrivals (Ok service) = without_earliest arrivals
arrivals_after arrivals (Err reason) = arrivals

-- ---- the answers, and the line after each call

abbrev pub answer_to : Model → Call → Answer
answer_to x (Open s weight limit) = opened (verdict (why x.meaning (Open s weight limit)) tt)
answer_to x (Enter s length ticket) = entered (verdict (why x.meaning (Enter s length ticket)) 0)
answer_to x Start = started (start_answer x)
answer_to x Finish = finished (finish_answer x.meaning)

-- a packet that enters is the latest arrival
abbrev pub appended : Model → ℕ → Packet → Model
appended x s packet = record { meaning = after_enter x.meaning s packet; arrivals = x.arrivals ++ s ∷ [] }

abbrev pub after : Model → Call → Model
after x (Open s weight limit) =
    record { meaning = settled (why x.meaning (Open s weight limit)) x.meaning (after_open x.meaning s weight limit); arrivals = x.arrivals }
after x (Enter s length ticket) = settled (why x.meaning (Enter s length ticket)) x (appended x s (unmarked length ticket))
after x Start = record { meaning = after_take x.meaning (start_answer x); arrivals = arrivals_after x.arrivals (start_answer x) }
after x Finish = record { meaning = after_served x.meaning (finish_answer x.meaning); arrivals = x.arrivals }

pub record Exact (x : Model) (call : Call) (answer : Answer) (y : Model) : Type 0 where
  pub answers : answer ≡ answer_to x call
  pub becomes : y ≡ after x call
