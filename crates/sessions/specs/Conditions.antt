-- The condition of a line, and how events move it.
use Rattle.std.specs.Prelude.{ℕ, Bool, true, cond, List, is_some, Some, None, Ok, Err, Option, Result, ◌==◌, nat_lt}
use Rattle.calls.specs.declared.call.Service.{Service}
use Rattle.calls.specs.declared.refusal.Refusal.{Refusal}
use Rattle.calls.specs.declared.refusal.Refusal.TheVariants.{NothingWaiting, ServerBusy}
use Rattle.sessions.specs.declared.seat.Account.{Account}
use Rattle.sessions.specs.declared.condition.Condition.{Condition}
use Rattle.sessions.specs.declared.condition.Condition.TheVariants.{Idle, Pausing, Carrying}
use Rattle.sessions.specs.declared.condition.Event.{Event}
use Rattle.sessions.specs.declared.condition.Event.TheVariants.{Entered, Started, Finished}
use Rattle.sessions.specs.Seats.{seat_at}

abbrev pub service_of : Condition → Option Service
service_of Idle = None
service_of Pausing = None
service_of (Carrying service) = Some service

-- the condition while no packet is in service and n packets wait
abbrev pub resting : ℕ → Condition
resting n = cond (n == 0) Idle Pausing

-- the condition after an event, when n packets wait
abbrev pub moved : Condition → Event → ℕ → Condition
moved Idle Entered n = Pausing
moved Idle (Started service) n = Idle
moved Idle Finished n = Idle
moved Pausing Entered n = Pausing
moved Pausing (Started service) n = Carrying service
moved Pausing Finished n = Pausing
moved (Carrying carried) Entered n = Carrying carried
moved (Carrying carried) (Started service) n = Carrying carried
moved (Carrying carried) Finished n = resting n

-- the condition fits the number of packets that wait
abbrev pub fits : Condition → ℕ → Bool
fits Idle n = n == 0
fits Pausing n = nat_lt 0 n
fits (Carrying service) n = true

-- the session in service is open
abbrev pub serves_open : Condition → List (Option Account) → Bool
serves_open Idle seats = true
serves_open Pausing seats = true
serves_open (Carrying service) seats = is_some (seat_at seats service.session)

abbrev pub free_from : Condition → Result (Unit {0}) Refusal
free_from Idle = Ok tt
free_from Pausing = Ok tt
free_from (Carrying service) = Err ServerBusy

abbrev pub start_from : Condition → Result (Unit {0}) Refusal
start_from Idle = Err NothingWaiting
start_from Pausing = Ok tt
start_from (Carrying service) = Err ServerBusy
