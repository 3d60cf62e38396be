-- What the small changes make of the parts.
use Rattle.std.specs.Prelude.{◌≡◌, ℕ, [], ◌∷◌, ◌++◌, replicate, None, Option, slice_set}
use Rattle.std.proofs.Common.{◌∙◌}
use Rattle.std.proofs.lemmas.List.{length-set}
use Rattle.calls.specs.declared.call.Packet.{Packet}
use Rattle.calls.specs.declared.call.Service.{Service}
use Rattle.waiting.specs.Queues.{queue, no_packets, all_waiting, put, after_take}
use Rattle.sessions.specs.declared.seat.Account.{Account}
use Rattle.sessions.specs.declared.condition.Condition.{Condition}
use Rattle.sessions.specs.declared.condition.Condition.TheVariants.{Idle}
use Rattle.sessions.specs.declared.condition.Event.TheVariants.{Entered, Started}
use Rattle.sessions.specs.declared.parts.Parts.{Parts}
use Rattle.sessions.specs.Conditions.{moved}

pub record Fresh (p : Parts) : Type 0 where
  pub seats : p.seats ≡ replicate 64 None
  pub queues : queue p.waiting ≡ no_packets
  pub condition : p.condition ≡ Idle

abbrev pub with_seat : Parts → ℕ → Option Account → Parts
with_seat p s seat = record { seats = slice_set p.seats s seat; waiting = p.waiting; condition = p.condition; sessions = length-set p.seats s seat ∙ p.sessions }

abbrev pub with_condition : Parts → Condition → Parts
with_condition p condition = record { seats = p.seats; waiting = p.waiting; condition = condition; sessions = p.sessions }

-- the packet waits as the last of its session
pub record Entering (p : Parts) (s : ℕ) (packet : Packet) (after : Parts) : Type 0 where
  pub seats : after.seats ≡ p.seats
  pub queues : queue after.waiting ≡ put (queue p.waiting) s (queue p.waiting s ++ packet ∷ [])
  pub condition : after.condition ≡ moved p.condition Entered (all_waiting after.waiting)

-- the first waiting packet of the session goes into service
pub record Starting (p : Parts) (service : Service) (after : Parts) : Type 0 where
  pub seats : after.seats ≡ p.seats
  pub queues : queue after.waiting ≡ after_take (queue p.waiting) service.session
  pub condition : after.condition ≡ moved p.condition (Started service) (all_waiting after.waiting)
