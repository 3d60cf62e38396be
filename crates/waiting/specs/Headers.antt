-- What the header of a queue says.
use Rattle.std.specs.Prelude.{◌≡◌, ℕ, ◌<◌, ◌≤◌, cond, length, Some, None, Ok, Err, Result, ◌==◌}
use Rattle.calls.specs.declared.refusal.Refusal.{Refusal}
use Rattle.calls.specs.declared.refusal.Refusal.TheVariants.{NoSuchSession}
use Rattle.waiting.specs.declared.place.Queue.{Queue}
use Rattle.waiting.specs.declared.table.Waiting.{Waiting}
use Rattle.waiting.specs.Chains.{place_of}
use Rattle.waiting.specs.Queues.{queue, first_of, total_length}

-- q is the header of the queue of session s
pub record Describes (w : Waiting) (s : ℕ) (q : Queue) : Type 0 where
  pub session : s < 64
  pub head : q.head < 256
  pub tail : q.tail < 256
  pub count : q.count ≡ length (queue w s)
  pub lengths : q.lengths ≡ total_length (queue w s)
  pub first : cond (q.count == 0) None (Some (place_of w.chains.places q.head).packet) ≡ first_of (queue w s)

abbrev pub HeaderAnswer : Waiting → ℕ → Result Queue Refusal → Type 0
HeaderAnswer w s (Ok q) = Describes w s q
HeaderAnswer w s (Err e) = (e ≡ NoSuchSession) × (64 ≤ s)
