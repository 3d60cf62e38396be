-- What always holds of the parts.
use Rattle.std.specs.Prelude.{◌≡◌, ℕ, true}
use Rattle.waiting.specs.Queues.{queue, all_waiting}
use Rattle.sessions.specs.declared.parts.Parts.{Parts}
use Rattle.sessions.specs.Seats.{seat_at, terms_within, waiting_while_closed}
use Rattle.sessions.specs.Conditions.{fits, serves_open}

abbrev pub TermsWithin : Parts → Type 0
TermsWithin p = (s : ℕ) → terms_within (seat_at p.seats s) ≡ true

-- nothing waits in a session that is not open
abbrev pub ClosedEmpty : Parts → Type 0
ClosedEmpty p = (s : ℕ) → waiting_while_closed (seat_at p.seats s) (queue p.waiting s) ≡ 0

-- idle: nothing waits; pausing: something waits
abbrev pub ConditionFits : Parts → Type 0
ConditionFits p = fits p.condition (all_waiting p.waiting) ≡ true

-- so it is below 64
abbrev pub ServesOpen : Parts → Type 0
ServesOpen p = serves_open p.condition p.seats ≡ true
