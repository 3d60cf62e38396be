-- The rules of marks, reach and room, and for each call why it is refused.
use Rattle.std.specs.Prelude.{ℕ, zero, suc, ◌+◌, ◌-◌, ◌*◌, max, Bool, cond, not, leb, Some, None, Option, nat_le, nat_lt}
use Rattle.calls.specs.Strides.{within, charge, stride}
use Rattle.calls.specs.declared.refusal.Refusal.{Refusal}
use Rattle.calls.specs.declared.refusal.Refusal.TheVariants.{NoSuchSession, BadWeight, BadLimit, AlreadyOpen, NotOpen, BadLength, Full, OutOfReach, NothingWaiting, ServerBusy, NothingInService}

-- ---- marks

abbrev pub mark_from : ℕ → ℕ → ℕ → ℕ
mark_from base length weight = base + charge length * stride weight

-- a packet is marked from the last mark of its session or from the clock, whichever is larger
abbrev pub mark_after : ℕ → ℕ → ℕ → ℕ → ℕ
mark_after last clock length weight = mark_from (max last clock) length weight

-- no mark is above it
abbrev pub ceiling : ℕ
ceiling = 9223372036854775807

-- ---- reach and room

-- the largest number from 1 to n that passes the test, or 0 where none does
unfoldable pub longest : ℕ → (ℕ → Bool) → ℕ
longest zero test = 0
longest (suc n) test = cond (test (suc n)) (suc n) (longest n test)

-- the longest length up to 65535 whose mark from this base does not pass the ceiling
abbrev pub reach_from : ℕ → ℕ → ℕ
reach_from base weight = longest 65535 (λ length. leb (mark_from base length weight) ceiling)

-- the places that are left beside the waiting packets of all sessions
abbrev pub room_beside : ℕ → ℕ
room_beside waiting = 256 - waiting

-- ---- why a call is refused: the first test that fails gives the reason

abbrev pub check : Bool → Refusal → Option Refusal → Option Refusal
check test reason others = cond test others (Some reason)

abbrev pub open_refusal : Bool → ℕ → ℕ → ℕ → Option Refusal
open_refusal is_open session weight limit =
    check (nat_lt session 64) NoSuchSession
    (check (within weight 16) BadWeight (check (within limit 65535) BadLimit (check (not is_open) AlreadyOpen None)))

-- the limit of the session is given where it is open
abbrev pub length_refusal : Option ℕ → ℕ → ℕ → ℕ → Option Refusal
length_refusal None room reach length = Some NotOpen
length_refusal (Some limit) room reach length =
    check (within length limit) BadLength (check (nat_lt 0 room) Full (check (nat_le length reach) OutOfReach None))

abbrev pub enter_refusal : Option ℕ → ℕ → ℕ → ℕ → ℕ → Option Refusal
enter_refusal limit room reach session length = check (nat_lt session 64) NoSuchSession (length_refusal limit room reach length)

-- busy: a packet is in service; waiting: how many wait
abbrev pub start_refusal : Bool → ℕ → Option Refusal
start_refusal busy waiting = check (not busy) ServerBusy (check (nat_lt 0 waiting) NothingWaiting None)

abbrev pub finish_refusal : Bool → Option Refusal
finish_refusal busy = check busy NothingInService None
