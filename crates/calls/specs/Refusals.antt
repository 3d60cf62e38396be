-- The numbers of the refusals.
use Rattle.std.specs.Prelude.{ℕ}
use Rattle.calls.specs.declared.refusal.Refusal.{Refusal}
use Rattle.calls.specs.declared.refusal.Refusal.TheVariants.{NoSuchSession, BadWeight, BadLimit, AlreadyOpen, NotOpen, BadLength, Full, OutOfReach, NothingWaiting, ServerBusy, NothingInService, BadCap, ShortBuffer, LongTrace, DuplicateEntry}

abbrev pub refusal_number : Refusal → ℕ
refusal_number NoSuchSession = 1
refusal_number BadWeight = 2
refusal_number BadLimit = 3
refusal_number AlreadyOpen = 4
refusal_number NotOpen = 5
refusal_number BadLength = 6
refusal_number Full = 7
refusal_number OutOfReach = 8
refusal_number NothingWaiting = 9
refusal_number ServerBusy = 10
refusal_number NothingInService = 11
refusal_number BadCap = 12
refusal_number ShortBuffer = 13
refusal_number LongTrace = 17
refusal_number DuplicateEntry = 18
