-- Examples: a run that reaches both bounds, and figures worked out from the rules.
use Rattle.std.specs.Prelude.{◌≡◌, ℕ, ◌+◌, ◌*◌, [], ◌∷◌, ◌++◌, Some, None, Ok}
use Rattle.calls.specs.Strides.{charge, stride}
use Rattle.calls.specs.declared.call.Packet.{Packet}
use Rattle.calls.specs.declared.call.Call.TheVariants.{Open, Enter, Start, Finish}
use Rattle.calls.specs.declared.call.Reply.TheVariants.{Opened, Entered, Started, Finished}
use Rattle.calls.specs.declared.refusal.Refusal.TheVariants.{NoSuchSession, BadWeight, BadLength, OutOfReach, ServerBusy}
use Rattle.sharing.specs.Histories.{History, BackloggedThroughout, served, sent, weight_of}
use Rattle.sharing.specs.Rules.{mark_after, reach_from}
use Rattle.sharing.specs.Meanings.{Meaning, nothing_open, refusal, after_open}
use Rattle.sharing.specs.Clocked.{Clocked, New, ClockedStep}
use Rattle.sharing.specs.Runs.{Led}
use Rattle.sharing.specs.Statements.{pairwise_bound, share_bound}

-- ---- a run that reaches both bounds: session 0 has weight 2 and limit 200, session 1 has weight 1 and limit 100

abbrev pub packet : ℕ → ℕ → ℕ → Packet
packet length ticket mark = record { length = length; ticket = ticket; mark = mark }

-- the mark of the first packet, and how far apart the marks of the next three are
abbrev pub first_mark : ℕ
first_mark = charge 200 * stride 2

abbrev pub step : ℕ
step = charge 100 * stride 2

-- four packets enter in session 0, and the first of them, which is as long as it may be, starts; then one enters in session 1, just as long as it
-- may be, and is marked as the third one of session 0
abbrev pub example_before : History
example_before =
    record { call = Enter 1 100 5; answer = Ok (Entered (first_mark + 2 * step)) } ∷
    record { call = Start; answer = Ok (Started (record { session = 0; packet = packet 200 1 first_mark })) } ∷
    record { call = Enter 0 100 4; answer = Ok (Entered (first_mark + 3 * step)) } ∷
    record { call = Enter 0 100 3; answer = Ok (Entered (first_mark + 2 * step)) } ∷
    record { call = Enter 0 100 2; answer = Ok (Entered (first_mark + step)) } ∷
    record { call = Enter 0 200 1; answer = Ok (Entered first_mark) } ∷
    record { call = Open 1 1 100; answer = Ok Opened } ∷
    record { call = Open 0 2 200; answer = Ok Opened } ∷
    []

-- session 0 is served three packets and session 1 none: of the two equal marks that of session 0 goes first
abbrev pub example_later : History
example_later =
    record { call = Finish; answer = Ok (Finished (record { session = 0; packet = packet 100 3 (first_mark + 2 * step) })) } ∷
    record { call = Start; answer = Ok (Started (record { session = 0; packet = packet 100 3 (first_mark + 2 * step) })) } ∷
    record { call = Finish; answer = Ok (Finished (record { session = 0; packet = packet 100 2 (first_mark + step) })) } ∷
    record { call = Start; answer = Ok (Started (record { session = 0; packet = packet 100 2 (first_mark + step) })) } ∷
    record { call = Finish; answer = Ok (Finished (record { session = 0; packet = packet 200 1 first_mark })) } ∷
    []

pub record BoundsAttained : Type 0 where
  pub state : Clocked
  pub run : Led New ClockedStep (example_later ++ example_before) state
  pub backlogged_0 : BackloggedThroughout 0 example_later example_before
  pub backlogged_1 : BackloggedThroughout 1 example_later example_before
  pub pairwise : weight_of 1 (example_later ++ example_before) * served 0 example_later ≡ pairwise_bound 0 1 example_later example_before
  pub guaranteed : weight_of 1 (example_later ++ example_before) * sent example_later ≡ share_bound 1 example_later example_before

-- ---- figures worked out

-- session 5 is open, with weight 16 and limit 100
abbrev pub one_open : Meaning
one_open = after_open nothing_open 5 16 100

-- a packet is in service and none waits
abbrev pub one_in_service : Meaning
one_in_service = record { session = one_open.session; in_service = Some (record { session = 5; packet = packet 1 0 45045 }) }

abbrev pub ample : ℕ → ℕ
ample s = 256

pub record WorkedFigures : Type 0 where
  pub smallest_mark : mark_after 0 0 1 16 ≡ 45045
  pub longest_packet : mark_after 0 0 65535 1 ≡ 47232385200
  pub from_the_clock : mark_after 300 500 2 3 ≡ 480980
  pub reach_of_one : reach_from 9223372036854730762 16 ≡ 1
  pub reach_of_none : reach_from 9223372036854730763 16 ≡ 0
  pub out_of_reach : refusal one_open ample (λ s. reach_from 9223372036854730763 16) (Enter 5 1 0) ≡ Some OutOfReach
  pub length_zero : refusal one_open ample ample (Enter 5 0 0) ≡ Some BadLength
  pub length_at_limit : refusal one_open ample ample (Enter 5 100 0) ≡ None
  pub length_above_limit : refusal one_open ample ample (Enter 5 101 0) ≡ Some BadLength
  pub weight_sixteen : refusal one_open ample ample (Open 63 16 100) ≡ None
  pub weight_seventeen : refusal one_open ample ample (Open 63 17 100) ≡ Some BadWeight
  pub last_session : refusal one_open ample ample (Open 63 1 100) ≡ None
  pub no_such_session : refusal one_open ample ample (Open 64 1 100) ≡ Some NoSuchSession
  pub busy_first : refusal one_in_service ample ample Start ≡ Some ServerBusy
