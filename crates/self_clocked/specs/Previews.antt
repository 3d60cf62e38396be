-- The order in which the waiting packets start if only start and finish come from now on.
use Rattle.std.specs.Prelude.{◌≡◌, ℕ, zero, suc, ◌&&◌, List, [], ◌∷◌, ◌++◌, map, length, drop, replicate, None, Option, Result, nat_le, Ok, Err}
use Rattle.std.specs.List.{AllByRecursion}
use Rattle.calls.specs.declared.call.Packet.{Packet}
use Rattle.calls.specs.declared.call.Service.{Service}
use Rattle.calls.specs.declared.call.Call.{Call}
use Rattle.calls.specs.declared.call.Call.TheVariants.{Open, Enter, Start, Finish}
use Rattle.calls.specs.Answers.{Answer}
use Rattle.calls.specs.declared.call.Reply.TheVariants.{Opened, Entered, Started, Finished}
use Rattle.calls.specs.declared.refusal.Refusal.{Refusal}
use Rattle.calls.specs.declared.refusal.Refusal.TheVariants.{ShortBuffer}
use Rattle.ready.specs.Order.{Entry, AtMost}
use Rattle.sharing.specs.Histories.{History, packet_of}
use Rattle.sharing.specs.Runs.{Led}
use Rattle.sharing.specs.Rules.{check}
use Rattle.sharing.specs.Meanings.{waiting_in, all_waiting}
use Rattle.sharing.specs.Clocked.{Clocked, New}
use Rattle.sessions.specs.Verdicts.{verdict, settled}
use Rattle.self_clocked.specs.Exact.{Exact}
use Rattle.self_clocked.specs.Rows.{answers_to, after_calls}

-- ---- the order, by the line's own start and finish

-- a finish and a start, n times; a finish with nothing in service is refused and changes nothing
abbrev pub finishes_and_starts : ℕ → List Call
finishes_and_starts zero = []
finishes_and_starts (suc n) = Finish ∷ Start ∷ finishes_and_starts n

-- the packet that was started, if one was
abbrev pub started_by : Answer → List Service
started_by (Ok Opened) = []
started_by (Ok (Entered mark)) = []
started_by (Ok (Started service)) = service ∷ []
started_by (Ok (Finished service)) = []
started_by (Err reason) = []

abbrev pub started_in : List Answer → List Service
started_in [] = []
started_in (answer ∷ answers) = started_by answer ++ started_in answers

-- as many starts as packets wait
unfoldable pub start_order : Clocked → List Service
start_order x = started_in (answers_to x (finishes_and_starts (all_waiting x.meaning)))

-- ---- what a preview leaves in its buffers

abbrev pub tickets_of : List Service → List ℕ
tickets_of services = map (λ service. service.packet.ticket) services

-- each buffer has 256 numbers or more, whatever waits
abbrev pub preview_refusal : List ℕ → List ℕ → Option Refusal
preview_refusal tickets scratch = check (nat_le 256 (length tickets) && nat_le 256 (length scratch)) ShortBuffer None

-- how many packets wait
abbrev pub preview_answer : Clocked → List ℕ → List ℕ → Result ℕ Refusal
preview_answer x tickets scratch = verdict (preview_refusal tickets scratch) (all_waiting x.meaning)

-- the tickets in their order, and behind them what was there; all that was there where the preview is refused
abbrev pub tickets_after : Clocked → List ℕ → List ℕ → List ℕ
tickets_after x tickets scratch =
    settled (preview_refusal tickets scratch) tickets (tickets_of (start_order x) ++ drop (all_waiting x.meaning) tickets)

-- 256 zeros, and behind them what was there
abbrev pub scratch_after : List ℕ → List ℕ → List ℕ
scratch_after tickets scratch = settled (preview_refusal tickets scratch) scratch (replicate 256 0 ++ drop 256 scratch)

-- ---- laws of the order

abbrev pub StartOrFinish : Call → Type 0
StartOrFinish (Open s weight limit) = ⊥
StartOrFinish (Enter s length ticket) = ⊥
StartOrFinish Start = Unit {0}
StartOrFinish Finish = Unit {0}

-- whatever starts and finishes come, what they start is the front of the order, and behind it is the order of what they leave
abbrev pub StartsFollowTheOrder : Type 0
StartsFollowTheOrder =
    (x : Clocked) (calls : List Call) → AllByRecursion StartOrFinish calls →
    start_order x ≡ started_in (answers_to x calls) ++ start_order (after_calls x calls)

-- the packets of session s among these
abbrev pub of_session : ℕ → List Service → List Packet
of_session s [] = []
of_session s (service ∷ services) = packet_of s service.session service.packet ++ of_session s services

abbrev pub entry : Service → Entry
entry service = (service.packet.mark, service.session)

-- each comes before all that follow it, by its mark and then by its session
abbrev pub ByMarkAndSession : List Service → Type 0
ByMarkAndSession [] = Unit {0}
ByMarkAndSession (service ∷ services) = AllByRecursion (λ later. AtMost (entry service) (entry later)) services × ByMarkAndSession services

pub record Ordered (x : Clocked) : Type 0 where
  -- each waiting packet stands in it once, those of a session in their order
  pub each : (s : ℕ) → of_session s (start_order x) ≡ waiting_in x.meaning s
  pub count : length (start_order x) ≡ all_waiting x.meaning
  pub sorted : ByMarkAndSession (start_order x)

-- of every line that began new and saw only calls
abbrev pub OrderIsByMarkAndSession : Type 0
OrderIsByMarkAndSession = (h : History) (x : Clocked) → Led New Exact h x → Ordered x
