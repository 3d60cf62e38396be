-- Histories of a line. A moment is the history of all the calls made before it.
use Rattle.std.specs.Prelude.{ℕ, ◌+◌, ◌<◌, cond, List, [], ◌∷◌, ◌++◌, length, Some, None, Option, ◌==◌, Ok, Err}
use Rattle.calls.specs.Strides.{charge}
use Rattle.calls.specs.Sums.{sum_below}
use Rattle.calls.specs.declared.call.Packet.{Packet}
pub use Rattle.calls.specs.declared.call.Terms.{Terms}
use Rattle.calls.specs.declared.call.Call.{Call}
use Rattle.calls.specs.declared.call.Call.TheVariants.{Open, Enter, Start, Finish}
use Rattle.calls.specs.Answers.{Answer}
use Rattle.calls.specs.declared.call.Reply.TheVariants.{Opened, Entered, Started, Finished}

pub record Event : Type 0 where
  pub call : Call
  pub answer : Answer

-- the newest first
abbrev pub History : Type 0
History = List Event

-- the packet, if it is of session s: n is its session
abbrev pub packet_of : ℕ → ℕ → Packet → List Packet
packet_of s n packet = cond (n == s) (packet ∷ []) []

-- ---- accepted and finished packets

-- the packet that an accepted call brought session s, with the mark that was answered
abbrev pub accepted_call : ℕ → Call → ℕ → List Packet
accepted_call s (Open n weight limit) mark = []
accepted_call s (Enter n length ticket) mark = packet_of s n (record { length = length; ticket = ticket; mark = mark })
accepted_call s Start mark = []
accepted_call s Finish mark = []

abbrev pub accepted_by : ℕ → Call → Answer → List Packet
accepted_by s call (Ok Opened) = []
accepted_by s call (Ok (Entered mark)) = accepted_call s call mark
accepted_by s call (Ok (Started service)) = []
accepted_by s call (Ok (Finished service)) = []
accepted_by s call (Err reason) = []

abbrev pub finished_by : ℕ → Answer → List Packet
finished_by s (Ok Opened) = []
finished_by s (Ok (Entered mark)) = []
finished_by s (Ok (Started service)) = []
finished_by s (Ok (Finished service)) = packet_of s service.session service.packet
finished_by s (Err reason) = []

-- the packets of session s that were accepted, in the order in which they entered
abbrev pub accepted : ℕ → History → List Packet
accepted s [] = []
accepted s (event ∷ h) = accepted s h ++ accepted_by s event.call event.answer

-- the packets of session s that were finished, in the order in which they left
abbrev pub finished : ℕ → History → List Packet
finished s [] = []
finished s (event ∷ h) = finished s h ++ finished_by s event.answer

-- ---- backlogged sessions

-- session s has work: more of its packets were accepted than finished
abbrev pub Backlogged : ℕ → History → Type 0
Backlogged s h = length (finished s h) < length (accepted s h)

-- session s is backlogged at the moment `before`, at the moment `later ++ before`, and at every moment between
abbrev pub BackloggedThroughout : ℕ → History → History → Type 0
BackloggedThroughout s [] before = Backlogged s before
BackloggedThroughout s (event ∷ later) before = Backlogged s (event ∷ (later ++ before)) × BackloggedThroughout s later before

-- ---- charges

abbrev pub charges : List Packet → ℕ
charges [] = 0
charges (packet ∷ packets) = charge packet.length + charges packets

-- the charges of the packets of session s that `later` finished
abbrev pub served : ℕ → History → ℕ
served s later = charges (finished s later)

abbrev pub sent_by : Answer → ℕ
sent_by (Ok Opened) = 0
sent_by (Ok (Entered mark)) = 0
sent_by (Ok (Started service)) = 0
sent_by (Ok (Finished service)) = charge service.packet.length
sent_by (Err reason) = 0

-- the charges of all packets that `later` finished, whatever their session
abbrev pub sent : History → ℕ
sent [] = 0
sent (event ∷ later) = sent later + sent_by event.answer

-- ---- what a session was opened with

abbrev pub opened_call : ℕ → Call → Option Terms
opened_call s (Open n weight limit) = cond (n == s) (Some (record { weight = weight; limit = limit })) None
opened_call s (Enter n length ticket) = None
opened_call s Start = None
opened_call s Finish = None

abbrev pub opened_by : ℕ → Call → Answer → Option Terms
opened_by s call (Ok Opened) = opened_call s call
opened_by s call (Ok (Entered mark)) = None
opened_by s call (Ok (Started service)) = None
opened_by s call (Ok (Finished service)) = None
opened_by s call (Err reason) = None

abbrev pub latest : Option Terms → Option Terms → Option Terms
latest None old = old
latest (Some new) old = Some new

-- the terms of the latest accepted opening of session s
abbrev pub terms_of : ℕ → History → Option Terms
terms_of s [] = None
terms_of s (event ∷ h) = latest (opened_by s event.call event.answer) (terms_of s h)

abbrev pub weight_in : Option Terms → ℕ
weight_in None = 0
weight_in (Some terms) = terms.weight

-- the most that a packet of the session is charged: the charge of its limit
abbrev pub most_in : Option Terms → ℕ
most_in None = 0
most_in (Some terms) = charge terms.limit

-- each is 0 for a session that was never opened
abbrev pub weight_of : ℕ → History → ℕ
weight_of s h = weight_in (terms_of s h)

abbrev pub most_of : ℕ → History → ℕ
most_of s h = most_in (terms_of s h)

-- the weights of all open sessions together
abbrev pub weight_of_all : History → ℕ
weight_of_all h = sum_below 64 (λ s. weight_of s h)

-- the most that one packet of each open session is charged, together
abbrev pub most_of_all : History → ℕ
most_of_all h = sum_below 64 (λ s. most_of s h)
