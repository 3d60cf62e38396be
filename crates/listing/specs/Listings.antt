-- The listing of a trace: a line about each of its lines, and a closing line for each open session.
use Rattle.std.specs.Prelude.{ℕ, zero, suc, ◌+◌, ◌*◌, cond, List, [], ◌∷◌, ◌++◌, length, drop, Some, None, Ok, Err, count_by, Option, Result, nat_eq, nat_le, nat_lt}
use Rattle.std.specs.Option.{option_map}
use Rattle.calls.specs.declared.call.Call.{Call}
use Rattle.calls.specs.Answers.{Answer}
use Rattle.calls.specs.declared.refusal.Refusal.{Refusal}
use Rattle.calls.specs.declared.refusal.Refusal.TheVariants.{ShortBuffer, LongTrace}
use Rattle.sharing.specs.Rules.{check}
use Rattle.sharing.specs.Meanings.{Meaning, Session}
use Rattle.sharing.specs.Clocked.{Clocked}
use Rattle.sessions.specs.Verdicts.{verdict, settled}
use Rattle.self_clocked.specs.Exact.{answer_to, after}
use Rattle.self_clocked.specs.Rows.{new_line, answers_to, after_calls}
use Rattle.trace.specs.declared.fault.LineFault.{LineFault}
use Rattle.trace.specs.declared.reading.Reading.{Reading}
use Rattle.trace.specs.Streams.{lines_of, readings}
use Rattle.trace.specs.declared.listing.Closing.{Closing}
use Rattle.trace.specs.Texts.{answer_text, fault_text, closing_text}

-- ---- one line of the trace, on a line of packets in the state x

abbrev pub said_of : Clocked → ℕ → Result Call LineFault → List ℕ
said_of x at (Ok call) = answer_text at call (answer_to x call)
said_of x at (Err fault) = fault_text at fault

abbrev pub reading_text : Clocked → Reading → List ℕ
reading_text x r = said_of x r.at r.line

-- a faulty line changes nothing
abbrev pub after_line : Clocked → Result Call LineFault → Clocked
after_line x (Ok call) = after x call
after_line x (Err fault) = x

abbrev pub after_reading : Clocked → Reading → Clocked
after_reading x r = after_line x r.line

-- ---- all of its lines

abbrev pub call_in : Result Call LineFault → List Call
call_in (Ok call) = call ∷ []
call_in (Err fault) = []

-- the calls that were read, in their order
abbrev pub calls_of : List Reading → List Call
calls_of [] = []
calls_of (r ∷ rs) = call_in r.line ++ calls_of rs

-- what is said about a line; a call is answered by the next of the answers
abbrev pub said_next : ℕ → Result Call LineFault → List Answer → List ℕ
said_next at (Ok call) [] = []
said_next at (Ok call) (answer ∷ answers) = answer_text at call answer
said_next at (Err fault) answers = fault_text at fault

abbrev pub answers_left : Result Call LineFault → List Answer → List Answer
answers_left (Ok call) [] = []
answers_left (Ok call) (answer ∷ answers) = answers
answers_left (Err fault) answers = answers

-- each faulty line by its fault, each call by its answer
abbrev pub told : List Reading → List Answer → List ℕ
told [] answers = []
told (r ∷ rs) answers = said_next r.at r.line answers ++ told rs (answers_left r.line answers)

-- the same, where the calls are made on a line in the state x
unfoldable pub told_on : Clocked → List Reading → List ℕ
told_on x rs = told rs (answers_to x (calls_of rs))

-- ---- the open sessions at the end

abbrev pub standing : ℕ → Session → Closing
standing s t = record { session = s; weight = t.weight; octets = t.octets; waiting = length t.waiting }

-- how session s stands, if it is open; the packet in service does not wait
abbrev pub closing_at : Meaning → ℕ → Option Closing
closing_at m s = cond (nat_lt s 64) (option_map (standing s) (m.session s)) None

abbrev pub standing_text : Closing → List ℕ
standing_text c = closing_text c.session c.weight c.octets c.waiting

abbrev pub closing_line : Option Closing → List ℕ
closing_line None = []
closing_line (Some c) = standing_text c

-- the closing lines of the open sessions below n, in rising order
unfoldable pub closings_below : ℕ → Meaning → List ℕ
closings_below zero m = []
closings_below (suc n) m = closings_below n m ++ closing_line (closing_at m n)

-- ---- the whole: the calls that were read are made on a new line

unfoldable pub listing_of : List Reading → List ℕ
listing_of rs = told_on new_line rs ++ closings_below 64 (after_calls new_line (calls_of rs)).meaning

unfoldable pub listing : List ℕ → List ℕ
listing trace = listing_of (readings trace)

-- ---- a trace and a buffer that are handed over

-- how many octets 10 a trace has
abbrev pub ends_in : List ℕ → ℕ
ends_in trace = count_by (λ c. nat_eq c 10) trace

-- the octets that are enough for the listing of a trace with so many lines: 96 for each of them, and 96 for each of 64 sessions
abbrev pub octets_for : ℕ → ℕ
octets_for lines = 96 * lines + 6144

-- a trace may have 65536 octets; that is checked first
abbrev pub list_refusal : List ℕ → List ℕ → Option Refusal
list_refusal trace out =
    check (nat_le (length trace) 65536) LongTrace (check (nat_le (octets_for (length (lines_of trace))) (length out)) ShortBuffer None)

-- how many octets the listing has
abbrev pub list_answer : List ℕ → List ℕ → Result ℕ Refusal
list_answer trace out = verdict (list_refusal trace out) (length (listing trace))

-- the listing, and behind it what was there; all that was there where the call is refused
abbrev pub listed_over : List ℕ → List ℕ → List ℕ
listed_over trace out = settled (list_refusal trace out) out (listing trace ++ drop (length (listing trace)) out)
