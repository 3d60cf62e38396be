-- What a listing tells: the history of the calls that were read, on a new self-clocked line.
use Rattle.std.specs.Prelude.{◌≡◌, ℕ, List, [], ◌∷◌, ◌++◌, Ok, Err, Result}
use Rattle.std.specs.List.{flat_map}
use Rattle.calls.specs.declared.call.Call.{Call}
use Rattle.calls.specs.Answers.{Answer}
use Rattle.sharing.specs.Histories.{History}
use Rattle.sharing.specs.Runs.{Led}
use Rattle.sharing.specs.Statements.{Fair}
use Rattle.sharing.specs.Clocked.{Clocked, New}
use Rattle.self_clocked.specs.Exact.{Exact, answer_to}
use Rattle.trace.specs.declared.fault.LineFault.{LineFault}
use Rattle.trace.specs.declared.reading.Reading.{Reading}
use Rattle.trace.specs.Streams.{begin, readings, ReadsAll}
use Rattle.listing.specs.Listings.{calls_of, told, closings_below, listing_of, listing}

-- the calls of a history, and their answers, the oldest first
abbrev pub called : History → List Call
called [] = []
called (event ∷ h) = called h ++ event.call ∷ []

abbrev pub answered : History → List Answer
answered [] = []
answered (event ∷ h) = answered h ++ event.answer ∷ []

pub record Tells (rs : List Reading) (text : List ℕ) : Type 0 where
  pub history : History
  pub line : Clocked
  -- its calls are the calls that were read, in their order
  pub calls : called history ≡ calls_of rs
  -- it led from a new self-clocked line to this state
  pub led : Led New Exact history line
  -- the three statements hold of it, and at every moment of it
  pub fair : Fair history line.meaning
  pub moments : (since before : History) → history ≡ since ++ before → (x : Clocked) × Led New Exact before x × Fair before x.meaning
  -- the text tells its answers, each at the line that asked, and then how the open sessions stand
  pub text_is : text ≡ told rs (answered history) ++ closings_below 64 line.meaning

-- the listing of every trace tells such a history
abbrev pub ListingsTellHistories : Type 0
ListingsTellHistories = (trace : List ℕ) → Tells (readings trace) (listing trace)

-- and it is the same wherever the trace is cut into chunks
abbrev pub CutsLeaveTheListing : Type 0
CutsLeaveTheListing =
    (chunks : List (List ℕ)) (rs : List Reading) → ReadsAll begin chunks rs → listing_of rs ≡ listing (flat_map (λ c. c) chunks)

-- ---- one line at a time

-- the history h with what was said to the call of one line, which had the state x; a faulty line adds nothing
abbrev pub with_line : History → Clocked → Result Call LineFault → History
with_line h x (Ok call) = record { call = call; answer = answer_to x call } ∷ h
with_line h x (Err fault) = h

-- whatever history led to x: with this line it led to y, and the three statements hold of it
pub record GoesOn (x : Clocked) (line : Result Call LineFault) (y : Clocked) (h : History) : Type 0 where
  pub led : Led New Exact (with_line h x line) y
  pub fair : Fair (with_line h x line) y.meaning
