-- What a listing tells is a history, line by line.
use Rattle.std.proofs.Common.{◌≡◌, List, [], ◌∷◌, ◌++◌, Ok, Err, Result, sym, refl, ap, ◌∙◌, subst}
use Rattle.std.proofs.lemmas.List.{append_assoc, append-nil}
use Rattle.calls.specs.declared.call.Call.{Call}
use Rattle.sharing.specs.Histories.{History}
use Rattle.sharing.specs.Runs.{Led}
use Rattle.sharing.specs.Clocked.{Clocked, New}
use Rattle.sharing.proofs.Runs.{led_before}
use Rattle.self_clocked.specs.Exact.{Exact, answer_to, after}
use Rattle.self_clocked.specs.Rows.{new_line, answers_to, after_calls}
use Rattle.self_clocked.proofs.Exacts.{exact_fair}
use Rattle.trace.specs.declared.fault.LineFault.{LineFault}
use Rattle.trace.specs.Streams.{readings}
use Rattle.trace.proofs.Chunks.{cuts_do_not_matter}
use Rattle.listing.specs.Listings.{after_line, calls_of, told, told_on, closings_below, listing_of, listing}
use Rattle.listing.specs.Tellings.{called, answered, ListingsTellHistories, CutsLeaveTheListing, with_line, GoesOn}

-- ---- one line

pub goes_on : (x y : Clocked) (line : Result Call LineFault) → y ≡ after_line x line → (h : History) → Led New Exact h x → GoesOn x line y h
goes_on x y (Ok call) to h led =
    let run : Led New Exact (with_line h x (Ok call)) y = (x, led, record { answer = refl; after = to }) in
    record { led = run; fair = exact_fair (with_line h x (Ok call)) y run }
goes_on x y (Err fault) to h led =
    let run : Led New Exact h y = subst (Led New Exact h) (sym to) led in record { led = run; fair = exact_fair h y run }

-- ---- the history of calls in a row

-- behind the history h, which led to the state x
history_of : History → Clocked → List Call → History
history_of h x [] = h
history_of h x (call ∷ calls) = history_of (record { call = call; answer = answer_to x call } ∷ h) (after x call) calls

led_on : (h : History) (x : Clocked) (calls : List Call) → Led New Exact h x → Led New Exact (history_of h x calls) (after_calls x calls)
unfolding history_of
led_on h x [] led = led
led_on h x (call ∷ calls) led =
    led_on (record { call = call; answer = answer_to x call } ∷ h) (after x call) calls (x, led, record { answer = refl; after = refl })

called_of : (h : History) (x : Clocked) (calls : List Call) → called (history_of h x calls) ≡ called h ++ calls
unfolding history_of
called_of h x [] = sym (append-nil (called h))
called_of h x (call ∷ calls) =
    called_of (record { call = call; answer = answer_to x call } ∷ h) (after x call) calls ∙ append_assoc (called h) (call ∷ []) calls

answered_of : (h : History) (x : Clocked) (calls : List Call) → answered (history_of h x calls) ≡ answered h ++ answers_to x calls
unfolding history_of
answered_of h x [] = sym (append-nil (answered h))
answered_of h x (call ∷ calls) =
    answered_of (record { call = call; answer = answer_to x call } ∷ h) (after x call) calls ∙
    append_assoc (answered h) (answer_to x call ∷ []) (answers_to (after x call) calls)

-- ---- the whole

is_new : New new_line
is_new = record { meaning = refl; clock = refl; last = refl }

pub listings_tell_histories : ListingsTellHistories
unfolding listing listing_of told_on
listings_tell_histories trace =
    let rs = readings trace in
    let h = history_of [] new_line (calls_of rs) in
    let x = after_calls new_line (calls_of rs) in
    let run : Led New Exact h x = led_on [] new_line (calls_of rs) is_new in
    record {
      history = h;
      line = x;
      calls = called_of [] new_line (calls_of rs);
      led = run;
      fair = exact_fair h x run;
      moments = λ since before cut.
          let at = led_before New Exact since before x (subst (λ k. Led New Exact k x) cut run) in (at.0, at.1, exact_fair before at.0 at.1);
      text_is = ap (λ answers. told rs answers ++ closings_below 64 x.meaning) (sym (answered_of [] new_line (calls_of rs)));
    }

pub cuts_leave_the_listing : CutsLeaveTheListing
unfolding listing
cuts_leave_the_listing chunks rs reads = ap listing_of (cuts_do_not_matter chunks rs reads)
