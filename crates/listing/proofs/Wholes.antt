-- The whole listing in the buffer.
use Rattle.std.proofs.Common.{◌≡◌, ℕ, ◌+◌, ◌≤◌, leb, List, ◌++◌, length, drop, None, Ok, Err, sym, ap, ◌∙◌, zero-add, arith}
use Rattle.std.proofs.lemmas.Bool.{leb-true}
use Rattle.calls.specs.declared.refusal.Refusal.{Refusal}
use Rattle.calls.specs.declared.refusal.Refusal.TheVariants.{ShortBuffer, LongTrace}
use Rattle.sharing.specs.Rules.{check}
use Rattle.sharing.specs.Clocked.{Clocked}
use Rattle.sessions.specs.Verdicts.{verdict, settled}
use Rattle.sessions.proofs.Keeping.{passed, no_reason, the_reason}
use Rattle.self_clocked.specs.Rows.{new_line, after_calls}
use Rattle.trace.specs.Streams.{lines_of, readings}
use Rattle.listing.specs.Texts.{put_at, Wrote}
use Rattle.listing.specs.Listings.{calls_of, told_on, closings_below, listing_of, listing, octets_for, list_refusal, list_answer, listed_over}
use Rattle.listing.proofs.Writing.{part_from, with_part, wrote_then, wrote_as}

-- the lines, and then the closing lines
pub listing_wrote : (trace : List ℕ) (x y : Clocked) {before middle part : List ℕ} {place n : ℕ} → x ≡ new_line →
    y ≡ after_calls x (calls_of (readings trace)) → Wrote before 0 (told_on x (readings trace)) middle place →
    Wrote (part_from place middle) 0 (closings_below 64 y.meaning) part n →
    Wrote before 0 (listing trace) (with_part place middle part) (place + n)
unfolding listing listing_of
listing_wrote trace x y new to lines closings =
    wrote_as (told_on x (readings trace) ++ closings_below 64 y.meaning) (listing trace)
    ((λ i. told_on (new i) (readings trace) ++ closings_below 64 ((to ∙ ap (λ z. after_calls z (calls_of (readings trace))) new) i).meaning))
    (wrote_then (omega arith) lines closings)

front : (out text : List ℕ) → put_at out 0 text ≡ text ++ drop (length text) out
unfolding put_at
front out text = ap (λ n. text ++ drop n out) (zero-add (length text))

module _ (trace out : List ℕ) where
  pub refused_answer : (reason : Refusal) → Err reason ≡ verdict (list_refusal trace out) (tt {0}) → Err reason ≡ list_answer trace out
  refused_answer reason e =
      let why = the_reason (list_refusal trace out) (tt {0}) reason e in ap (λ o. verdict o (length (listing trace))) (sym why)

  pub refused_octets : (reason : Refusal) → Err reason ≡ verdict (list_refusal trace out) (tt {0}) → out ≡ listed_over trace out
  refused_octets reason e =
      let why = the_reason (list_refusal trace out) (tt {0}) reason e in
      ap (λ o. settled o out (listing trace ++ drop (length (listing trace)) out)) (sym why)

  pub short_trace : Ok (tt {0}) ≡ verdict (list_refusal trace out) (tt {0}) → length trace ≤ 65536
  short_trace none =
      leb-true (length trace) 65536
      (passed (leb (length trace) 65536) LongTrace (check (leb (octets_for (length (lines_of trace))) (length out)) ShortBuffer None)
      (no_reason (list_refusal trace out) (tt {0}) (tt {0}) none)).0

  module _ (none : Ok (tt {0}) ≡ verdict (list_refusal trace out) (tt {0})) (after : List ℕ) (end : ℕ) (wrote : Wrote out 0 (listing trace) after end) where
    allowed : list_refusal trace out ≡ None
    allowed = no_reason (list_refusal trace out) (tt {0}) (tt {0}) none

    pub listed_answer : Ok end ≡ list_answer trace out
    listed_answer = ap Ok (wrote.place ∙ zero-add (length (listing trace))) ∙ ap (λ o. verdict o (length (listing trace))) (sym allowed)

    pub listed_octets : after ≡ listed_over trace out
    listed_octets =
        wrote.octets ∙ front out (listing trace) ∙
        ap (λ o. settled o out (listing trace ++ drop (length (listing trace)) out)) (sym allowed)
