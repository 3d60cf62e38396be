-- The examples, computed.
use Rattle.std.proofs.Common.{◌≡◌, ℕ, zero, suc, ◌+◌, ◌*◌, ◌≤◌, List, [], ◌∷◌, ◌++◌, Some, None, refl, ap, arith, Ok}
use Rattle.std.proofs.lemmas.Bool.{ne_eqb}
use Rattle.calls.specs.Sums.{sum_below}
use Rattle.calls.specs.declared.call.Packet.{Packet}
use Rattle.calls.specs.declared.call.Call.{Call}
use Rattle.calls.specs.declared.call.Call.TheVariants.{Open, Enter, Start, Finish}
use Rattle.calls.specs.Answers.{Answer}
use Rattle.calls.specs.declared.call.Reply.TheVariants.{Opened, Entered, Started, Finished}
use Rattle.sharing.specs.Histories.{weight_in}
use Rattle.sharing.specs.Rules.{mark_after}
use Rattle.sharing.specs.Meanings.{Meaning, nothing_open, terms_at, waiting_in, after_open, after_enter, after_start, after_finish}
use Rattle.sharing.specs.Meanings as general
use Rattle.sharing.specs.Clocked.{Clocked, New, ClockedStep, with_mark, while_waiting}
use Rattle.sharing.specs.Clocked as marks
use Rattle.sharing.specs.Examples.{packet, first_mark, step, example_before, example_later, BoundsAttained, WorkedFigures, ample}
use Rattle.sharing.specs.Runs.{Led}
use Rattle.sharing.proofs.Tags.{Ahead}
use Rattle.sharing.proofs.Reaches.{reach_is}

pub worked_figures : WorkedFigures
worked_figures =
    let none = reach_is 9223372036854730763 16 0 (omega arith) (λ some. omega arith) (λ k a b. omega arith) in
    record {
      smallest_mark = refl;
      longest_packet = refl;
      from_the_clock = refl;
      reach_of_one = reach_is 9223372036854730762 16 1 (omega arith) (λ some. omega arith) (λ k a b. omega arith);
      reach_of_none = none;
      out_of_reach = rw none refl;
      length_zero = refl;
      length_at_limit = refl;
      length_above_limit = refl;
      weight_sixteen = refl;
      weight_seventeen = refl;
      last_session = refl;
      no_such_session = refl;
      busy_first = refl;
    }

-- ---- the run, state by state

abbrev clocked_at : Meaning → ℕ → (ℕ → ℕ) → Clocked
clocked_at m clock last = record { meaning = m; clock = clock; last = last }

abbrev x0 : Clocked
x0 = clocked_at nothing_open 0 (λ s. 0)

abbrev opened : Clocked → ℕ → ℕ → ℕ → Clocked
opened x s w l = clocked_at (after_open x.meaning s w l) x.clock x.last

abbrev entered : Clocked → ℕ → Packet → Clocked
entered x s p = clocked_at (after_enter x.meaning s p) x.clock (with_mark x.last s p.mark)

abbrev started : Clocked → ℕ → Packet → Clocked
started x s p = clocked_at (after_start x.meaning s p) p.mark x.last

abbrev finished : Clocked → ℕ → Packet → Clocked
finished x s p =
    clocked_at (after_finish x.meaning s p) (while_waiting x.meaning x.clock) (λ n. while_waiting x.meaning (x.last n))

abbrev p1 : Packet
p1 = packet 200 1 first_mark

abbrev p2 : Packet
p2 = packet 100 2 (first_mark + step)

abbrev p3 : Packet
p3 = packet 100 3 (first_mark + 2 * step)

abbrev p4 : Packet
p4 = packet 100 4 (first_mark + 3 * step)

abbrev q1 : Packet
q1 = packet 100 5 (first_mark + 2 * step)

abbrev x1 : Clocked
x1 = opened x0 0 2 200

abbrev x2 : Clocked
x2 = opened x1 1 1 100

abbrev x3 : Clocked
x3 = entered x2 0 p1

abbrev x4 : Clocked
x4 = entered x3 0 p2

abbrev x5 : Clocked
x5 = entered x4 0 p3

abbrev x6 : Clocked
x6 = entered x5 0 p4

abbrev x7 : Clocked
x7 = started x6 0 p1

abbrev x8 : Clocked
x8 = entered x7 1 q1

abbrev x9 : Clocked
x9 = finished x8 0 p1

abbrev x10 : Clocked
x10 = started x9 0 p2

abbrev x11 : Clocked
x11 = finished x10 0 p2

abbrev x12 : Clocked
x12 = started x11 0 p3

abbrev x13 : Clocked
x13 = finished x12 0 p3

accepted : {x y : Clocked} {c : Call} {a : Answer} → general.Allowed x.meaning c → general.General x.meaning None y.meaning c a →
    marks.Marks x y c a → ClockedStep x c a y
accepted allowed changed marked = record { why = None; allowed = λ none. allowed; general = changed; marks = marked }

no_smaller : (v : ℕ) (ps : List Packet) → Ahead v ps → (q : Packet) (qs : List Packet) → ps ≡ q ∷ qs → v ≤ q.mark
no_smaller v [] a q qs e = let z : ◌≡◌ {A = ℕ} 0 1 = cc in omega arith
no_smaller v (p ∷ ps) a q qs e = let same : p ≡ q = cc in omega (arith, ap (λ r. r.mark) same)

-- no first packet has a smaller mark than v: two sessions are open
smallest : (m : Meaning) (v : ℕ) → Ahead v (waiting_in m 0) → Ahead v (waiting_in m 1) → ((n : ℕ) → waiting_in m (suc (suc n)) ≡ []) →
    (s : ℕ) (q : Packet) (qs : List Packet) → waiting_in m s ≡ q ∷ qs → v ≤ q.mark
smallest m v a b none zero q qs e = no_smaller v (waiting_in m 0) a q qs e
smallest m v a b none (suc zero) q qs e = no_smaller v (waiting_in m 1) b q qs e
smallest m v a b none (suc (suc n)) q qs e = let empty = none n in let z : ◌≡◌ {A = ℕ} 0 1 = cc in omega arith

-- only the sessions 0 and 1 have packets, wherever one starts
none_else : (n : ℕ) →
    (waiting_in x6.meaning (suc (suc n)) ≡ []) × (waiting_in x9.meaning (suc (suc n)) ≡ []) × (waiting_in x11.meaning (suc (suc n)) ≡ [])
none_else n =
    let not-0 = ne_eqb 0 (suc (suc n)) (λ k. omega arith) in
    let not-1 = ne_eqb 1 (suc (suc n)) (λ k. omega arith) in
    rw (not-0, not-1) (refl, refl, refl)

module _ (x : Clocked) (s : ℕ) where
  opening : (w l : ℕ) → general.Allowed x.meaning (Open s w l) → ClockedStep x (Open s w l) (Ok Opened) (opened x s w l)
  opening w l allowed = accepted allowed (general.opens refl refl) (marks.opens (record { clock = refl; last = refl }))

  entering : (p : Packet) → general.Allowed x.meaning (Enter s p.length p.ticket) →
      p.mark ≡ mark_after (x.last s) x.clock p.length (weight_in (terms_at x.meaning s)) →
      ClockedStep x (Enter s p.length p.ticket) (Ok (Entered p.mark)) (entered x s p)
  entering p allowed mark = accepted allowed (general.enters refl refl) (marks.enters (record { mark_is = mark; clock = refl; last = refl }))

  starting : (p : Packet) (rest : List Packet) → general.Allowed x.meaning Start → waiting_in x.meaning s ≡ p ∷ rest →
      ((n : ℕ) (q : Packet) (qs : List Packet) → waiting_in x.meaning n ≡ q ∷ qs → p.mark ≤ q.mark) →
      ClockedStep x Start (Ok (Started (record { session = s; packet = p }))) (started x s p)
  starting p rest allowed first least =
      accepted allowed (general.starts refl first refl) (marks.starts (record { smallest = least; clock = refl; last = refl }))

  finishing : (p : Packet) → general.Allowed x.meaning Finish → x.meaning.in_service ≡ Some (record { session = s; packet = p }) →
      ClockedStep x Finish (Ok (Finished (record { session = s; packet = p }))) (finished x s p)
  finishing p allowed is = accepted allowed (general.finishes refl is refl) (marks.finishes (record { clock = refl; last = refl }))

run_before : Led New ClockedStep example_before x8
unfolding sum_below
run_before =
    let new : New x0 = record { meaning = refl; clock = refl; last = refl } in (
      x7,
      (
        x6,
        (
          x5,
          (
            x4,
            (
              x3,
              (
                x2,
                (x1, (x0, new, opening x0 0 2 200 (ample, ample, refl)), opening x1 1 1 100 (ample, ample, refl)),
                entering x2 0 p1 (ample, ample, refl) refl,
              ),
              entering x3 0 p2 (ample, ample, refl) refl,
            ),
            entering x4 0 p3 (ample, ample, refl) refl,
          ),
          entering x5 0 p4 (ample, ample, refl) refl,
        ),
        starting x6 0 p1 (p2 ∷ p3 ∷ p4 ∷ []) (ample, ample, refl) refl
            (smallest x6.meaning p1.mark (omega arith) tt (λ n. (none_else n).0)),
      ),
      entering x7 1 q1 (ample, ample, refl) refl,
    )

run_later : Led New ClockedStep (example_later ++ example_before) x13
unfolding sum_below
run_later = (
  x12,
  (
    x11,
    (
      x10,
      (
        x9,
        (x8, run_before, finishing x8 0 p1 (ample, ample, refl) refl),
        starting x9 0 p2 (p3 ∷ p4 ∷ []) (ample, ample, refl) refl
            (smallest x9.meaning p2.mark (omega arith) (omega arith) (λ n. (none_else n).1)),
      ),
      finishing x10 0 p2 (ample, ample, refl) refl,
    ),
    starting x11 0 p3 (p4 ∷ []) (ample, ample, refl) refl
        (smallest x11.meaning p3.mark (omega arith) (omega arith) (λ n. (none_else n).2)),
  ),
  finishing x12 0 p3 (ample, ample, refl) refl,
)

pub bounds_attained : BoundsAttained
unfolding sum_below
bounds_attained =
    record {
      state = x13;
      run = run_later;
      backlogged_0 = (omega arith, (omega arith, (omega arith, (omega arith, (omega arith, omega arith)))));
      backlogged_1 = (omega arith, (omega arith, (omega arith, (omega arith, (omega arith, omega arith)))));
      pairwise = refl;
      guaranteed = refl;
    }
