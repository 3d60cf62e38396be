-- A trace line by line: its lines, and what is listed of them so far.
use Rattle.std.proofs.Common.{◌≡◌, ℕ, suc, ◌+◌, ◌-◌, ◌*◌, ◌<◌, ◌≤◌, Bool, true, false, cond, eqb, List, [], ◌∷◌, ◌++◌, length, get_or, Some, None, Ok, Err, Option, Result, sym, refl, ap, ◌∙◌, add-one, arith}
use Rattle.std.proofs.lemmas.List.{append_assoc, append-nil}
use Rattle.std.proofs.lemmas.List.Sums.{sum_by-cons}
use Rattle.std.proofs.lemmas.Bool.{cond_both, eqb-true, eqb-false, eq-eqb, ne_eqb}
use Rattle.calls.specs.declared.call.Call.{Call}
use Rattle.sharing.specs.Clocked.{Clocked}
use Rattle.sharing.specs.Meanings.{Meaning}
use Rattle.self_clocked.specs.Rows.{after_calls}
use Rattle.trace.specs.declared.fault.LineFault.{LineFault}
use Rattle.trace.specs.declared.reading.Reading.{Reading}
use Rattle.trace.specs.Cuts.{split_once, split, onto_first}
use Rattle.trace.specs.Lines.{read_line}
use Rattle.trace.specs.Streams.{last_line, ended, lines_of, next_at, readings_from, readings}
use Rattle.trace.proofs.Parts.{split_more, split_last}
use Rattle.trace.proofs.Chunks.{SomeParts, some_parts, split_parts}
use Rattle.std.specs.Option.{option_map}
use Rattle.trace.specs.declared.listing.Closing.{Closing}
use Rattle.listing.specs.Texts.{Wrote}
use Rattle.listing.specs.Listings.{ends_in, said_of, after_line, calls_of, told_on, closing_at, standing_text, closing_line, closings_below}
use Rattle.listing.proofs.Writing.{part_from, with_part, wrote_then, wrote_as, wrote_none}

-- ---- the lines of a trace

first_ended : (line : List ℕ) (parts : List (List ℕ)) → SomeParts parts → ended (line ∷ parts) ≡ line ∷ ended parts
first_ended line parts (some_parts part others) = refl

pub lines_more : (xs line rest : List ℕ) → Some (line, rest) ≡ split_once 10 xs → lines_of xs ≡ line ∷ lines_of rest
lines_more xs line rest e = ap ended (split_more 10 xs line rest e) ∙ first_ended line (split 10 rest) (split_parts 10 rest)

pub lines_last : (xs : List ℕ) → None ≡ split_once 10 xs → lines_of xs ≡ last_line xs
lines_last xs e = ap ended (split_last 10 xs e)

pub last_none : (xs : List ℕ) → length xs ≡ 0 → last_line xs ≡ []
last_none [] e = refl
last_none (x ∷ xs) e = let no : ⊥ = omega arith in absurd no

pub last_some : (xs : List ℕ) → (length xs ≡ 0 → ⊥) → last_line xs ≡ xs ∷ []
last_some [] some = absurd (some refl)
last_some (x ∷ xs) some = refl

-- ---- what is said about one line, and then about the others

abbrev reading : ℕ → Result Call LineFault → Reading
reading at line = record { at = at; line = line }

told_first : (x : Clocked) (at : ℕ) (line : Result Call LineFault) (rs : List Reading) →
    told_on x (reading at line ∷ rs) ≡ said_of x at line ++ told_on (after_line x line) rs
unfolding told_on
told_first x at (Ok call) rs = refl
told_first x at (Err fault) rs = refl

after_first_call : (x : Clocked) (at : ℕ) (line : Result Call LineFault) (rs : List Reading) →
    after_calls x (calls_of (reading at line ∷ rs)) ≡ after_calls (after_line x line) (calls_of rs)
after_first_call x at (Ok call) rs = refl
after_first_call x at (Err fault) rs = refl

told_none : (x : Clocked) → told_on x [] ≡ []
unfolding told_on
told_none x = refl

-- ---- what is listed so far: `rest` is still to be read, and its first line has the number `at`

pub record Listed (x : Clocked) (trace before : List ℕ) (y : Clocked) (at : ℕ) (rest after : List ℕ) (end : ℕ) : Type 0 where
  pub text : List ℕ
  pub wrote : Wrote before 0 text after end
  pub lines : told_on x (readings trace) ≡ text ++ told_on y (readings_from at (lines_of rest))
  pub calls : after_calls x (calls_of (readings trace)) ≡ after_calls y (calls_of (readings_from at (lines_of rest)))
  pub few : end + 96 * length (lines_of rest) ≤ 96 * length (lines_of trace)

pub listed_none : (x : Clocked) (trace before : List ℕ) → Listed x trace before x 1 trace before 0
listed_none x trace before = record { text = []; wrote = wrote_none before 0; lines = refl; calls = refl; few = omega arith }

module _ (x : Clocked) (trace before : List ℕ) (y : Clocked) (at : ℕ) (rest after : List ℕ) (end : ℕ) (so_far : Listed x trace before y at rest after end) where
  -- the line is the first of the rest
  module _ (line : List ℕ) (others : List (List ℕ)) (first : lines_of rest ≡ line ∷ others) where
    pub listed_room : end + 96 ≤ 96 * length (lines_of trace)
    listed_room = omega (arith, so_far.few, ap length first)

    module _ (z : Clocked) (part : List ℕ) (n : ℕ) (wrote : Wrote (part_from end after) 0 (said_of y at (read_line line)) part n)
        (short : n ≤ 96) (to : z ≡ after_line y (read_line line)) (within : 96 * length (lines_of trace) ≤ length before) where
      first_wrote : Wrote before 0 (so_far.text ++ said_of y at (read_line line)) (with_part end after part) (end + n)
      first_wrote = wrote_then (omega arith) so_far.wrote wrote

      first_lines : told_on x (readings trace) ≡ (so_far.text ++ said_of y at (read_line line)) ++ told_on z (readings_from (next_at at) others)
      first_lines =
          so_far.lines ∙ ap (λ ls. so_far.text ++ told_on y (readings_from at ls)) first ∙
          ap (λ t. so_far.text ++ t) (told_first y at (read_line line) (readings_from (next_at at) others)) ∙
          sym (append_assoc so_far.text (said_of y at (read_line line)) (told_on (after_line y (read_line line)) (readings_from (next_at at) others))) ∙
          ap (λ v. (so_far.text ++ said_of y at (read_line line)) ++ told_on v (readings_from (next_at at) others)) (sym to)

      first_calls : after_calls x (calls_of (readings trace)) ≡ after_calls z (calls_of (readings_from (next_at at) others))
      first_calls =
          so_far.calls ∙ ap (λ ls. after_calls y (calls_of (readings_from at ls))) first ∙
          after_first_call y at (read_line line) (readings_from (next_at at) others) ∙
          ap (λ v. after_calls v (calls_of (readings_from (next_at at) others))) (sym to)

      pub listed_more : (left : List ℕ) (next : ℕ) → others ≡ lines_of left → next ≡ next_at at →
          Listed x trace before z next left (with_part end after part) (end + n)
      listed_more left next rest-is next_is =
          record {
            text = so_far.text ++ said_of y at (read_line line);
            wrote = first_wrote;
            lines = first_lines ∙ (λ i. (so_far.text ++ said_of y at (read_line line)) ++ told_on z (readings_from (sym next_is i) (rest-is i)));
            calls = first_calls ∙ (λ i. after_calls z (calls_of (readings_from (sym next_is i) (rest-is i))));
            few = omega (arith, so_far.few, ap length first, ap length rest-is);
          }

  -- nothing is left to be read
  pub listed_all : lines_of rest ≡ [] → Wrote before 0 (told_on x (readings trace)) after end
  listed_all none =
      wrote_as so_far.text (told_on x (readings trace))
      (sym (so_far.lines ∙ ap (λ ls. so_far.text ++ told_on y (readings_from at ls)) none ∙ ap (λ t. so_far.text ++ t) (told_none y) ∙ append-nil so_far.text))
      so_far.wrote

  pub called_all : lines_of rest ≡ [] → y ≡ after_calls x (calls_of (readings trace))
  called_all none = sym (so_far.calls ∙ ap (λ ls. after_calls y (calls_of (readings_from at ls))) none)

-- behind the last octet 10 nothing stands, or one line more
pub lines_none : (rest : List ℕ) → None ≡ split_once 10 rest → true ≡ eqb (length rest) 0 → lines_of rest ≡ []
lines_none rest cut empty = lines_last rest cut ∙ last_none rest (eqb-true (length rest) 0 (sym empty))

pub lines_one : (rest : List ℕ) → None ≡ split_once 10 rest → false ≡ eqb (length rest) 0 → lines_of rest ≡ rest ∷ []
lines_one rest cut some = lines_last rest cut ∙ last_some rest (eqb-false (length rest) 0 (sym some))

-- each line has an octet of its own: the 10 that ends it, or its first one
pub lines_few : (xs : List ℕ) → length (lines_of xs) ≤ length xs
lines_few [] = omega arith
lines_few (c ∷ cs) =
    cond_both (eqb c 10) ([] ∷ split 10 cs) (onto_first c (split 10 cs)) (λ parts. length (ended parts) ≤ suc (length cs))
    (λ is. omega (arith, ap length (first_ended [] (split 10 cs) (split_parts 10 cs)), lines_few cs))
    (λ not. longer c (split 10 cs) (split_parts 10 cs) (length cs) (lines_few cs))
  where
    longer : (c : ℕ) (parts : List (List ℕ)) → SomeParts parts → (n : ℕ) → length (ended parts) ≤ n → length (ended (onto_first c parts)) ≤ suc n
    longer c [] some n few = elim some [ ]
    longer c (part ∷ []) some n few = omega arith
    longer c (part ∷ next ∷ parts) some n few = omega (arith, few)

-- a line for each octet 10, and one more where the trace ends with another octet
unended : List ℕ → ℕ
unended [] = 0
unended (c ∷ []) = cond (eqb c 10) 0 1
unended (c ∷ d ∷ cs) = unended (d ∷ cs)

onto_same : (c d : ℕ) (ds : List ℕ) → length (ended (onto_first c (split 10 (d ∷ ds)))) ≡ length (ended (split 10 (d ∷ ds)))
onto_same c d ds =
    cond_both (eqb d 10) ([] ∷ split 10 ds) (onto_first d (split 10 ds)) (λ parts. length (ended (onto_first c parts)) ≡ length (ended parts))
    (λ is. behind (split 10 ds) (split_parts 10 ds)) (λ not. in_front (split 10 ds))
  where
    behind : (parts : List (List ℕ)) → SomeParts parts → length (ended (onto_first c ([] ∷ parts))) ≡ length (ended ([] ∷ parts))
    behind parts (some_parts part others) = refl

    in_front : (parts : List (List ℕ)) → length (ended (onto_first c (onto_first d parts))) ≡ length (ended (onto_first d parts))
    in_front [] = refl
    in_front (part ∷ []) = refl
    in_front (part ∷ next ∷ parts) = refl

lines_counted : (xs : List ℕ) → length (lines_of xs) ≡ ends_in xs + unended xs
unfolding unended
lines_counted [] = refl
lines_counted (c ∷ []) = first_alone (eqb c 10)
  where
    first_alone : (b : Bool) → length (ended (cond b ([] ∷ [] ∷ []) ((c ∷ []) ∷ []))) ≡ 0 + cond b 1 0 + cond b 0 1
    first_alone true = refl
    first_alone false = refl
lines_counted (c ∷ d ∷ ds) =
    let ends : ends_in (c ∷ d ∷ ds) ≡ cond (eqb c 10) 1 0 + ends_in (d ∷ ds) = sum_by-cons (λ x. cond (eqb x 10) 1 0) c (d ∷ ds) in
    cond_both (eqb c 10) ([] ∷ split 10 (d ∷ ds)) (onto_first c (split 10 (d ∷ ds)))
    (λ parts. length (ended parts) ≡ ends_in (c ∷ d ∷ ds) + unended (d ∷ ds))
    (λ is.
    let one : cond {A = ℕ} (eqb c 10) 1 0 ≡ 1 = ap (λ (b : Bool). cond {A = ℕ} b 1 0) is in
    omega (arith, ap length (first_ended [] (split 10 (d ∷ ds)) (split_parts 10 (d ∷ ds))), lines_counted (d ∷ ds)))
    (λ not.
    let none : cond {A = ℕ} (eqb c 10) 1 0 ≡ 0 = ap (λ (b : Bool). cond {A = ℕ} b 1 0) not in
    omega (arith, onto_same c d ds, lines_counted (d ∷ ds)))

unended_last : (xs : List ℕ) → 0 < length xs → unended xs ≡ cond (eqb (get_or xs (length xs - 1) 0) 10) 0 1
unfolding unended
unended_last [] some = let no : ⊥ = omega arith in absurd no
unended_last (c ∷ []) some = refl
unended_last (c ∷ d ∷ cs) some =
    unended_last (d ∷ cs) (omega arith) ∙
    (let e : suc (suc (length cs) - 1) ≡ suc (suc (length cs)) - 1 = omega arith in ap (λ (n : ℕ). cond {A = ℕ} (eqb (get_or (c ∷ d ∷ cs) n 0) 10) 0 1) e)

pub counted_none : (xs : List ℕ) → true ≡ eqb (length xs) 0 → ends_in xs ≡ length (lines_of xs)
counted_none xs none = go xs (eqb-true (length xs) 0 (sym none))
  where
    go : (xs : List ℕ) → length xs ≡ 0 → ends_in xs ≡ length (lines_of xs)
    go [] e = refl
    go (c ∷ cs) e = let no : ⊥ = omega arith in absurd no

pub counted_ended : (xs : List ℕ) → 0 < length xs → get_or xs (length xs - 1) 0 ≡ 10 → ends_in xs ≡ length (lines_of xs)
counted_ended xs some last =
    let none : unended xs ≡ 0 = unended_last xs some ∙ ap (λ b. cond b 0 1) (eq-eqb (get_or xs (length xs - 1) 0) 10 last) in
    omega (arith, lines_counted xs)

pub counted_unended : (xs : List ℕ) → 0 < length xs → (get_or xs (length xs - 1) 0 ≡ 10 → ⊥) → ends_in xs + 1 ≡ length (lines_of xs)
counted_unended xs some last =
    let one : unended xs ≡ 1 = unended_last xs some ∙ ap (λ b. cond b 0 1) (ne_eqb (get_or xs (length xs - 1) 0) 10 last) in
    omega (arith, lines_counted xs)

pub some_left : (rest : List ℕ) → false ≡ eqb (length rest) 0 → 0 < length rest
some_left [] some = let z : ◌≡◌ {A = ℕ} 0 1 = cc in omega arith
some_left (c ∷ cs) some = omega arith

-- ---- the closing lines

-- nothing is written about a session that is not open
pub wrote_closed : (out : List ℕ) (start : ℕ) (closing : Option Closing) → None ≡ option_map standing_text closing →
    Wrote out start (closing_line closing) out start
wrote_closed out start None closed = wrote_none out start
wrote_closed out start (Some closing) closed = cc

pub closings_none : (m : Meaning) (before : List ℕ) (start : ℕ) → Wrote before start (closings_below 0 m) before start
unfolding closings_below
closings_none m before start = wrote_none before start

pub closings_more : (m : Meaning) (n : ℕ) {before after part : List ℕ} {start end count : ℕ} → start ≤ length before → Wrote before start (closings_below n m) after end →
    Wrote (part_from end after) 0 (closing_line (closing_at m n)) part count →
    Wrote before start (closings_below (n + 1) m) (with_part end after part) (end + count)
unfolding closings_below
closings_more m n within so_far more = rw add-one (wrote_then within so_far more)
