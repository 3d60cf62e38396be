-- Wherever a trace is cut into chunks, the same lines are read.
use Rattle.std.proofs.Common.{◌≡◌, ℕ, zero, suc, Bool, true, false, cond, eqb, List, [], ◌∷◌, ◌++◌, take, sym, refl, ap, ◌∙◌, subst}
use Rattle.std.proofs.lemmas.List.{append_assoc, append-nil}
use Rattle.std.proofs.lemmas.Bool.{cond_both}
use Rattle.std.specs.List.{flat_map}
use Rattle.trace.specs.declared.reading.Reading.{Reading}
use Rattle.trace.specs.Cuts.{split, onto_first}
use Rattle.trace.specs.Lines.{read_line}
use Rattle.trace.specs.Streams.{Stream, begin, kept, next_at, line_ended, after_line, after_part, last_reading, held_reading, Reads, no_more, one_more, ReadsAll, at_end, chunk_first, listed, CutsDoNotMatter, readings_from, ended, last_line}
use Rattle.trace.proofs.Parts.{split_more, split_last}
use Rattle.trace.proofs.Streaming.{kept_reads}

-- ---- a chunk by its parts between the octets 10
parts_read : Stream → List (List ℕ) → List Reading
parts_read x [] = []
parts_read x (part ∷ []) = []
parts_read x (line ∷ next ∷ parts) = line_ended x line ∷ parts_read (after_line x) (next ∷ parts)

parts_left : Stream → List (List ℕ) → Stream
parts_left x [] = x
parts_left x (part ∷ []) = after_part x part
parts_left x (line ∷ next ∷ parts) = parts_left (after_line x) (next ∷ parts)

record Says (x : Stream) (parts : List (List ℕ)) (rs : List Reading) (y : Stream) : Type 0 where
  read : rs ≡ parts_read x parts
  left : y ≡ parts_left x parts

-- a list of parts is never empty
pub data SomeParts : List (List ℕ) → Type 0 where
  some_parts : (part : List ℕ) (parts : List (List ℕ)) → SomeParts (part ∷ parts)

onto_parts : (c : ℕ) (parts : List (List ℕ)) → SomeParts (onto_first c parts)
onto_parts c [] = some_parts (c ∷ []) []
onto_parts c (part ∷ parts) = some_parts (c ∷ part) parts

pub split_parts : (s : ℕ) (xs : List ℕ) → SomeParts (split s xs)
split_parts s [] = some_parts [] []
split_parts s (c ∷ cs) =
    cond_both (eqb c s) ([] ∷ split s cs) (onto_first c (split s cs)) SomeParts (λ e. some_parts [] (split s cs)) (λ e. onto_parts c (split s cs))

says_line : {x : Stream} {line : List ℕ} {parts : List (List ℕ)} {rs : List Reading} {y : Stream} → SomeParts parts →
    Says (after_line x) parts rs y → Says x (line ∷ parts) (line_ended x line ∷ rs) y
unfolding parts_read parts_left
says_line {x} {line} (some_parts part parts) s = record { read = ap (λ r. line_ended x line ∷ r) s.read; left = s.left }

reads_says : {x : Stream} {chunk : List ℕ} {rs : List Reading} {y : Stream} → Reads x chunk rs y → Says x (split 10 chunk) rs y
unfolding parts_read parts_left
reads_says {x} {chunk} (no_more e) =
    let p : split 10 chunk ≡ chunk ∷ [] = split_last 10 chunk (sym e) in
    record { read = sym (ap (parts_read x) p); left = sym (ap (parts_left x) p) }
reads_says {x} {chunk} (one_more part rest {rs} {y} e more) =
    let p : split 10 chunk ≡ part ∷ split 10 rest = split_more 10 chunk part rest (sym e) in
    subst (λ ps. Says x ps (line_ended x part ∷ rs) y) (sym p) (says_line (split_parts 10 rest) (reads_says more))

-- ---- two texts, one behind the other
glue : List (List ℕ) → List (List ℕ) → List (List ℕ)
glue [] qs = qs
glue (p ∷ []) [] = p ∷ []
glue (p ∷ []) (q ∷ qs) = (p ++ q) ∷ qs
glue (p ∷ r ∷ ps) qs = p ∷ glue (r ∷ ps) qs

glue_onto : (c : ℕ) (ps qs : List (List ℕ)) → SomeParts ps → SomeParts qs → onto_first c (glue ps qs) ≡ glue (onto_first c ps) qs
unfolding glue
glue_onto c (p ∷ []) (q ∷ qs) sp sq = refl
glue_onto c (p ∷ r ∷ ps) qs sp sq = refl
glue_onto c (p ∷ []) [] sp sq = refl
glue_onto c [] qs sp sq = elim sp [ ]

glue_empty : (ps qs : List (List ℕ)) → SomeParts ps → [] ∷ glue ps qs ≡ glue ([] ∷ ps) qs
unfolding glue
glue_empty (p ∷ ps) qs sp = refl
glue_empty [] qs sp = elim sp [ ]

split_glue : (s : ℕ) (a b : List ℕ) → split s (a ++ b) ≡ glue (split s a) (split s b)
unfolding glue
split_glue s [] b = go (split s b) (split_parts s b)
  where
    go : (qs : List (List ℕ)) → SomeParts qs → qs ≡ glue ([] ∷ []) qs
    go (q ∷ qs) sq = refl
    go [] sq = elim sq [ ]
split_glue s (c ∷ a) b = go (eqb c s) (split_glue s a b)
  where
    go : (t : Bool) → split s (a ++ b) ≡ glue (split s a) (split s b) →
        cond t ([] ∷ split s (a ++ b)) (onto_first c (split s (a ++ b))) ≡ glue (cond t ([] ∷ split s a) (onto_first c (split s a))) (split s b)
    go true e = ap (λ ps. [] ∷ ps) e ∙ glue_empty (split s a) (split s b) (split_parts s a)
    go false e = ap (onto_first c) e ∙ glue_onto c (split s a) (split s b) (split_parts s a) (split_parts s b)

take_again : (n : ℕ) (xs ys : List ℕ) → take n (take n xs ++ ys) ≡ take n (xs ++ ys)
take_again zero xs ys = refl
take_again (suc n) [] ys = refl
take_again (suc n) (x ∷ xs) ys = ap (λ r. x ∷ r) (take_again n xs ys)

kept_more : (h p q : List ℕ) → kept (kept (h ++ p) ++ q) ≡ kept (h ++ (p ++ q))
kept_more h p q = take_again 81 (h ++ p) q ∙ ap kept (append_assoc h p q)

-- what is left of a line may be held first
held_first : (x : Stream) (p q : List ℕ) (qs : List (List ℕ)) →
    (parts_read (after_part x p) (q ∷ qs) ≡ parts_read x ((p ++ q) ∷ qs)) × (parts_left (after_part x p) (q ∷ qs) ≡ parts_left x ((p ++ q) ∷ qs))
unfolding parts_read parts_left
held_first x p q [] = (refl, ap (λ h. record { at = x.at; held = h }) (kept_more x.held p q))
held_first x p q (r ∷ qs) =
    (ap (λ h. record { at = x.at; line = read_line h } ∷ parts_read (after_line x) (r ∷ qs)) (kept_more x.held p q), refl)

record Behind (x : Stream) (ps qs : List (List ℕ)) : Type 0 where
  read : parts_read x ps ++ parts_read (parts_left x ps) qs ≡ parts_read x (glue ps qs)
  left : parts_left (parts_left x ps) qs ≡ parts_left x (glue ps qs)

glue_some : (r : List ℕ) (ps qs : List (List ℕ)) → SomeParts qs → SomeParts (glue (r ∷ ps) qs)
unfolding glue
glue_some r [] (q ∷ qs) sq = some_parts (r ++ q) qs
glue_some r [] [] sq = elim sq [ ]
glue_some r (p ∷ ps) qs sq = some_parts r (glue (p ∷ ps) qs)

read_line_first : (x : Stream) (p : List ℕ) (gs : List (List ℕ)) (rs ts : List Reading) → SomeParts gs →
    rs ++ ts ≡ parts_read (after_line x) gs → (line_ended x p ∷ rs) ++ ts ≡ parts_read x (p ∷ gs)
unfolding parts_read
read_line_first x p (g ∷ gs) rs ts sg e = ap (λ t. line_ended x p ∷ t) e
read_line_first x p [] rs ts sg e = elim sg [ ]

left_line_first : (x : Stream) (p : List ℕ) (gs : List (List ℕ)) → SomeParts gs → parts_left (after_line x) gs ≡ parts_left x (p ∷ gs)
unfolding parts_left
left_line_first x p (g ∷ gs) sg = refl
left_line_first x p [] sg = elim sg [ ]

behind : (x : Stream) (ps qs : List (List ℕ)) → SomeParts ps → SomeParts qs → Behind x ps qs
unfolding parts_read parts_left glue
behind x [] qs sp sq = elim sp [ ]
behind x (p ∷ []) [] sp sq = elim sq [ ]
behind x (p ∷ []) (q ∷ qs) sp sq = let h = held_first x p q qs in record { read = h.0; left = h.1 }
behind x (p ∷ r ∷ ps) qs sp sq =
    let b = behind (after_line x) (r ∷ ps) qs (some_parts r ps) sq in
    let g = glue_some r ps qs sq in
    record {
      read = read_line_first x p (glue (r ∷ ps) qs) (parts_read (after_line x) (r ∷ ps)) (parts_read (parts_left (after_line x) (r ∷ ps)) qs) g b.read;
      left = b.left ∙ left_line_first x p (glue (r ∷ ps) qs) g;
    }

-- ---- chunk after chunk
all_read : List ℕ → List Reading
all_read text = parts_read begin (split 10 text) ++ listed (last_reading (parts_left begin (split 10 text)))

from_chunks : (a : List ℕ) (chunks : List (List ℕ)) {x : Stream} {rs : List Reading} → x ≡ parts_left begin (split 10 a) → ReadsAll x chunks rs →
    parts_read begin (split 10 a) ++ rs ≡ all_read (a ++ flat_map (λ c. c) chunks)
unfolding all_read
from_chunks a [] e at_end =
    ap (λ y. parts_read begin (split 10 a) ++ listed (last_reading y)) e
    ∙ ap (λ t. parts_read begin (split 10 t) ++ listed (last_reading (parts_left begin (split 10 t)))) (sym (append-nil a))
from_chunks a (chunk ∷ chunks) {x} e (chunk_first {rs = rs} {ts = ts} {y = y} reads more) =
    let s = reads_says reads in
    let b = behind begin (split 10 a) (split 10 chunk) (split_parts 10 a) (split_parts 10 chunk) in
    let read : rs ≡ parts_read (parts_left begin (split 10 a)) (split 10 chunk) = s.read ∙ ap (λ z. parts_read z (split 10 chunk)) e in
    let left : y ≡ parts_left begin (split 10 (a ++ chunk)) =
    s.left ∙ ap (λ z. parts_left z (split 10 chunk)) e ∙ b.left ∙ ap (parts_left begin) (sym (split_glue 10 a chunk)) in
    sym (append_assoc (parts_read begin (split 10 a)) rs ts)
    ∙ ap (λ r. r ++ ts) (ap (λ r. parts_read begin (split 10 a) ++ r) read ∙ b.read ∙ ap (parts_read begin) (sym (split_glue 10 a chunk)))
    ∙ from_chunks (a ++ chunk) chunks left more
    ∙ ap all_read (append_assoc a chunk (flat_map (λ c. c) chunks))

-- ---- the whole, line by line
held_last : (at : ℕ) (part : List ℕ) → listed (held_reading at (kept part)) ≡ readings_from at (last_line part)
held_last at [] = refl
held_last at (c ∷ cs) = ap (λ r. record { at = at; line = r } ∷ []) (kept_reads (c ∷ cs))

by_lines : (at : ℕ) (parts : List (List ℕ)) → SomeParts parts →
    parts_read (record { at = at; held = [] }) parts ++ listed (last_reading (parts_left (record { at = at; held = [] }) parts)) ≡ readings_from at (ended parts)
unfolding parts_read parts_left
by_lines at [] sp = elim sp [ ]
by_lines at (part ∷ []) sp = held_last at part
by_lines at (line ∷ next ∷ parts) sp =
    λ i. record { at = at; line = kept_reads line i } ∷ by_lines (next_at at) (next ∷ parts) (some_parts next parts) i

pub cuts_do_not_matter : CutsDoNotMatter
unfolding all_read parts_read parts_left
cuts_do_not_matter chunks rs reads =
    from_chunks [] chunks refl (subst (λ x. ReadsAll x chunks rs) (λ i. begin) reads)
    ∙ by_lines 1 (split 10 (flat_map (λ c. c) chunks)) (split_parts 10 (flat_map (λ c. c) chunks))
