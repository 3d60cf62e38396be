-- A trace as lines, and a trace that comes in chunks.
use Rattle.std.specs.Prelude.{◌≡◌, ℕ, ◌+◌, min, List, [], ◌∷◌, ◌++◌, take, Some, None, Option}
use Rattle.std.specs.List.{flat_map}
use Rattle.trace.specs.declared.reading.Reading.{Reading}
use Rattle.trace.specs.Cuts.{split_once, split}
use Rattle.trace.specs.Lines.{read_line}

-- what stands between the octets 10 are the lines; behind the last of them a line stands only if it is not empty
abbrev pub last_line : List ℕ → List (List ℕ)
last_line [] = []
last_line (c ∷ cs) = (c ∷ cs) ∷ []

abbrev pub ended : List (List ℕ) → List (List ℕ)
ended [] = []
ended (part ∷ []) = last_line part
ended (line ∷ next ∷ parts) = line ∷ ended (next ∷ parts)

abbrev pub lines_of : List ℕ → List (List ℕ)
lines_of trace = ended (split 10 trace)

-- lines are counted from 1; the count stays at 4294967295
abbrev pub next_at : ℕ → ℕ
next_at at = min (at + 1) 4294967295

abbrev pub readings_from : ℕ → List (List ℕ) → List Reading
readings_from at [] = []
readings_from at (line ∷ lines) = record { at = at; line = read_line line } ∷ readings_from (next_at at) lines

abbrev pub readings : List ℕ → List Reading
readings trace = readings_from 1 (lines_of trace)

-- ---- chunk by chunk
pub record Stream : Type 0 where
  -- the number of the line that is being read
  pub at : ℕ
  -- its first octets, at most 81: a line of 81 is too long, whatever follows
  pub held : List ℕ

abbrev pub begin : Stream
begin = record { at = 1; held = [] }

abbrev pub kept : List ℕ → List ℕ
kept text = take 81 text

abbrev pub line_ended : Stream → List ℕ → Reading
line_ended x part = record { at = x.at; line = read_line (kept (x.held ++ part)) }

abbrev pub after_line : Stream → Stream
after_line x = record { at = next_at x.at; held = [] }

abbrev pub after_part : Stream → List ℕ → Stream
after_part x part = record { at = x.at; held = kept (x.held ++ part) }

-- what the next step over a chunk gives: the line that ends in it, with what is left of the chunk
abbrev pub next_reading : Stream → Option (List ℕ × List ℕ) → Option (Reading × List ℕ)
next_reading x None = None
next_reading x (Some p) = Some (line_ended x p.0, p.1)

abbrev pub after_next : Stream → List ℕ → Option (List ℕ × List ℕ) → Stream
after_next x chunk None = after_part x chunk
after_next x chunk (Some p) = after_line x

-- a line that no octet 10 ends
abbrev pub held_reading : ℕ → List ℕ → Option Reading
held_reading at [] = None
held_reading at (c ∷ cs) = Some (record { at = at; line = read_line (c ∷ cs) })

abbrev pub last_reading : Stream → Option Reading
last_reading x = held_reading x.at x.held

-- the steps over one chunk until no line ends in what is left of it: what they give, and where they leave
pub data Reads : Stream → List ℕ → List Reading → Stream → Type 0 where
  no_more : {x : Stream} {chunk : List ℕ} → split_once 10 chunk ≡ None → Reads x chunk [] (after_part x chunk)
  one_more : {x : Stream} {chunk : List ℕ} (part rest : List ℕ) {rs : List Reading} {y : Stream} → split_once 10 chunk ≡ Some (part, rest) →
      Reads (after_line x) rest rs y → Reads x chunk (line_ended x part ∷ rs) y

abbrev pub listed : Option Reading → List Reading
listed None = []
listed (Some r) = r ∷ []

-- the same over one chunk after another, and then the last line
pub data ReadsAll : Stream → List (List ℕ) → List Reading → Type 0 where
  at_end : {x : Stream} → ReadsAll x [] (listed (last_reading x))
  chunk_first : {x : Stream} {chunk : List ℕ} {chunks : List (List ℕ)} {rs ts : List Reading} {y : Stream} → Reads x chunk rs y → ReadsAll y chunks ts →
      ReadsAll x (chunk ∷ chunks) (rs ++ ts)

-- wherever a trace is cut into chunks, its lines are read, each once and in order
abbrev pub CutsDoNotMatter : Type 0
CutsDoNotMatter = (chunks : List (List ℕ)) (rs : List Reading) → ReadsAll begin chunks rs → rs ≡ readings (flat_map (λ c. c) chunks)
