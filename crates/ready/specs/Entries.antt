-- Lists of entries.
use Rattle.std.specs.Prelude.{◌≡◌, ℕ, ◌<◌, Bool, cond, ◌&&◌, List, length, Some, None, count_by, Option, ◌==◌, slice_index_or}
use Rattle.ready.specs.Order.{Entry, Before}
use Rattle.ready.specs.Tags.{Tags, tag_of, entry_count}

-- the entry at place k
abbrev pub entry_at : List Entry → ℕ → Entry
entry_at es k = slice_index_or es k (0, 0)

abbrev pub is_entry : ℕ → ℕ → Entry → Bool
is_entry t s e = e.0 == t && e.1 == s

-- how often the entry of tag t and session s stands in es
abbrev pub occurrences : ℕ → ℕ → List Entry → ℕ
occurrences t s es = count_by (is_entry t s) es

-- 1 if the tag is t, else 0
abbrev pub tag_is : Option ℕ → ℕ → ℕ
tag_is None t = 0
tag_is (Some u) t = cond (u == t) 1 0

-- es has every entry of xs once, and no other
abbrev pub EachOnce : List Entry → Tags → Type 0
EachOnce es xs = (t s : ℕ) → occurrences t s es ≡ tag_is (tag_of xs s) t

-- the same entries stand in both, each as often
abbrev pub SameEntries : List Entry → List Entry → Type 0
SameEntries es fs = (t s : ℕ) → occurrences t s fs ≡ occurrences t s es

-- es lists the entries of xs, each once, in any order
pub record Lists (es : List Entry) (xs : Tags) : Type 0 where
  pub once : EachOnce es xs
  pub count : length es ≡ entry_count xs

-- of any two the one that stands first comes before the other
abbrev pub Rising : List Entry → Type 0
Rising es = (i j : ℕ) → i < j → j < length es → Before (entry_at es i) (entry_at es j)
