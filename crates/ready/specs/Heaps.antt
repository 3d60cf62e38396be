-- The entries of a binary heap: their order, and the tags that they stand for.
use Rattle.std.specs.Prelude.{◌≡◌, ℕ, ◌+◌, ◌-◌, ◌*◌, ◌/◌, ◌<◌, ◌≤◌, Bool, cond, List, [], ◌∷◌, map, length, is_some, Some, None, Option, ◌==◌}
use Rattle.std.specs.List.{range_with_len}
use Rattle.std.proofs.lemmas.List.FromFn.{length-map-range_with_len}
use Rattle.ready.specs.Order.{Entry, AtMost}
use Rattle.ready.specs.Tags.{Tags}
use Rattle.ready.specs.TagTable.{TagTable}
use Rattle.ready.specs.Entries.{entry_at, Lists}

-- place k is a child of place p
abbrev pub Child : ℕ → ℕ → Type 0
Child p k = (p * 2 + 1 ≤ k) × (k ≤ p * 2 + 2)

-- from place `low` on and below place `high`, the parent of each entry is at most the entry
abbrev pub HeapOrdered : ℕ → ℕ → List Entry → Type 0
HeapOrdered low high es = (k : ℕ) → low ≤ k → k < high → AtMost (entry_at es ((k - 1) / 2)) (entry_at es k)

-- the tag of the first entry of session s
abbrev pub tag_among : ℕ → List Entry → Option ℕ
tag_among s [] = None
tag_among s (e ∷ es) = cond (e.1 == s) (Some e.0) (tag_among s es)

-- the tags of the 64 sessions
unfoldable pub tags_of : List Entry → Tags
tags_of es = map (λ s. tag_among s es) (range_with_len 0 64)

pub length_tags : (es : List Entry) → length (tags_of es) ≡ 64
unfolding tags_of
length_tags es = length-map-range_with_len (λ s. tag_among s es) 0 64

-- the same, as a table
abbrev pub table_of : List Entry → TagTable
table_of es = record { tags = tags_of es; sessions = length_tags es }

-- what a heap keeps of its entries es, and of ps, whether each session has one
pub record IsReadyHeap (es : List Entry) (ps : List Bool) : Type 0 where
  pub ordered : HeapOrdered 1 (length es) es
  pub lists : Lists es (tags_of es)
  pub marked : ps ≡ map is_some (tags_of es)
