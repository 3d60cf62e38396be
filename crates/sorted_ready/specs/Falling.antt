-- Lists of entries of which the least stands last.
use Rattle.std.specs.Prelude.{ℕ, ◌+◌, ◌<◌, List, length}
use Rattle.ready.specs.Order.{Entry, AtMost}
use Rattle.ready.specs.Tags.{Tags}
use Rattle.ready.specs.Entries.{entry_at, Lists}

-- each entry is at most the one before it
abbrev pub Falling : List Entry → Type 0
Falling es = (k : ℕ) → k + 1 < length es → AtMost (entry_at es (k + 1)) (entry_at es k)

-- what a sorted line keeps of its tags xs and of its entries es
pub record IsSortedLine (xs : Tags) (es : List Entry) : Type 0 where
  pub lists : Lists es xs
  pub falling : Falling es
