-- What the least entry of a ready line is, whichever way it is found.
use Rattle.std.specs.Prelude.{◌≡◌, ℕ, Some, None, Option, ◌≢◌}
use Rattle.ready.specs.Order.{Entry, AtMost}
use Rattle.ready.specs.Tags.{Tags, tag_of}

-- r is an entry of xs that is at most every entry of xs, or xs has no entry and r is none
abbrev pub IsLeast : Tags → Option Entry → Type 0
IsLeast xs None = (s t : ℕ) → tag_of xs s ≢ Some t
IsLeast xs (Some e) = (tag_of xs e.1 ≡ Some e.0) × ((s t : ℕ) → tag_of xs s ≡ Some t → AtMost e (t, s))
