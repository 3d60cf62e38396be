use Rattle.std.proofs.Common.{◌≡◌, ◌≤◌, take}
use Rattle.listing.specs.Listings.{ends_in}
use Rattle.listing.proofs.whole.count_ends.Given as goal

abbrev pub invariant-loop-octet : goal.invariant-loop-octet
invariant-loop-octet l = (l.count ≡ ends_in (take l.octet-index l.trace)) × (l.count ≤ l.octet-index)
