use Rattle.std.proofs.Common.{◌≡◌, ◌≤◌, take}
use Rattle.ready.specs.Tags.{entry_count}
use Rattle.ready.proofs.scan.entry_count.Given as goal

abbrev pub invariant-loop-tag : goal.invariant-loop-tag
invariant-loop-tag l = (l.count ≤ l.tag-index) × (l.count ≡ entry_count (take l.tag-index l.tags))
