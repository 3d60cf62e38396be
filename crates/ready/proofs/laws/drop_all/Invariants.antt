use Rattle.ready.specs.Tags.{entry_count}
use Rattle.ready.proofs.Drops.{Taken}
use Rattle.ready.proofs.laws.drop_all.Given as goal

abbrev pub invariant-loop-entry : goal.invariant-loop-entry
invariant-loop-entry g l = let tags = g.R.ReadyLine.tags in Taken (tags l.initial.line) (tags l.line) l.entries.items

abbrev pub decreases-loop-entry : goal.decreases-loop-entry
decreases-loop-entry g l = entry_count (g.R.ReadyLine.tags l.line)
