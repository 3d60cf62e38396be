use Rattle.std.proofs.Common.{◌-◌, ◌≤◌, length}
use Rattle.std.specs.List.Sorted.{IsPermutation}
use Rattle.ready.specs.Entries.{entry_at}
use Rattle.ready.specs.Places.{ExceptAbove}
use Rattle.ready.proofs.moves.move_up.Given as goal

abbrev pub invariant-loop-at : goal.invariant-loop-at
invariant-loop-at l = (l.at ≤ length l.heap - 1) × IsPermutation l.initial.heap l.heap × ExceptAbove (entry_at l.heap) (length l.heap) l.at

abbrev pub decreases-loop-at : goal.decreases-loop-at
decreases-loop-at l = l.at
