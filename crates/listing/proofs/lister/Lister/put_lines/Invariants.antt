use Rattle.std.proofs.Common.{length}
use Rattle.self_clocked.specs.States.{state}
use Rattle.listing.proofs.Rows.{Listed}
use Rattle.listing.proofs.lister.Lister.put_lines.Given as goal

abbrev pub invariant-loop-line : goal.invariant-loop-line
invariant-loop-line l = Listed (state l.initial.self) l.trace l.initial.out (state l.self) l.at l.rest l.out l.end

abbrev pub decreases-loop-line : goal.decreases-loop-line
decreases-loop-line l = length l.rest
