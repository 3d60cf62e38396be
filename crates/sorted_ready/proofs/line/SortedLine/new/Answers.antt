use Rattle.sorted_ready.proofs.Inserts.{no_line}
use Rattle.sorted_ready.proofs.line.SortedLine.new.Goals as goal

pub invariant_of-result-2 : goal.invariant_of-result-2
invariant_of-result-2 c = no_line _ c.new.ensures
