use Rattle.std.proofs.Common.{length}
use Rattle.fairline.proofs.print_chunk.Given as goal

abbrev pub decreases-loop-reading : goal.decreases-loop-reading
decreases-loop-reading g l = length l.rest
