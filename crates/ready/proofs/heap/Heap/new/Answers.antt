use Rattle.std.proofs.Common.{rules}
use Rattle.ready.proofs.Steps.{no_heap}
use Rattle.ready.proofs.heap.Heap.new.Goals as goal

pub invariant_of-result : goal.invariant_of-result
invariant_of-result c = search (rules, no_heap)
