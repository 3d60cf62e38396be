-- The ready line of the line that a lister has.
use Rattle.ready.specs.Tags.{Tags}
use Rattle.ready.specs.declared.heap.Heap.{Heap}
use Rattle.self_clocked.specs.declared.line.SelfClocked.{SelfClocked}

-- what the heap of the line means
abbrev pub heap_tags : SelfClocked Heap → Tags
heap_tags x = x.ready.tags
