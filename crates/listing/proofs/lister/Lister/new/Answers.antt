use Rattle.self_clocked.specs.Calls.{fresh_sound}
use Rattle.self_clocked.specs.States.{state}
use Rattle.listing.specs.Resting.{heap_tags}
use Rattle.listing.proofs.lister.Lister.new.Goals as goal

pub invariant_of-result : goal.invariant_of-result
invariant_of-result c = fresh_sound (heap_tags c.new-2.result) (state c.new-2.result) c.new-2.ensures
