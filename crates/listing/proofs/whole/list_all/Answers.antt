use Rattle.self_clocked.specs.States.{state}
use Rattle.listing.proofs.Wholes.{listing_wrote}
use Rattle.listing.proofs.whole.list_all.Goals as goal

pub returns-clause-wrote : goal.returns-clause-wrote
returns-clause-wrote c =
    listing_wrote c.args.trace.now (state c.new-lister.result) (state c.put_lines-end.new.self) c.new-lister.ensures
    c.put_lines-end.ensures.after c.put_lines-end.ensures.wrote c.put_closings.ensures.wrote
