use Rattle.std.proofs.Common.{arith}
use Rattle.listing.proofs.Writing.{wrote_both}
use Rattle.listing.proofs.lines.put_finished.Goals as goal

pub returns-clause-wrote : goal.returns-clause-wrote
returns-clause-wrote c =
    wrote_both (omega arith) (wrote_both (omega arith) (wrote_both (omega arith) (wrote_both (omega arith) c.put_field-place.ensures.wrote c.put_field-place-2.ensures.wrote) c.put_ticket-place.ensures.wrote) c.put_field-place-3.ensures.wrote) c.put.ensures
