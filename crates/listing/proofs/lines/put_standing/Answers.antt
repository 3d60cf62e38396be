use Rattle.std.proofs.Common.{arith}
use Rattle.listing.proofs.Writing.{wrote_both}
use Rattle.listing.proofs.lines.put_standing.Goals as goal

pub returns-clause-wrote : goal.returns-clause-wrote
returns-clause-wrote c =
    wrote_both (omega arith) (wrote_both (omega arith) (wrote_both (omega arith) (wrote_both (omega arith) c.put_field-place.ensures.wrote c.put_field-place-2.ensures.wrote) c.put_wide_field-place.ensures.wrote) c.put_waiting-place.ensures.wrote) c.put.ensures
