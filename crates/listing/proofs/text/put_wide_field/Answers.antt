use Rattle.std.proofs.Common.{arith}
use Rattle.listing.proofs.Writing.{wrote_both}
use Rattle.listing.proofs.text.put_wide_field.Goals as goal

pub returns-clause-wrote : goal.returns-clause-wrote
returns-clause-wrote c = wrote_both (omega arith) c.put-middle.ensures c.put_decimal.ensures
