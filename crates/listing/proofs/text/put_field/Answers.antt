use Rattle.std.proofs.Common.{decimal, ap, arith}
use Rattle.listing.proofs.Writing.{wrote_both, wrote_as}
use Rattle.listing.proofs.text.put_field.Goals as goal

pub returns-clause-wrote : goal.returns-clause-wrote
returns-clause-wrote c =
    wrote_both (omega arith) c.put-middle.ensures
    (wrote_as (decimal c.from.result) (decimal c.args.number) (ap decimal c.from.ensures) c.put_decimal.ensures)
