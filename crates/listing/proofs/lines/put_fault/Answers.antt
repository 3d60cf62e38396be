use Rattle.std.proofs.Common.{◌++◌, codes, decimal, ap, arith}
use Rattle.trace.specs.Faults.{fault_number}
use Rattle.listing.proofs.Writing.{wrote_both, wrote_as}
use Rattle.listing.proofs.lines.put_fault.Goals as goal

pub returns-clause-wrote : goal.returns-clause-wrote
returns-clause-wrote c =
    wrote_both (omega arith) (wrote_both (omega arith) (wrote_both (omega arith) c.put_field-place.ensures.wrote (wrote_as (codes " said=fault number=" ++ decimal c.number.result) (codes " said=fault number=" ++ decimal (fault_number c.args.fault)) (ap (λ n. codes " said=fault number=" ++ decimal n) c.number.ensures) c.put_field-place-2.ensures.wrote)) c.put_place-place.ensures.wrote) c.put.ensures
