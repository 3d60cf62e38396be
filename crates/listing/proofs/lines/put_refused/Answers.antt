use Rattle.std.proofs.Common.{◌++◌, codes, decimal, ap, arith}
use Rattle.calls.specs.Refusals.{refusal_number}
use Rattle.listing.proofs.Writing.{wrote_both, wrote_as}
use Rattle.listing.proofs.lines.put_refused.Goals as goal

pub returns-clause-wrote : goal.returns-clause-wrote
returns-clause-wrote c =
    wrote_both (omega arith) (wrote_both (omega arith) c.put_field-place.ensures.wrote (wrote_as (codes " said=refused number=" ++ decimal c.number.result) (codes " said=refused number=" ++ decimal (refusal_number c.args.reason)) (ap (λ n. codes " said=refused number=" ++ decimal n) c.number.ensures) c.put_field-place-2.ensures.wrote)) c.put.ensures
