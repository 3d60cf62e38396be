use Rattle.std.proofs.Common.{◌++◌, codes, decimal, ap, arith}
use Rattle.trace.specs.Texts.{session_of}
use Rattle.listing.proofs.Writing.{wrote_both, wrote_as}
use Rattle.listing.proofs.lines.put_entered.Goals as goal

pub returns-clause-wrote : goal.returns-clause-wrote
returns-clause-wrote c =
    wrote_both (omega arith) (wrote_both (omega arith) (wrote_both (omega arith) c.put_field-place.ensures.wrote (wrote_as (codes " said=entered session=" ++ decimal c.session_of.result) (codes " said=entered session=" ++ decimal (session_of c.args.call)) (ap (λ n. codes " said=entered session=" ++ decimal n) c.session_of.ensures) c.put_field-place-2.ensures.wrote)) c.put_mark-place.ensures.wrote) c.put.ensures
