use Rattle.std.proofs.Common.{arith}
use Rattle.listing.proofs.Writing.{decimal_over, decimal_at_most}
use Rattle.listing.proofs.text.decimal_len.Goals as goal

pub overflow_add-len : goal.overflow_add-len
overflow_add-len c = record { fits = omega (arith, c.loop-rest.invariant.0, decimal_at_most c.args.number c.ranges.number.fits) }

pub loop-rest-preserved : goal.loop-rest-preserved
loop-rest-preserved c =
    (omega (arith, c.loop-rest.invariant.0, decimal_over 4 c.loop-rest.rest c.loop-rest-test.true (omega arith)), omega arith)

pub overflow_add-result : goal.overflow_add-result
overflow_add-result c = record { fits = omega (arith, c.loop-rest.invariant.0, c.short_len.ensures, decimal_at_most c.args.number c.ranges.number.fits) }
