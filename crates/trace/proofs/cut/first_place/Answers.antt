use Rattle.std.proofs.Common.{arith}
use Rattle.trace.proofs.Lanes.{none_in, first_within, none_ahead, first_here}
use Rattle.trace.proofs.cut.first_place.Goals as goal

pub returns-then-found-ne0 : goal.returns-then-found-ne0
returns-then-found-ne0 c =
    let s = c.args.separator in
    let xs = c.args.octets.now in
    let p = c.loop-place.place in
    let mask = c.matches-found.result in
    let is = c.matches-found.ensures in
    record {
      within = omega (arith, first_within s xs p (omega arith) c.loop-place.invariant.1 mask is (omega arith));
      before = none_ahead s xs p (omega arith) c.loop-place.invariant.1 mask is (omega arith);
      found = λ less. first_here s xs p (omega arith) c.loop-place.invariant.1 mask is (omega arith);
    }

pub loop-place-preserved : goal.loop-place-preserved
loop-place-preserved c = (
  omega arith,
  none_in c.args.separator c.args.octets.now c.loop-place.place (omega arith) c.loop-place.invariant.1 c.matches-found.result
      c.matches-found.ensures (omega arith),
)
