use Rattle.std.proofs.Common.{sym, arith}
use Rattle.trace.proofs.Parts.{cut_at, rest_shorter, split_once_none}
use Rattle.trace.proofs.cut.split_once.Goals as goal

pub returns-then-place-octets : goal.returns-then-place-octets
returns-then-place-octets c =
    let xs = c.args.octets.now in
    record {
      parts = sym (split_once_none c.args.separator xs (λ k within. c.first_place-place.ensures.before k (omega (arith, c.if-place-octets.true))));
      shorter = tt;
    }

pub returns : goal.returns
returns c =
    let xs = c.args.octets.now in
    let place = c.first_place-place.result in
    let found = c.first_place-place.ensures in
    record {
      parts = cut_at c.args.separator xs place found.before c.if-place-octets.false (found.found c.if-place-octets.false);
      shorter = rest_shorter xs place c.if-place-octets.false;
    }
