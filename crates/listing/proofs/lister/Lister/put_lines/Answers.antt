use Rattle.std.proofs.Common.{◌+◌, [], refl, arith}
use Rattle.self_clocked.specs.States.{state}
use Rattle.trace.specs.Streams.{lines_of, next_at}
use Rattle.listing.proofs.Writing.{with_part}
use Rattle.listing.proofs.Rows.{Listed, lines_more, lines_none, lines_one, listed_none, listed_room, listed_more, listed_all, called_all}
use Rattle.listing.proofs.lister.Lister.put_lines.Goals as goal

pub loop-line-init : goal.loop-line-init
loop-line-init c = listed_none (state c.args.self.now) c.args.trace.now c.args.out.now

pub put_line-end-requires : goal.put_line-end-requires
put_line-end-requires c =
    let line = c.in-Some.line.now in
    let left = c.in-Some.left.now in
    omega (
      arith,
      listed_room (state c.args.self.now) c.args.trace.now c.args.out.now (state c.loop-line.self) c.loop-line.at
          c.loop-line.rest.now c.loop-line.out c.loop-line.end c.loop-line.invariant line (lines_of left)
          (lines_more c.loop-line.rest.now line left c.in-Some.ensures.parts),
    )

pub loop-line-preserved : goal.loop-line-preserved
loop-line-preserved c =
    let line = c.in-Some.line.now in
    let left = c.in-Some.left.now in
    listed_more (state c.args.self.now) c.args.trace.now c.args.out.now (state c.loop-line.self) c.loop-line.at
    c.loop-line.rest.now c.loop-line.out c.loop-line.end c.loop-line.invariant line (lines_of left)
    (lines_more c.loop-line.rest.now line left c.in-Some.ensures.parts) (state c.put_line-end.new.self) c.put_line-end.new.out
    c.put_line-end.result c.put_line-end.ensures.wrote c.put_line-end.ensures.short c.put_line-end.ensures.after c.requires left
    c.next_at-at.result refl c.next_at-at.ensures

pub returns-then-is_empty : goal.returns-then-is_empty
returns-then-is_empty c =
    let x = state c.args.self.now in
    let y = (state c.loop-line.self) in
    let rest = c.loop-line.rest.now in
    let none = lines_none rest c.in_default.ensures.parts c.if-is_empty.ensures in
    record {
      wrote = listed_all x c.args.trace.now c.args.out.now y c.loop-line.at rest c.loop-line.out c.loop-line.end c.loop-line.invariant none;
      short = omega (arith, c.loop-line.invariant.few);
      after = called_all x c.args.trace.now c.args.out.now y c.loop-line.at rest c.loop-line.out c.loop-line.end c.loop-line.invariant none;
    }

pub put_line-requires : goal.put_line-requires
put_line-requires c =
    let rest = c.loop-line.rest.now in
    omega (
      arith,
      listed_room (state c.args.self.now) c.args.trace.now c.args.out.now (state c.loop-line.self) c.loop-line.at rest
          c.loop-line.out c.loop-line.end c.loop-line.invariant rest [] (lines_one rest c.in_default.ensures.parts c.if-is_empty.ensures),
    )

-- the last line, which no octet 10 ends, and then nothing is left
pub returns : goal.returns
returns c =
    let x = state c.args.self.now in
    let y = (state c.loop-line.self) in
    let z = (state c.put_line.new.self) in
    let rest = c.loop-line.rest.now in
    let trace = c.args.trace.now in
    let before = c.args.out.now in
    let out = with_part c.loop-line.end c.loop-line.out c.put_line.new.out in
    let end = c.loop-line.end + c.put_line.result in
    let next = next_at c.loop-line.at in
    let done : Listed x trace before z next [] out end =
    listed_more x trace before y c.loop-line.at rest c.loop-line.out c.loop-line.end c.loop-line.invariant rest []
    (lines_one rest c.in_default.ensures.parts c.if-is_empty.ensures) z c.put_line.new.out c.put_line.result c.put_line.ensures.wrote
    c.put_line.ensures.short c.put_line.ensures.after c.requires [] next refl refl in
    record {
      wrote = listed_all x trace before z next [] out end done refl;
      short = omega (arith, done.few);
      after = called_all x trace before z next [] out end done refl;
    }
