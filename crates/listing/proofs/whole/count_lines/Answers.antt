use Rattle.std.proofs.Common.{◌∙◌, arith}
use Rattle.listing.proofs.Rows.{some_left, lines_few, counted_none, counted_ended, counted_unended}
use Rattle.listing.proofs.whole.count_lines.Goals as goal
use Rattle.listing.proofs.whole.count_lines.Goals.{then-is_empty-via-then-is_empty, then-is_empty-via-else-is_empty+then-trace-eq10}

pub returns-then-is_empty : goal.returns-then-is_empty
returns-then-is_empty c =
    let xs = c.args.trace.now in
    elim c.then-is_empty.branch [
      | then-is_empty-via-then-is_empty w ↦
          record { lines = c.count_ends-ended.ensures.ends ∙ counted_none xs w.if-is_empty.ensures; few = c.count_ends-ended.ensures.few }
      | then-is_empty-via-else-is_empty+then-trace-eq10 w ↦
          record {
            lines = c.count_ends-ended.ensures.ends ∙ counted_ended xs (some_left xs w.if-is_empty.ensures) w.if-trace-eq10.true;
            few = c.count_ends-ended.ensures.few;
          }
    ]

pub returns : goal.returns
returns c =
    let xs = c.args.trace.now in
    let all = counted_unended xs (some_left xs c.if-is_empty.ensures) c.if-trace-eq10.false in
    record { lines = omega (arith, c.count_ends-ended.ensures.ends, all); few = omega (arith, c.count_ends-ended.ensures.ends, all, lines_few xs) }
