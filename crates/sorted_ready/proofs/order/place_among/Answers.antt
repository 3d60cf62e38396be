use Rattle.std.proofs.Common.{◌≡◌, true, false, not, rules, tests}
use Rattle.std.specs.List.Sorted.{IsPartitionPoint}
use Rattle.std.proofs.lemmas.List.Sorted.{IsPartitionPoint-from_clause}
use Rattle.ready.specs.Order.{at_most}
use Rattle.sorted_ready.proofs.Inserts.{parted, placed_before, placed_after}
use Rattle.sorted_ready.proofs.order.place_among.Goals as goal

point : (c : goal.After-partition_point) → IsPartitionPoint (λ x. not (at_most x c.args.new) ≡ true) (λ x. not (at_most x c.args.new) ≡ false) c.args.entries.now.items c.partition_point.result
point c = IsPartitionPoint-from_clause (λ x. not (at_most x c.args.new)) c.args.entries.now.items c.partition_point.result
    (rw c.deref.ensures.0 at c.partition_point.ensures.partitioned) (parted c.args.entries.now.items c.args.new c.requires) (λ a r f k. search (rules, tests))

pub returns-clause-before : goal.returns-clause-before
returns-clause-before c = placed_before c.args.entries.now.items c.args.new c.partition_point.result (point c)

pub returns-clause-after : goal.returns-clause-after
returns-clause-after c = placed_after c.args.entries.now.items c.args.new c.partition_point.result (point c)
