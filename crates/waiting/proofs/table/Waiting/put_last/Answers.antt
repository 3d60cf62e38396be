use Rattle.std.proofs.Common.{arith, rules}
use Rattle.waiting.proofs.Stepping.{can_append, append_keeps}
use Rattle.waiting.proofs.table.Waiting.put_last.Goals as goal

pub append-requires : goal.append-requires
append-requires c = search (rules, can_append, c.in_ok-check_put.ensures)

pub invariant_of-self : goal.invariant_of-self
invariant_of-self c =
    append_keeps c.args.self.now c.args.session c.args.packet c.in_ok-check_put.ensures (omega arith) _
    c.append.ensures
