use Rattle.std.proofs.Common.{rules}
use Rattle.waiting.proofs.Stepping.{can_remove, remove_keeps}
use Rattle.waiting.proofs.table.Waiting.take_first.Goals as goal

pub remove_first-requires : goal.remove_first-requires
remove_first-requires c = search (rules, can_remove, c.in_ok-packet.ensures, c.in-Some.is)

pub invariant_of-self : goal.invariant_of-self
invariant_of-self c =
    remove_keeps c.args.self.now c.args.session _ c.in-Some.packet c.in_ok-packet.ensures c.in-Some.is _
    c.remove_first.ensures
