use Rattle.std.proofs.Common.{arith}
use Rattle.self_clocked.specs.States.{state}
use Rattle.listing.proofs.Rows.{closings_none, closings_more}
use Rattle.listing.proofs.lister.Lister.put_closings.Goals as goal

pub loop-session-init : goal.loop-session-init
loop-session-init c = (closings_none (state c.args.self.now).meaning c.args.out.now 0, omega arith)

pub loop-session-preserved : goal.loop-session-preserved
loop-session-preserved c = (
  closings_more (state c.args.self.now).meaning c.loop-session.session (omega arith) c.loop-session.invariant.0 c.put_closing-end.ensures.wrote,
  omega (arith, c.loop-session.invariant.1, c.put_closing-end.ensures.short),
)
