use Rattle.sessions.proofs.Stepping.{take_keeps}
use Rattle.sessions.proofs.state.Sessions.take.Goals as goal

pub invariant_of-self : goal.invariant_of-self
invariant_of-self c =
    take_keeps c.args.self.now c.args.session c.in_ok-check_free.ensures _ c.in-Some.packet c.in_ok-packet.ensures c.in-Some.is _
    c.start.ensures
