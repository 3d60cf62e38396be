use Rattle.std.proofs.Common.{rules}
use Rattle.sessions.proofs.Stepping.{put_keeps}
use Rattle.sessions.proofs.state.Sessions.put.Goals as goal

pub invariant_of-self : goal.invariant_of-self
invariant_of-self c = search (rules, put_keeps c.args.self.now c.args.session c.args.packet)
