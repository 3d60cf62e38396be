use Rattle.sessions.proofs.Keeping.{fresh_keeps}
use Rattle.sessions.proofs.state.Sessions.new.Goals as goal

pub invariant_of-result : goal.invariant_of-result
invariant_of-result c = fresh_keeps c.new.result c.new.ensures
