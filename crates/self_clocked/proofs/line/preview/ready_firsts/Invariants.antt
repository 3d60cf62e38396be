use Rattle.sessions.specs.Meanings.{meaning_of}
use Rattle.self_clocked.proofs.Previewing.{FirstsBelow}
use Rattle.self_clocked.proofs.line.preview.ready_firsts.Given as goal

abbrev pub invariant-loop-session : goal.invariant-loop-session
invariant-loop-session l = FirstsBelow (meaning_of l.sessions) l.session l.ready.tags
