use Rattle.sharing.specs.Meanings.{all_waiting}
use Rattle.sessions.specs.Meanings.{meaning_of}
use Rattle.self_clocked.specs.Exact.{Sound}
use Rattle.self_clocked.specs.States.{state}
use Rattle.self_clocked.proofs.Previewing.{Written}
use Rattle.self_clocked.proofs.line.preview.SelfClocked+Heap.write_starts.Given as goal

-- the starts so far are the front of the order, and the line is sound
abbrev pub invariant-loop-service : goal.invariant-loop-service
invariant-loop-service l =
    Sound l.self.ready.tags (state l.self)
    × Written (state l.initial.self) l.initial.tickets (state l.self) l.tickets l.count

abbrev pub decreases-loop-service : goal.decreases-loop-service
decreases-loop-service l = all_waiting (meaning_of l.self.sessions)
