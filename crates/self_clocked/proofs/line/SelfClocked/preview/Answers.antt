use Rattle.std.proofs.Common.{ap, arith}
use Rattle.sessions.specs.Meanings.{meaning_of}
use Rattle.sessions.proofs.Using.{at_most_256}
use Rattle.self_clocked.specs.States.{state}
use Rattle.self_clocked.proofs.Previewing.{long_tickets, previewed_tickets}
use Rattle.self_clocked.proofs.line.SelfClocked.preview.Goals as goal

pub write_starts-count-requires : goal.write_starts-count-requires
write_starts-count-requires g c =
    record {
      sound = c.copy_over_heap.ensures.sound;
      room = omega (arith, at_most_256 c.copy_over_heap.result.sessions, long_tickets c.args.tickets.now c.args.scratch.now c.in_ok-check_buffers.ensures);
    }

pub returns-clause-few : goal.returns-clause-few
returns-clause-few g c = omega (arith, c.write_starts-count.ensures.count, at_most_256 c.copy_over_heap.result.sessions)

pub returns-clause-tickets : goal.returns-clause-tickets
returns-clause-tickets g c =
    previewed_tickets c.args.tickets.now c.args.scratch.now c.in_ok-check_buffers.ensures (state c.args.self.now) (state c.copy_over_heap.result)
    (ap meaning_of c.copy_over_heap.ensures.sessions) c.write_starts-count.new.tickets c.write_starts-count.ensures.tickets
