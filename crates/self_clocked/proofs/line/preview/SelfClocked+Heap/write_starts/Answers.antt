use Rattle.std.proofs.Common.{◌<◌, ◌≤◌, length, ap, ◌∙◌, arith}
use Rattle.calls.specs.declared.call.Call.TheVariants.{Finish}
use Rattle.sessions.proofs.Using.{at_most_256}
use Rattle.self_clocked.specs.Exact.{after}
use Rattle.self_clocked.specs.States.{state}
use Rattle.self_clocked.proofs.Previewing.{rested_room, written_none, written_room, written_more, written_count, written_all}
use Rattle.self_clocked.proofs.line.preview.SelfClocked+Heap.write_starts.Goals as goal

pub loop-service-init : goal.loop-service-init
loop-service-init c =
    let rested = c.finish.ensures c.requires.sound in
    (rested.1, written_none (state c.args.self.now) (state c.finish.new.self) c.args.tickets.now rested.0.after)

inside : (c : goal.In-Ok) → c.loop-service.count < length c.loop-service.tickets
inside c =
    let begun = c.in-Ok.ensures c.loop-service.invariant.0 in
    omega (
      arith,
      written_room (state c.finish.new.self) c.args.tickets.now (state c.loop-service.self) c.loop-service.tickets c.loop-service.count
          c.loop-service.invariant.1 (rested_room (state c.args.self.now) (state c.finish.new.self) (length c.args.tickets.now) (c.finish.ensures c.requires.sound).0.after c.requires.room) c.in-Ok.service begun.0.answer,
      c.loop-service.auto.tickets,
    )

few : (c : goal.In-Ok) → c.loop-service.count ≤ 256
few c = omega (arith, c.loop-service.invariant.1.left, at_most_256 c.finish.new.self.sessions)

pub bounds-tickets-count : goal.bounds-tickets-count
bounds-tickets-count c = inside c

pub overflow_add-count : goal.overflow_add-count
overflow_add-count c = record { fits = omega (arith, few c) }

pub loop-service-preserved : goal.loop-service-preserved
loop-service-preserved c =
    let begun = c.in-Ok.ensures c.loop-service.invariant.0 in
    let rested = c.finish-in-Ok.ensures begun.1 in (
      rested.1,
      written_more (state c.finish.new.self) c.args.tickets.now (state c.loop-service.self) c.loop-service.tickets c.loop-service.count
          c.loop-service.invariant.1 (rested_room (state c.args.self.now) (state c.finish.new.self) (length c.args.tickets.now) (c.finish.ensures c.requires.sound).0.after c.requires.room) c.in-Ok.service begun.0.answer (state c.finish-in-Ok.new.self)
          (rested.0.after ∙ ap (λ x. after x Finish) begun.0.after),
    )

pub loop-service-smaller : goal.loop-service-smaller
loop-service-smaller c = omega (arith, c.loop-service.invariant.1.left, (loop-service-preserved c).1.left)

pub returns : goal.returns
returns c =
    let x = state c.args.self.now in
    let y = state c.finish.new.self in
    let z = state c.loop-service.self in
    let to = (c.finish.ensures c.requires.sound).0.after in
    let refused = (c.in_default.ensures c.loop-service.invariant.0).0.answer in
    let before = c.args.tickets.now in
    let tickets = c.loop-service.tickets in
    let reason = c.in_default.field-0 in
    record {
      count = written_count x y z before tickets c.loop-service.count reason to c.loop-service.invariant.1 refused;
      tickets = written_all x y z before tickets c.loop-service.count reason to c.loop-service.invariant.1 refused;
    }
