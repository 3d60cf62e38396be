use Rattle.self_clocked.specs.States.{state}
use Rattle.self_clocked.specs.Calls.{admitted, step_entered}
use Rattle.self_clocked.proofs.line.as_discipline.SelfClockedAnyDiscipline.enter.Goals as goal

pub returns : goal.returns
returns g c = λ ok.
    let x = c.args.self.now in
    let y = c.place.new.self in
    let s = c.args.session in
    let n = c.args.length in
    let ticket = c.args.ticket in
    let mark = c.in_ok-mark.mark in
    let is = c.in_ok-mark.ensures in
    let may = admitted (state x) s n ticket mark is in
    step_entered (g.R.ReadyLine.tags y.ready) (state x) (state y) s n ticket mark is (c.place.ensures.after may.putting)
    (c.place.ensures.ready ok.ready may.putting)
