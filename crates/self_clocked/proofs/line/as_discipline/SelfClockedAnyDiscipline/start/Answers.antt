use Rattle.std.proofs.Common.{◌≡◌, Some, sym, ap, ◌∙◌}
use Rattle.ready.specs.Tags.{least_of, without}
use Rattle.sessions.specs.Meanings.{meaning_of}
use Rattle.sessions.specs.Verdicts.{why_start}
use Rattle.self_clocked.specs.States.{state}
use Rattle.self_clocked.specs.Calls.{verdict_ok, start_due, step_started}
use Rattle.self_clocked.proofs.line.as_discipline.SelfClockedAnyDiscipline.start.Goals as goal

pub returns : goal.returns
returns g c = λ ok.
    let x = c.args.self.now in
    let y = c.serve.new.self in
    let m = meaning_of x.sessions in
    let tags = g.R.ReadyLine.tags x.ready in
    let rest = g.R.ReadyLine.tags c.drop_least.new.self in
    let mark = c.in_ok-mark.mark in
    let s = c.in_ok-mark.session in
    let first : c.drop_least.result ≡ Some (mark, s) = c.in_ok-mark.ensures.ok_part in
    let least : Some (mark, s) ≡ least_of tags = sym first ∙ c.drop_least.ensures.answer in
    let none = (verdict_ok (why_start m) tt tt c.in_ok-check_start.ensures).0 in
    let due = start_due tags rest m mark s none ok.ready least (c.drop_least.ensures.after ∙ ap (without tags) first) in
    step_started tags rest (g.R.ReadyLine.tags y.ready) (state x) (state y) mark s c.serve.result none ok.ready least due (c.serve.ensures.answer due)
    (c.serve.ensures.after due) (c.serve.ensures.ready due)
