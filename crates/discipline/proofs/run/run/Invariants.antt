use Rattle.std.proofs.Common.{◌≡◌, ◌≤◌, [], length, take, drop}
use Rattle.sharing.specs.Histories.{History}
use Rattle.sharing.specs.Runs.{Led, extended}
use Rattle.discipline.proofs.run.run.Given as goal

-- the calls made so far are a run, and no answer beyond all of them has changed
abbrev pub invariant-loop-i : goal.invariant-loop-i
invariant-loop-i g l =
    let d = g.D.Discipline in
    (l.i ≤ length l.calls) ×
    ((h : History) → Led d.fresh d.steps h l.initial.line → Led d.fresh d.steps (extended h (take l.i l.calls) l.answers) l.line) ×
    (d.sound l.initial.line → Led (λ z. z ≡ l.initial.line) d.steps (extended [] (take l.i l.calls) l.answers) l.line) ×
    (drop (length l.calls) l.answers ≡ drop (length l.calls) l.initial.answers)
