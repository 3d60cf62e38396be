use Rattle.std.proofs.Common.{is_some, sym, ap, ◌∙◌}
use Rattle.sessions.specs.Meanings.{meaning_of}
use Rattle.self_clocked.proofs.Entries.{entered_later, entered_answer}
use Rattle.self_clocked.proofs.line.SelfClocked.place.Goals as goal

pub returns-then-waits-clause-ready : goal.returns-then-waits-clause-ready
returns-then-waits-clause-ready g c = λ ready none.
    let x = c.args.self.now in
    let waited = sym (c.if-waits.ensures ∙ ap is_some c.first.ensures) in
    entered_later (meaning_of x.sessions) (meaning_of c.put.new.self) c.args.session c.args.packet c.put.ensures.after
    (g.R.ReadyLine.tags x.ready) waited ready none

pub returns-clause-answer : goal.returns-clause-answer
returns-clause-answer g c = λ ready none.
    let x = c.args.self.now in
    let none-waited = sym (c.if-waits.ensures ∙ ap is_some c.first.ensures) in
    c.add.ensures.answer
    ∙ entered_answer (meaning_of x.sessions) (meaning_of c.put.new.self) c.args.session c.args.packet c.put.ensures.after (g.R.ReadyLine.tags x.ready)
    none-waited ready none
