use Rattle.std.proofs.Common.{◌≡◌, get_or, None, Ok, sym, ap, ◌∙◌}
use Rattle.discipline.specs.Answers.{started}
use Rattle.sessions.specs.Meanings.{meaning_of}
use Rattle.sessions.specs.Verdicts.{why_start, take_answer}
use Rattle.sessions.proofs.Keeping.{no_reason}
use Rattle.first_come.specs.Stepping.{never_refused, takes, start_takes, start_model}
use Rattle.first_come.proofs.line.rule.FirstComeDiscipline.start.Goals as goal

pub returns-in_err-service : goal.returns-in_err-service
returns-in_err-service c = λ ok.
    absurd (never_refused c.args.self.now
    (no_reason (why_start (meaning_of c.args.self.now.sessions)) (tt {0}) (tt {0}) c.in_ok-check_start.ensures)
    c.first-session.result c.in_err-service.field-0.0 c.first-session.ensures c.in_err-service.ensures.answer)

pub returns : goal.returns
returns c = λ ok.
    let x = c.args.self.now in
    let ready : why_start (meaning_of x.sessions) ≡ None =
    no_reason (why_start (meaning_of x.sessions)) (tt {0}) (tt {0}) c.in_ok-check_start.ensures in
    let answer : Ok c.in_ok-service.service ≡ take_answer (meaning_of x.sessions) (get_or x.ring.numbers x.ring.head 0) =
    c.in_ok-service.ensures.answer ∙ ap (take_answer (meaning_of x.sessions)) c.first-session.ensures in
    record {
      answers = ap started (answer ∙ takes x ready ∙ sym (start_takes x ready));
      becomes =
          start_model x ready c.take.new.self c.advance.new.self (Ok c.in_ok-service.service) answer
          c.in_ok-service.ensures.after c.advance.ensures;
    }
