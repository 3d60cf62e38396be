use Rattle.std.proofs.Common.{◌≡◌, ◌<◌, [], length, sym, ◌∙◌, subst, arith, take_all, rules}
use Rattle.std.proofs.lemmas.List.{drop-set-lt}
use Rattle.sharing.specs.Histories.{History}
use Rattle.sharing.specs.Runs.{Led, extended}
use Rattle.sharing.specs.Statements.{OrderPreserved}
use Rattle.sharing.proofs.Orders.{runs_keep_order}
use Rattle.discipline.proofs.Runs.{led_more, at_moments}
use Rattle.discipline.proofs.run.run.Goals as goal

pub loop-i-preserved : goal.loop-i-preserved
loop-i-preserved g c =
    let d = g.D.Discipline in
    let met = g.met.D.Discipline in
    let room : c.loop-i.i < length c.loop-i.answers = omega arith in (
      omega arith,
      λ h began.
          led_more d.fresh d.steps d.sound met.begins met.keeps h c.args.calls.now c.loop-i.answers c.loop-i.i _
          c.apply.result c.loop-i.line c.apply.new.line c.loop-i-test.true room c.apply.ensures (c.loop-i.invariant.1 h began),
      λ ok.
          led_more (λ z. z ≡ c.args.line.now) d.steps d.sound (λ z same. subst d.sound (sym same) ok) met.keeps [] c.args.calls.now c.loop-i.answers
          c.loop-i.i _ c.apply.result c.loop-i.line c.apply.new.line c.loop-i-test.true room c.apply.ensures (c.loop-i.invariant.2 ok),
      drop-set-lt (length c.args.calls.now) c.loop-i.answers c.loop-i.i c.apply.result c.loop-i-test.true ∙ c.loop-i.invariant.3,
    )

pub returns : goal.returns
returns g c =
    let d = g.D.Discipline in
    let met = g.met.D.Discipline in
    let led : (h : History) → Led d.fresh d.steps h c.args.line.now →
    Led d.fresh d.steps (extended h c.args.calls.now c.loop-i.answers) c.loop-i.line =
    λ h began. rw (take_all _ _ c.loop-i-test.false) at (c.loop-i.invariant.1 h began) in
    let ordered : (h : History) (x : _) → Led d.fresh d.steps h x → OrderPreserved h (d.meaning x) =
    runs_keep_order d.fresh d.sound d.steps d.meaning d.room d.reach met.begins met.keeps met.empty met.moves in
    record {
      answer = search rules;
      effect = record {
        led = led;
        holds = λ h began. ordered _ c.loop-i.line (led h began);
        moments = λ h began. at_moments d.fresh d.steps d.meaning OrderPreserved ordered _ c.loop-i.line (led h began);
        beyond = c.loop-i.invariant.3;
      };
      made = λ ok. rw (take_all _ _ c.loop-i-test.false) at (c.loop-i.invariant.2 ok);
    }
