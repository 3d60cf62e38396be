use Rattle.std.proofs.Common.{ap}
use Rattle.self_clocked.proofs.Wholes.{capped_run}
use Rattle.self_clocked.proofs.whole.run_on_capped.Goals as goal

pub returns-clause-capped : goal.returns-clause-capped
returns-clause-capped g c =
    let made = c.under_two_caps-line.ensures in
    capped_run {R = g.row.R.Denot} g.R.ReadyLine.tags c.args.inner.number c.args.outer.number c.args.calls.now c.run_new.new.answers
    c.under_two_caps-line.result c.run_new.new.line c.run_new.result (ap (λ n. n.number) made.outer) (ap (λ n. n.number) made.inner)
    made.new.new c.run_new.ensures.made
