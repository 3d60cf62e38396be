use Rattle.ready.proofs.Drops.{taken_more}
use Rattle.ready.proofs.laws.drop_all.Goals as goal

pub loop-entry-preserved : goal.loop-entry-preserved
loop-entry-preserved g c = taken_more _ _ _ _ c.in-Some.ensures.answer c.loop-entry.invariant _ c.in-Some.ensures.after _ c.push.ensures.items
