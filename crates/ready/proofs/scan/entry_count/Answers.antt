use Rattle.std.proofs.Common.{rules}
use Rattle.std.proofs.lemmas.List.{take_all}
use Rattle.std.proofs.lemmas.List.Sums.{count_by_more_yes, count_by_more_no}
use Rattle.ready.proofs.scan.entry_count.Goals as goal

pub loop-tag-preserved : goal.loop-tag-preserved
loop-tag-preserved c = search (rules, count_by_more_yes, count_by_more_no)

pub returns : goal.returns
returns c = search (rules, take_all)
