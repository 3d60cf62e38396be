use Rattle.calls.proofs.Tables.{table, table_is_exact, entry_is_stride}
use Rattle.calls.proofs.stride.entry.Goals as goal

pub returns : goal.returns
unfolding table
returns c = entry_is_stride table table_is_exact c.args.weight c.requires.0 c.requires.1
