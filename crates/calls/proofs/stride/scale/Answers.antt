use Rattle.std.proofs.Common.{rules}
use Rattle.calls.proofs.Tables.{weight_times_stride}
use Rattle.calls.proofs.stride.scale.Goals as goal

pub returns : goal.returns
returns c = search (rules, weight_times_stride)
