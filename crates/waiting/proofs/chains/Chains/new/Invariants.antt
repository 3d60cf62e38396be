use Rattle.std.proofs.Common.{◌≡◌, length}
use Rattle.waiting.specs.Steps.{LinkedBelow}
use Rattle.waiting.proofs.chains.Chains.new.Given as goal

abbrev pub invariant-loop-i : goal.invariant-loop-i
invariant-loop-i l = (length l.places ≡ 256) × LinkedBelow l.i l.places
