use Rattle.std.proofs.Common.{◌≡◌, ◌-◌, ◌≤◌, drop}
use Rattle.trace.proofs.Digits.{read_after}
use Rattle.trace.proofs.number.read_digits.Given as goal

-- the digits that are left give what all of them give
abbrev pub invariant-loop-octet : goal.invariant-loop-octet
invariant-loop-octet l =
    (l.value ≤ 4294967296) × (read_after l.value (drop l.octet-index l.rest) ≡ read_after (l.fn.first - 48) l.rest)
