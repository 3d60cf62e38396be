use Rattle.std.proofs.Common.{◌+◌, ◌-◌, ◌*◌, get_or, drop, sym, ap, ◌∙◌, arith}
use native.Mathlib.Nat.{min-le_right}
use Rattle.trace.proofs.Digits.{read_after, read_step, held}
use Rattle.trace.proofs.number.read_digits.Goals as goal

pub loop-octet-preserved : goal.loop-octet-preserved
loop-octet-preserved c = (
  omega (arith, c.with_digit-value.ensures, min-le_right (c.loop-octet.value * 10 + (get_or c.args.rest.now c.loop-octet.octet-index 0 - 48)) 4294967296),
  ap (λ n. read_after n (drop (c.loop-octet.octet-index + 1) c.args.rest.now)) c.with_digit-value.ensures
      ∙ held (c.loop-octet.value * 10 + (get_or c.args.rest.now c.loop-octet.octet-index 0 - 48)) (drop (c.loop-octet.octet-index + 1) c.args.rest.now)
      ∙ sym (read_step _ _ c.loop-octet-test.true c.loop-octet.value (sym c.if-not-is_ascii_digit-2.ensures.value))
      ∙ c.loop-octet.invariant.1,
)
