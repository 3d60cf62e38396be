use Rattle.std.proofs.Common.{sym, arith}
use Rattle.listing.proofs.Writing.{decimal_one, decimal_with}
use Rattle.listing.proofs.text.short_len.Goals as goal

pub returns-then-number-lt10 : goal.returns-then-number-lt10
returns-then-number-lt10 c = sym (decimal_one c.args.number (omega arith))

pub returns-then-number-lt100 : goal.returns-then-number-lt100
returns-then-number-lt100 c = sym (decimal_with 1 c.args.number (omega arith) (omega arith) (omega arith))

pub returns-then-number-lt1000 : goal.returns-then-number-lt1000
returns-then-number-lt1000 c = sym (decimal_with 2 c.args.number (omega arith) (omega arith) (omega arith))

pub returns-else-number-lt1000 : goal.returns-else-number-lt1000
returns-else-number-lt1000 c = sym (decimal_with 3 c.args.number (omega arith) (omega arith) (omega arith))
