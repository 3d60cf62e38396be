use Rattle.std.proofs.Common.{eqb, arith, w8}
use lib.Lanes.{chunk}
use Rattle.std.proofs.lemmas.Simd.{bitmask_splat, length-chunk}
use Rattle.trace.proofs.cut.matches.Goals as goal

pub returns : goal.returns
returns c =
    let xs = c.args.octets.now in
    bitmask_splat w8 eqb (chunk 0 16 xs) 16 c.args.separator (length-chunk 0 16 xs (omega arith)) (omega arith)
