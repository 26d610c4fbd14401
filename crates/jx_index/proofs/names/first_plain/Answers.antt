use Rattle.std.proofs.Common.{arith}
use Rattle.jx_index.proofs.SameFront.{first_unit}
use Rattle.jx_index.proofs.names.first_plain.Goals as goal

pub returns-in-len1-up : goal.returns-in-len1-up
returns-in-len1-up c =
    first_unit c.args.spelling c.args.bytes.now (omega (arith, c.in-len1-up.len_at_least)) (omega (arith, c.if-byte-lt128.true)) (omega (arith, c.if-byte-ne92.true)) (omega (arith, c.if-byte-ne126.true))
