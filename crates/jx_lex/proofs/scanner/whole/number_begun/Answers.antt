use Rattle.jx_lex.proofs.Whole.{begins-minus, begins-zero, begins-digit}
use Rattle.jx_lex.proofs.scanner.whole.number_begun.Goals as goal

pub returns-then-byte-eq45 : goal.returns-then-byte-eq45
returns-then-byte-eq45 c = begins-minus c.args.byte c.if-byte-eq45.true

pub returns-then-byte-eq48 : goal.returns-then-byte-eq48
returns-then-byte-eq48 c = begins-zero c.args.byte c.if-byte-eq48.true

pub returns-then-byte-le57 : goal.returns-then-byte-le57
returns-then-byte-le57 c = begins-digit c.args.byte c.if-byte-ge49.true c.if-byte-le57.true
