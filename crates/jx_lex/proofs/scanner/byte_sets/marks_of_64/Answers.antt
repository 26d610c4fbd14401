use Rattle.std.proofs.Common.{not, arith}
use Rattle.jx_lex.proofs.Lanes.{marks_of}
use Rattle.jx_lex.proofs.scanner.byte_sets.marks_of_64.Goals as goal

pub returns : goal.returns
returns g c = marks_of 64 (omega arith) (omega arith) (λ byte. not (g.R.ByteSet.goes_on byte)) c.args.text.now c.args.i c.requires c.others_of_64.result c.others_of_64.ensures
