use Rattle.std.proofs.Common.{not, arith}
use Rattle.jx_lex.proofs.Lanes.{marks_of}
use Rattle.jx_each.proofs.runs.marks.Goals as goal

pub returns : goal.returns
returns g c = marks_of 16 (omega arith) (omega arith) (λ byte. not (g.R.ByteSet.goes_on byte)) c.args.bytes.now c.args.i c.requires c.others.result c.others.ensures
