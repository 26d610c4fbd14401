use Rattle.std.proofs.Common.{arith, rules}
use Rattle.std.proofs.lemmas.Fmt.{length-decimal-le}
use Rattle.jx_report.proofs.column.Column.keep.Goals as goal

pub write_digits-self-requires : goal.write_digits-self-requires
write_digits-self-requires c = (length-decimal-le 16 c.args.high (omega arith) c.requires (omega arith), search rules)
