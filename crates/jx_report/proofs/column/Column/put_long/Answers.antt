use Rattle.std.proofs.Common.{◌+◌, ◌%◌, refl, ap, ◌∙◌, arith, rules}
use Rattle.std.specs.Fmt.{decimal}
use Rattle.jx_report.proofs.Columns.{digits_meet, length_low}
use Rattle.jx_report.proofs.column.Column.put_long.Goals as goal

pub write_digits-one-requires : goal.write_digits-one-requires
write_digits-one-requires c = (omega (arith, length_low c.args.number), search rules)

pub returns-clause-words : goal.returns-clause-words
returns-clause-words c =
    digits_meet c.args.number (10000 + c.args.number % 10000) c.args.end c.write_digits-one.result c.put_bytes.result c.args.self.now.start c.args.line.now c.write_digits-one.new.buf c.put_bytes.new.line c.args.self.now.digits
    c.requires.long (omega arith) refl c.write_digits-one.ensures.written c.put_bytes.ensures.words (omega arith) (c.args.self.now.kept ∙ ap decimal c.requires.kept)
