use Rattle.std.proofs.Common.{rules}
use Rattle.jx_values.proofs.Keeps.{span_among}
use Rattle.jx_values.proofs.kept.Kept.span_among.Goals as goal

pub returns : goal.returns
returns c = λ text front more h long.
    span_among text front c.args.self.now.bytes.items more c.args.before c.args.self.now.from c.args.span.start c.args.span.end c.in-Some.start c.in-Some-checked_add.end h long
    (search rules) (search rules) (search rules) (search rules) (search rules)
