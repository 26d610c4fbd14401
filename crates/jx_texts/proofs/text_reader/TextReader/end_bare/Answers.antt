use Rattle.std.proofs.Common.{◌∙◌}
use Rattle.jx_texts.proofs.text_reader.TextReader.end_bare.Goals as goal

pub lose_bare-requires-clause-refused : goal.lose_bare-requires-clause-refused
lose_bare-requires-clause-refused c = λ limit bytes by read v. c.is_accepted.ensures.no c.if-not-is_accepted.true (c.verdict.ensures limit bytes by read ∙ v)
