use Rattle.std.proofs.Common.{[]}
use Rattle.jx_each.specs.declared.content.LineContent.TheVariants.{Alone}
use Rattle.jx_each.proofs.Taking.{none_due}
use Rattle.jx_each.proofs.laws.lines_due_of_no_byte.Goals as goal

pub returns : goal.returns
returns c = record {
  none = λ settings pointer. none_due {content = Alone} settings pointer _ (c.reader_and_grammar.ensures.by_settings settings 0 []);
  none_by = λ content settings pointer. none_due {content = content} settings pointer _ (c.reader_and_grammar.ensures.by_settings settings 0 []);
}
