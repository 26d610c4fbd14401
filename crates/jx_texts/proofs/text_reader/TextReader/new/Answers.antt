use Rattle.std.proofs.Common.{refl, ◌∙◌}
use Rattle.jx_texts.proofs.Told.{told_none}
use Rattle.jx_texts.proofs.text_reader.TextReader.new.Goals as goal

pub returns-clause-told : goal.returns-clause-told
returns-clause-told c = told_none c.args.depth c.args.at _ (c.new.ensures.settings ∙ c.into.ensures) c.new.ensures.start c.new.ensures.reads refl
