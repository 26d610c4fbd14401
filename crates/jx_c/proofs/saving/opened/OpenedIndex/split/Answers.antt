use Rattle.std.proofs.Common.{refl, subst, ap, ◌∙◌}
use Rattle.jx_file_index.specs.declared.index.Index.{Index}
use Rattle.jx_file_query.specs.declared.split.PausedSplit.{PausedSplit}
use Rattle.jx_file_query.specs.PausedSplits.{HasPaused}
use Rattle.jx_c.proofs.saving.opened.OpenedIndex.split.Goals as goal

pub returns-clause-split : goal.returns-clause-split
returns-clause-split c = λ ok. (
  refl,
  λ settings chunk text indexed. (
    ap (λ (p : PausedSplit). p.aim) c.pause-split.ensures.value ∙ c.new.ensures.aim,
    subst (λ (i : Index). HasPaused settings chunk text i c.pause-split.result) c.new.ensures.index (c.pause-split.ensures.come settings chunk text (c.new.ensures.come settings chunk text indexed)),
  ),
)
