use Rattle.std.proofs.Common.{◌≡◌, length, subst, sym, ap, ◌∙◌}
use Rattle.jx_file_query.specs.declared.cutting.Aim.{Aim}
use Rattle.jx_file_query.specs.Parts.{parts_of}
use Rattle.jx_c.specs.Buffers.{IsFilled}
use Rattle.jx_c.specs.Opened.{HasSplit, shown_part}
use Rattle.jx_c.specs.declared.saving.opened.IndexWork.{IndexWork}
use Rattle.jx_c.proofs.saving.opened.OpenedIndex.parts.Goals as goal

pub returns-else-is_some-clause-parts : goal.returns-else-is_some-clause-parts
returns-else-is_some-clause-parts c = λ ok settings chunk text aim container h inside whole.
    let here = subst (λ (w : IndexWork). HasSplit settings chunk text aim c.args.self.now.saved.index w) (sym c.in-Splitting.ensures.value) h in
    let all = c.parts_of.ensures.parts ok settings chunk text container here.1 inside (whole ∙ sym (ap (λ (a : Aim). a.whole) here.0)) in
    subst (λ (a : Aim). (c.parts_of.new.count ≡ length (parts_of a.parts text container)) × IsFilled shown_part c.args.parts.now c.parts_of.new.parts (parts_of a.parts text container)) here.0 all

pub returns-else-is_some-clause-damaged : goal.returns-else-is_some-clause-damaged
returns-else-is_some-clause-damaged c = λ is settings chunk text aim container h inside whole.
    let here = subst (λ (w : IndexWork). HasSplit settings chunk text aim c.args.self.now.saved.index w) (sym c.in-Splitting.ensures.value) h in
    c.parts_of.ensures.damaged is settings chunk text container here.1 inside (whole ∙ sym (ap (λ (a : Aim). a.whole) here.0))
