use Rattle.std.proofs.Common.{◌∙◌, sym}
use Rattle.jx_line_values.proofs.Marks.{none_skipped, skipped}
use Rattle.jx_line_values.proofs.cutting.mark_length.Goals as goal

pub returns-in-Skip-clause-value : goal.returns-in-Skip-clause-value
returns-in-Skip-clause-value c = skipped c.args.mark c.args.line.now c.in-Skip.count (sym c.front.ensures.value ∙ c.in-Skip.is)

pub returns-in-Refused-clause-value : goal.returns-in-Refused-clause-value
returns-in-Refused-clause-value c = none_skipped c.args.mark c.args.line.now c.in-Refused.field-0 (sym c.front.ensures.value ∙ c.in-Refused.is)
