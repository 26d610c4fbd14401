use Rattle.jx_each.proofs.Dues.{one_due}
use Rattle.jx_each.specs.declared.content.LineContent.TheVariants.{Alone}
use Rattle.jx_each.proofs.laws.unique_lines_due.Goals as goal

pub returns : goal.returns
returns c = record { one = one_due {content = Alone}; one_by = λ content. one_due {content = content} }
