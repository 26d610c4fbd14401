use Rattle.jx_each.proofs.Dues.{all_due}
use Rattle.jx_each.specs.declared.content.LineContent.TheVariants.{Alone}
use Rattle.jx_each.proofs.laws.lines_due_of_a_text.Goals as goal

pub returns : goal.returns
returns c = record { all = all_due {content = Alone}; all_by = λ content. all_due {content = content} }
