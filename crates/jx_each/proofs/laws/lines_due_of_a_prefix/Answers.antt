use Rattle.jx_each.proofs.Dues.{more_due}
use Rattle.jx_each.specs.declared.content.LineContent.TheVariants.{Alone}
use Rattle.jx_each.proofs.laws.lines_due_of_a_prefix.Goals as goal

pub returns : goal.returns
returns c = record { grows = more_due {content = Alone}; grows_by = λ content. more_due {content = content} }
