use Rattle.jx_each.proofs.Taking.{taken_is_due}
use Rattle.jx_each.specs.declared.content.LineContent.TheVariants.{Alone}
use Rattle.jx_each.proofs.laws.lines_taken_and_waiting.Goals as goal

pub returns : goal.returns
returns c = record { due = taken_is_due {content = Alone}; due_by = λ content. taken_is_due {content = content} }
