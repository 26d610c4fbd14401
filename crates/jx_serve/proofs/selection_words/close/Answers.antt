use Rattle.std.proofs.Common.{◌++◌, ◌∷◌, [], ap, ◌∙◌}
use Rattle.jx_serve.proofs.Ranges.{braces_more}
use Rattle.jx_serve.proofs.selection_words.close.Goals as goal

pub loop-number-preserved : goal.loop-number-preserved
loop-number-preserved c = c.in_ok-extend_from_slice.ensures.items ∙ ap (λ b. b ++ (0x7d ∷ [])) c.loop-number.invariant ∙ braces_more c.args.out.now.items c.loop-number.number
