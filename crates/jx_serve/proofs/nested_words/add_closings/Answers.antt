use Rattle.std.proofs.Common.{◌++◌, ap, ◌∙◌}
use Rattle.jx_serve.specs.inside.Sound.{closing}
use Rattle.jx_serve.proofs.Opens.{closings_more}
use Rattle.jx_serve.proofs.nested_words.add_closings.Goals as goal

pub loop-number-preserved : goal.loop-number-preserved
loop-number-preserved c =
    c.in_ok-extend_from_slice.ensures.items ∙ ap (λ b. b ++ closing) c.loop-number.invariant ∙ closings_more c.args.out.now.items c.loop-number.number
