use Rattle.jx_each.proofs.Leading.{led_joined}
use Rattle.jx_each.proofs.elements.make_elements.Goals as goal

pub returns-clause-made : goal.returns-clause-made
returns-clause-made c =
    led_joined c.args.place c.args.lines.now.items c.args.part.now.items c.join_part.new.lines.items _ c.in_ok-begin.ensures.begin c.in_ok-begin.ensures.lines
    c.in_ok-front.ensures.led c.in_ok-split_part.ensures.lines c.in_ok-split_part.ensures.part
