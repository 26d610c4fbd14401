use Rattle.jx_sentence.proofs.Behind.{last_is_top, none_is_top}
use Rattle.jx_sentence.proofs.standing.innermost.Goals as goal

pub returns-in-Some : goal.returns-in-Some
returns-in-Some c = last_is_top _ _ c.in-Some.holder c.in-Some.ensures.items

pub returns : goal.returns
returns c = none_is_top c.args.holders.items c.pop.new.self.items _ c.in-None.ensures.cases.0 c.in-None.ensures.items c.in-None.ensures.rest
