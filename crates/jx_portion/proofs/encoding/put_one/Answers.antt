use Rattle.std.proofs.Common.{◌++◌, List, ℕ, ap, ◌∙◌}
use Rattle.jx_portion.proofs.Said.{is_said, said_is}
use Rattle.jx_portion.proofs.encoding.put_one.Goals as goal

pub returns-clause-said : goal.returns-clause-said
returns-clause-said c = is_said c.parts.result c.args.structure.now c.parts.ensures.parts c.parts.ensures.sound c.in_ok-put_structure.ensures.fits

pub returns-clause-put : goal.returns-clause-put
returns-clause-put c = c.in_ok-put_structure.ensures.put ∙ ap (λ (t : List ℕ). c.args.out.now.items ++ t) (said_is c.parts.result c.args.structure.now c.parts.ensures.parts)
