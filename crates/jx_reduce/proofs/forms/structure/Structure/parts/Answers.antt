use Rattle.std.proofs.Common.{subst}
use Rattle.jx_reduce.specs.Sound.{IsSound}
use Rattle.jx_reduce.proofs.forms.structure.Structure.parts.Goals as goal

pub returns-clause-sound : goal.returns-clause-sound
returns-clause-sound c = subst IsSound c.self.view_is c.self.invariant.0
