use Rattle.std.proofs.Common.{subst}
use Rattle.jx_reduce.specs.Structure.{StructureValue, IsSmall}
use Rattle.jx_reduce.proofs.Structures.{small_of}
use Rattle.jx_reduce.proofs.forms.structure.Structure.entry.Goals as goal

pub returns-clause-size : goal.returns-clause-size
returns-clause-size c = subst (λ (f : StructureValue). IsSmall f.depth f) c.self.view_is (small_of _ c.self.invariant.0)
