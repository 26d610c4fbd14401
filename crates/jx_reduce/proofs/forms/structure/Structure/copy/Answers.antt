use Rattle.std.proofs.Common.{◌++◌, sym, subst}
use Rattle.jx_reduce.specs.inside.Structures.{string_head, IsSound}
use Rattle.jx_reduce.proofs.forms.structure.Structure.copy.Goals as goal

pub invariant_of-result : goal.invariant_of-result
invariant_of-result c =
    let i = c.self.inside in
    let e = c.in_ok-rest.ensures in (
      subst IsSound (λ j. record { depth = i.depth; head = string_head i.string ++ sym e.head j; tail = sym e.tail j }) c.self.invariant.0,
      e.depth i.depth c.self.invariant.1,
    )
