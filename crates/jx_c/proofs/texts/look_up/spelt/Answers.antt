use Rattle.std.proofs.Common.{List, ℕ, subst}
use Rattle.jx_index.specs.PointerFaults.{IsFaultOf}
use Rattle.jx_c.proofs.Led.{no_pointer}
use Rattle.jx_c.proofs.texts.look_up.spelt.Goals as goal

pub returns-in-Err-clause-unspelt : goal.returns-in-Err-clause-unspelt
returns-in-Err-clause-unspelt c = λ is.
    no_pointer c.args.pointer.now c.in-Err.fault (subst (λ (xs : List ℕ). IsFaultOf xs c.in-Err.fault) c.in-Ok.ensures.cases.0 c.in-Err.ensures.refused) is.1
