use Rattle.std.proofs.Common.{◌≡◌, ◌∷◌, ◌++◌, List, refl, sym, ap, ◌∙◌}
use Rattle.std.specs.Vec.Iter.{into_iter_items}
use Rattle.jx_reduce.specs.declared.forms.parts.StructureParts.{StructureParts}
use Rattle.jx_portion.proofs.Said.{not_all}
use Rattle.jx_portion.proofs.decoding.structures_of.Goals as goal

pub returns-in-None-of_parts-clause-fault : goal.returns-in-None-of_parts-clause-fault
returns-in-None-of_parts-clause-fault c =
    let at = c.loop-part in
    let part = c.in-Some.part in
    let steps : into_iter_items at.part-iterator ≡ part ∷ into_iter_items c.next.new.self = c.in-Some.ensures.steps.0 in
    let all = ap (λ (l : List StructureParts). at.yielded ++ l) (sym steps) ∙ at.invariant.0 ∙ c.into_iter-part-iterator.ensures.into_iter_gives.0 in
    (refl, not_all c.args.depth at.yielded part (into_iter_items c.next.new.self) c.args.parts.items all c.in-None-of_parts.ensures)
