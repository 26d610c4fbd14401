use Rattle.std.proofs.Common.{◌+◌, ℕ, List, [], map, take, sym, subst}
use Rattle.std.specs.List.{AllZip}
use Rattle.std.specs.Prelude.{Result}
use Rattle.std.proofs.lemmas.Option.{get_or_from_slice_get}
use Rattle.jx_index.specs.declared.find_fault.FindFault.{FindFault}
use Rattle.jx_index.specs.declared.finder.Found.{Found}
use Rattle.jx_index.specs.inside.PointerWays.{IsWayOf, nodes_of}
use Rattle.jx_index.specs.inside.Seeking.{IsReadOf}
use Rattle.jx_index.proofs.Along.{zip_at}
use Rattle.jx_index.proofs.ReadMet.{zip_more, zip_whole}
use Rattle.jx_index.proofs.read_met.read_ways.Goals as goal

pub loop-place-init : goal.loop-place-init
loop-place-init c = λ edges ways. subst (λ (xs : List (Result Found FindFault)). AllZip (IsReadOf edges c.args.met.now) [] xs) (sym c.clear.ensures.items) tt

pub loop-place-preserved : goal.loop-place-preserved
loop-place-preserved c = λ edges ways.
    let l = c.loop-place in
    let R = IsReadOf edges c.args.met.now in
    let pointers : List (List ℕ) = c.args.pointers.now in
    let p : List ℕ = c.pointer_at.result.now in
    let one : Result Found FindFault = c.in_ok-one.one in
    subst (λ (xs : List (Result Found FindFault)). AllZip R (take (l.place + 1) pointers) xs) (sym c.in_ok-push.ensures.items)
    (zip_more R pointers l.found.items l.place p one c.loop-place-test.true (l.invariant edges ways)
    (subst (λ (q : List ℕ). R q one) (sym (get_or_from_slice_get pointers l.place p p c.pointer_at.ensures))
    (c.in_ok-one.ensures edges (zip_at (IsWayOf edges) pointers (map nodes_of c.args.ways.now) l.place p c.nodes_at.result.now ways c.pointer_at.ensures c.nodes_at.ensures))))

pub returns : goal.returns
returns c = λ edges ways.
    zip_whole (IsReadOf edges c.args.met.now) c.args.pointers.now c.loop-place.found.items c.loop-place.place c.loop-place-test.false (c.loop-place.invariant edges ways)
