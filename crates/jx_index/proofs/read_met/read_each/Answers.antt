use Rattle.std.proofs.Common.{◌+◌, ℕ, List, [], take, sym, subst}
use Rattle.std.specs.List.{AllZip}
use Rattle.std.specs.Prelude.{Result}
use Rattle.jx_index.specs.declared.find_fault.FindFault.{FindFault}
use Rattle.jx_index.specs.declared.finder.Found.{Found}
use Rattle.jx_index.specs.inside.PointerWays.{IsWayOf}
use Rattle.jx_index.specs.inside.Seeking.{IsReadOf}
use Rattle.jx_index.proofs.ReadMet.{zip_more, zip_whole}
use Rattle.jx_index.proofs.read_met.read_each.Goals as goal

pub loop-pointer-init : goal.loop-pointer-init
loop-pointer-init c = subst (λ (xs : List (Result Found FindFault)). AllZip (IsReadOf c.args.edges.now c.args.met.now) [] xs) (sym c.in_ok-found.ensures.items) tt

pub loop-pointer-preserved : goal.loop-pointer-preserved
loop-pointer-preserved c =
    let l = c.loop-pointer in
    let R = IsReadOf c.args.edges.now c.args.met.now in
    let way = subst (λ (ns : List ℕ). IsWayOf c.args.edges.now c.pointer-item.result ns) (sym c.deref.ensures.value) c.in_ok-way.ensures in
    subst (λ (xs : List (Result Found FindFault)). AllZip R (take (l.pointer-index + 1) c.args.pointers.now) xs) (sym c.in_ok-push.ensures.items)
    (zip_more R c.args.pointers.now l.found.items l.pointer-index c.pointer-item.result c.in_ok-one.one c.loop-pointer-test.true l.invariant
    (subst (λ (p : List ℕ). R p c.in_ok-one.one) c.pointer-item.is (c.in_ok-one.ensures c.args.edges.now way)))

pub returns : goal.returns
returns c = zip_whole (IsReadOf c.args.edges.now c.args.met.now) c.args.pointers.now c.loop-pointer.found.items c.loop-pointer.pointer-index c.loop-pointer-test.false c.loop-pointer.invariant
