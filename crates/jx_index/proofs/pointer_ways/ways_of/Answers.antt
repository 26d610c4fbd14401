use Rattle.std.proofs.Common.{◌+◌, ℕ, List, [], map, take, sym, ap, subst, ◌∙◌}
use Rattle.std.specs.List.{AllZip}
use Rattle.jx_index.specs.declared.pointer_ways.Way.{Way}
use Rattle.jx_index.specs.inside.PointerWays.{IsWayOf, nodes_of}
use Rattle.jx_index.proofs.Along.{map_push}
use Rattle.jx_index.proofs.ReadMet.{zip_more, zip_whole}
use Rattle.jx_index.proofs.pointer_ways.ways_of.Goals as goal

pub loop-pointer-init : goal.loop-pointer-init
loop-pointer-init c = subst (λ (ws : List Way). AllZip (IsWayOf c.args.edges.now) [] (map nodes_of ws)) (sym c.in_ok-ways.ensures.items) tt

pub loop-pointer-preserved : goal.loop-pointer-preserved
loop-pointer-preserved c =
    let l = c.loop-pointer in
    let R = IsWayOf c.args.edges.now in
    let way : Way = record { nodes = c.in_ok-nodes.nodes } in
    subst (λ (xs : List (List ℕ)). AllZip R (take (l.pointer-index + 1) c.args.pointers.now) xs) (sym (ap (map nodes_of) c.in_ok-push.ensures.items ∙ map_push nodes_of l.ways.items way))
    (zip_more R c.args.pointers.now (map nodes_of l.ways.items) l.pointer-index c.pointer-item.result c.in_ok-nodes.nodes.items c.loop-pointer-test.true l.invariant
    (subst (λ (p : List ℕ). R p c.in_ok-nodes.nodes.items) c.pointer-item.is c.in_ok-nodes.ensures))

pub returns : goal.returns
returns c =
    zip_whole (IsWayOf c.args.edges.now) c.args.pointers.now (map nodes_of c.loop-pointer.ways.items) c.loop-pointer.pointer-index c.loop-pointer-test.false c.loop-pointer.invariant
