use Rattle.std.proofs.Common.{◌≡◌, List, subst, rules}
use Rattle.std.specs.List.Sorted.{IsStableBy}
use Rattle.jx_index.specs.Repeats.{IsLeast}
use Rattle.jx_index.specs.inside.Ties.{IsTie}
use Rattle.jx_index.proofs.Orders.{falls}
use Rattle.jx_index.proofs.Ties.{first_in_place, first_of_ties}
use Rattle.jx_names.specs.declared.name_bytes.Name.{Name}
use Rattle.jx_names.specs.inside.KeptNames.{start_of, keyed_in}
use Rattle.jx_names.proofs.Apart.{no_name}
use Rattle.jx_names.proofs.name_lists.first_repeated_by_order.Goals as goal

pub returns : goal.returns
returns c =
    let keys = keyed_in c.args.bytes.now in
    let names : List Name = c.args.names.now in
    let sorted : List Name = c.sort_names.new.names.items in
    let first = c.first_equal.result in
    let order = c.in_ok-sort_names.ensures in
    let copied : c.extend_from_slice.new.self.items ≡ names = search rules in
    first_in_place no_name keys start_of names sorted first (subst (λ (l : List Name). IsStableBy (falls keys) l sorted) copied order.stable)
    (first_of_ties no_name keys start_of sorted first order.rising (subst (λ (l : List Name). IsLeast (IsTie keys start_of l) first) c.deref.ensures.value c.first_equal.ensures))
