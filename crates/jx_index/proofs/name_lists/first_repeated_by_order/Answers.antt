use Rattle.std.proofs.Common.{◌≡◌, List, subst, rules}
use Rattle.std.specs.List.Sorted.{IsStableBy}
use Rattle.jx_summary.specs.declared.span.Span.{Span}
use Rattle.jx_run.specs.Tree.{span}
use Rattle.jx_index.specs.Repeats.{IsLeast}
use Rattle.jx_index.specs.Units.{units_at}
use Rattle.jx_index.specs.inside.NameLists.{start_at, IsNameTie}
use Rattle.jx_index.proofs.Orders.{falls}
use Rattle.jx_index.proofs.Ties.{first_in_place, first_of_ties}
use Rattle.jx_index.proofs.name_lists.first_repeated_by_order.Goals as goal

pub returns : goal.returns
returns c =
    let text = c.args.text.now in
    let names : List Span = c.args.names.now in
    let sorted : List Span = c.sort_names.new.names.items in
    let first = c.first_equal.result in
    let order = c.in_ok-sort_names.ensures in
    let copied : c.extend_from_slice.new.self.items ≡ names = search rules in
    first_in_place (span 0 0) (units_at text) start_at names sorted first (subst (λ (l : List Span). IsStableBy (falls (units_at text)) l sorted) copied order.stable)
    (first_of_ties (span 0 0) (units_at text) start_at sorted first order.rising (subst (λ (l : List Span). IsLeast (IsNameTie text l) first) c.deref.ensures.value c.first_equal.ensures))
