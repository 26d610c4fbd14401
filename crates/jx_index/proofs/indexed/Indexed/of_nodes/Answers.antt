use Rattle.std.proofs.Common.{ℕ, ◌+◌, List, length, sym, ap, subst, ◌∙◌}
use Rattle.std.specs.Prelude.{slice_range}
use Rattle.std.specs.List.{All}
use Rattle.jx_index.specs.ChildLists.{HaveChildLists}
use Rattle.jx_index.specs.inside.WideObjects.{IsWide}
use Rattle.jx_index.specs.Walk.{IsForward, IsBounded}
use Rattle.jx_index.specs.declared.row.Row.{Row}
use Rattle.jx_index.proofs.Indexes.{one_of_any}
use Rattle.jx_index.proofs.Shapes.{forward_of, bounded_of}
use Rattle.jx_index.proofs.indexed.Indexed.of_nodes.Goals as goal

pub of-requires-clause-forward : goal.of-requires-clause-forward
of-requires-clause-forward c = subst IsForward (sym (c.deref-2.ensures.value ∙ c.requires.after_are)) (forward_of c.requires.tree)

pub of-requires-clause-bounded : goal.of-requires-clause-bounded
of-requires-clause-bounded c = subst IsBounded (sym (c.deref-2.ensures.value ∙ c.requires.after_are)) (bounded_of c.requires.tree)

pub invariant_of-result : goal.invariant_of-result
invariant_of-result c = (
  record {
    limit = c.requires.limit;
    tree = c.requires.tree;
    is_text = c.requires.is_text;
    rows_are = c.requires.rows_are;
    after_are = c.requires.after_are;
    one_tree = λ most other t.
        one_of_any c.unique_tree.ensures.one_tree c.args.span.start c.requires.limit most (slice_range c.args.text.now c.args.span.start c.args.span.end) c.requires.tree other c.requires.is_text t;
    starts_are = c.in_ok-lists.ensures.starts ∙ ap (λ (r : List Row). length r + 1) c.deref.ensures.value;
    lists =
        subst (λ (r : List Row). HaveChildLists c.args.text.now r c.args.nodes.after.items c.in_ok-lists.lists.starts.items c.in_ok-lists.lists.children.items (length r)) c.deref.ensures.value
        (subst (λ (a : List ℕ). HaveChildLists c.args.text.now c.deref.result.now a c.in_ok-lists.lists.starts.items c.in_ok-lists.lists.children.items (length c.deref.result.now)) c.deref-2.ensures.value
        c.in_ok-lists.ensures.lists);
  },
  subst (λ (r : List Row). All (IsWide c.args.text.now r c.in_ok-lists.lists.starts.items c.in_ok-lists.lists.children.items (length r)) c.in_ok-lists.lists.wide.items) c.deref.ensures.value
      c.in_ok-lists.ensures.wide,
)
