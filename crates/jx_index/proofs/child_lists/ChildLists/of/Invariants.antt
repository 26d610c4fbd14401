use Rattle.std.proofs.Common.{◌≡◌, ◌+◌, length}
use Rattle.std.specs.Prelude.{slice_index}
use Rattle.std.specs.List.{All}
use Rattle.jx_index.specs.ChildLists.{HaveChildLists}
use Rattle.jx_index.specs.inside.WideObjects.{IsWide}
use Rattle.jx_index.proofs.child_lists.ChildLists.of.Given as goal

abbrev pub invariant-loop-node : goal.invariant-loop-node
invariant-loop-node l = record {
  starts : length l.starts.items ≡ l.node + 1;
  last : slice_index l.starts.items l.node ≡ length l.children.items;
  lists : HaveChildLists l.text l.rows l.after l.starts.items l.children.items l.node;
  wide : All (IsWide l.text l.rows l.starts.items l.children.items l.node) l.wide.items;
}
