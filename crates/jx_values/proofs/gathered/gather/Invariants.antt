-- The values so far.
use Rattle.std.specs.List.{All}
use Rattle.std.proofs.Common.{ℕ, List, take}
use Rattle.jx_values.specs.inside.Kept.{IsKeptOf}
use Rattle.jx_values.specs.inside.Moved.{AllStaySame}
use Rattle.jx_values.proofs.gathered.gather.Given as goal

abbrev pub invariant-loop-number : goal.invariant-loop-number
invariant-loop-number l = (text : List ℕ) → All (IsKeptOf text) l.fn.kept.items → All (IsKeptOf text) l.kept.items × AllStaySame text l.bytes.items (take l.number l.answers) l.moved.items
