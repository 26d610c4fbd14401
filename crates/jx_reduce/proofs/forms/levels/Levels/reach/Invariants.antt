use Rattle.std.proofs.Common.{◌≡◌, ◌+◌, length, drop, take, List}
use Rattle.std.specs.Prelude.{reverse}
use Rattle.jx_reduce.specs.Form.{Plain, along}
use Rattle.jx_reduce.specs.declared.table.holder.Holder.{Holder}
use Rattle.jx_reduce.proofs.forms.levels.Levels.reach.Given as goal

abbrev pub invariant-loop-level : goal.invariant-loop-level
invariant-loop-level l =
    record {
      left : l.left + l.level-index ≡ length l.holders;
      rest : (k : List Holder → Plain) → along l.self.ended.items (reverse l.holders) k ≡ along (drop l.level-index l.self.ended.items) (reverse (take l.left l.holders)) k;
    }
