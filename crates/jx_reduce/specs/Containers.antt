-- Open containers in words of bits: those of the innermost word, and the others around them.
use Rattle.std.specs.Prelude.{◌+◌, ◌-◌, ◌%◌, ◌^◌, ◌<◌, ◌≤◌, List, drop, length}
use Rattle.jx_reduce.specs.declared.stack.containers.Innermost.{Innermost}
use Rattle.jx_reduce.specs.declared.table.holder.Holder.{Holder}

-- at least one container in a word, at most 64
pub record IsInner (inner : Innermost) : Type 0 where
  pub some : 0 < inner.count
  pub count : inner.count ≤ 64
  pub bits : inner.bits < 2 ^ inner.count

-- the containers around the innermost word: all words but that one are full
abbrev pub outer : List Holder → List Holder
outer s = drop ((length s - 1) % 64 + 1) s
