use Rattle.std.proofs.Common.{◌≡◌, ◌+◌, take}
use Rattle.jx_serve.specs.inside.LineTables.{len_of}
use Rattle.jx_serve.proofs.line_table.blocks_before.Given as goal

-- the blocks so far, and what is left
abbrev pub invariant-loop-count : goal.invariant-loop-count
invariant-loop-count l = len_of (take l.count l.blocks) + l.left ≡ l.offset
