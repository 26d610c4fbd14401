use Rattle.std.proofs.Common.{◌≡◌, ◌≤◌, length, take}
use Rattle.jx_edit.specs.inside.Chunks.{text_of}
use Rattle.jx_edit.specs.Positions.{position_behind}
use Rattle.jx_edit.proofs.positions.seek.position_in.Given as goal

-- the chunks before this one lead to the position, and the place lies behind them
abbrev pub invariant-loop-place : goal.invariant-loop-place
invariant-loop-place l = record {
  is : l.position ≡ position_behind l.encoding l.fn.from (text_of (take l.place l.chunks));
  long : l.before ≡ length (text_of (take l.place l.chunks));
  low : l.before ≤ l.at;
}
