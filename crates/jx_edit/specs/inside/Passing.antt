-- Groups of chunks that are passed by their sums.
use Rattle.std.specs.Prelude.{◌≡◌, ◌≤◌, ◌<◌, Bool, false, List, length, nat_lt, take}
use Rattle.jx_edit.specs.Positions.{is_behind, position_behind}
use Rattle.jx_edit.specs.inside.Chunks.{ChunkValue, text_of}
use Rattle.jx_edit.specs.declared.positions.encoding.Encoding.{Encoding}
use Rattle.jx_edit.specs.declared.positions.position.Position.{Position}
use Rattle.jx_edit.specs.declared.positions.passing.Passed.{Passed}
use Rattle.jx_edit.specs.declared.positions.passing.Sought.{Sought}
use Rattle.jx_edit.specs.declared.positions.passing.Sought.TheVariants.{At, To}

-- whether what is sought lies before a border
abbrev pub is_before : Sought → Passed → Bool
is_before (At offset) p = nat_lt offset p.bytes
is_before (To position) p = is_behind p.position position

-- a border between chunks, the first of which stands at a position; what is sought lies not before it, or it is the first one
pub record IsPassed (e : Encoding) (from : Position) (s : Sought) (cs : List ChunkValue) (p : Passed) : Type 0 where
  pub within : p.before ≤ length cs
  pub long : p.bytes ≡ length (text_of (take p.before cs))
  pub position : p.position ≡ position_behind e from (text_of (take p.before cs))
  pub behind : 0 < p.before → is_before s p ≡ false
