-- Places in bytes on the way to a position.
use Rattle.std.specs.Prelude.{ℕ, List, false, ◌≡◌, ◌<◌, ◌≤◌, length, take}
use Rattle.jx_edit.specs.Positions.{is_behind, position_behind}
use Rattle.jx_edit.specs.declared.positions.encoding.Encoding.{Encoding}
use Rattle.jx_edit.specs.declared.positions.position.Position.{Position}
use Rattle.jx_edit.specs.declared.positions.position.Reached.{Reached}

-- a place in bytes that stand at a position: their start, or one that is not after another position
pub record IsBefore (e : Encoding) (from to : Position) (bytes : List ℕ) (r : Reached) : Type 0 where
  pub within : r.count ≤ length bytes
  pub position : r.position ≡ position_behind e from (take r.count bytes)
  pub before : 0 < r.count → is_behind r.position to ≡ false
