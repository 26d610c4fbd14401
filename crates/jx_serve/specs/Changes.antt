-- The bytes that a client has in a document after changes.
use Rattle.std.specs.Prelude.{ℕ, nat_le, if◌then◌else◌, List, Bool, true, false}
use Rattle.jx_edit.specs.Document.{edited}
use Rattle.jx_edit.specs.Positions.{offset_at}
use Rattle.jx_edit.specs.declared.positions.encoding.Encoding.{Encoding}
use Rattle.jx_edit.specs.declared.positions.position.Position.{Position}
use Rattle.jx_run.specs.declared.texts.settings.Settings.{Settings}
use Rattle.jx_wire.specs.declared.call.Change.{Change}
use Rattle.jx_wire.specs.declared.call.Change.TheVariants.{Whole, Range, Unknown}
use Rattle.jx_wire.specs.declared.call.Place.{Place}

-- lost: the client has other bytes, and nobody knows which
pub record HeldValue : Type 0 where
  pub settings : Settings
  pub bytes : List ℕ
  pub lost : Bool

abbrev pub held : Settings → List ℕ → HeldValue
held settings bytes = record { settings = settings; bytes = bytes; lost = false }

abbrev pub lose : HeldValue → HeldValue
lose h = record h { lost = true }

-- other bytes in the place of those from `start` up to `end`; where it ends before it starts, the bytes are lost
abbrev pub replaced : ℕ → ℕ → List ℕ → HeldValue → HeldValue
replaced start end text h = if nat_le start end then record h { bytes = edited start end text h.bytes } else lose h

abbrev pub position : Place → Position
position place = record { line = place.line; character = place.character }

-- a change of what one before it left: all bytes, or those between two positions, unless the bytes are lost
abbrev pub changed : Encoding → HeldValue → Change → HeldValue
changed e h (Whole text) = held h.settings text.items
changed e h (Range start end text) =
    if h.lost then h else replaced (offset_at e h.bytes (position start)) (offset_at e h.bytes (position end)) text.items h
changed e h Unknown = lose h
