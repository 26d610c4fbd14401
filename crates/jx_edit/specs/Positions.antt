-- Positions in a text, as editors count them (Language Server Protocol 3.17, "Position" and "PositionEncodingKind").
use Rattle.std.specs.Prelude.{ℕ, suc, ◌≡◌, ◌<◌, ◌≤◌, true, false, length, ◌+◌, ◌-◌, ◌==◌, List, [], ◌∷◌, Bool, fold, take, nat_le, nat_lt, slice_index, ◌&&◌, ◌||◌, if◌then◌else◌}
use Rattle.jx_edit.specs.declared.positions.encoding.Encoding.{Encoding}
use Rattle.jx_edit.specs.declared.positions.encoding.Encoding.TheVariants.{Utf8, Utf16}
use Rattle.jx_edit.specs.declared.positions.position.Position.{Position}

-- where a text begins
abbrev pub first : Position
first = record { line = 0; character = 0 }

-- a byte that goes on with a character that an earlier one began (RFC 3629, section 3)
abbrev pub is_tail : ℕ → Bool
is_tail byte = nat_le 0x80 byte && nat_le byte 0xbf

-- how many units a byte adds to its line: in UTF-16 those of the character that it begins, two from U+10000 on
abbrev pub units : Encoding → ℕ → ℕ
units Utf8 byte = 1
units Utf16 byte = if is_tail byte then 0 else (if nat_le 0xf0 byte then 2 else 1)

-- the position after a byte: a line feed begins the next line
abbrev pub past : Encoding → Position → ℕ → Position
past e p byte =
    if byte == 10 then record { line = p.line + 1; character = 0 }
    else record { line = p.line; character = p.character + units e byte }

-- the position after bytes that stand at one
abbrev pub position_behind : Encoding → Position → List ℕ → Position
position_behind e p bytes = fold (past e) p bytes

-- the position of an offset, or of the end
abbrev pub position_at : Encoding → List ℕ → ℕ → Position
position_at e bytes offset = position_behind e first (take offset bytes)

-- whether the first position is after the second
abbrev pub is_behind : Position → Position → Bool
is_behind p q = nat_lt q.line p.line || (p.line == q.line && nat_lt q.character p.character)

-- of bytes that stand at the first position, how many come before the next position is after the second
abbrev pub reach : Encoding → Position → Position → List ℕ → ℕ
reach e p q [] = 0
reach e p q (byte ∷ bytes) = if is_behind (past e p byte) q then 0 else suc (reach e (past e p byte) q bytes)

-- whether the offset stands between CR and LF
abbrev pub is_in_crlf : List ℕ → ℕ → Bool
is_in_crlf bytes offset = slice_index bytes (offset - 1) == 13 && slice_index bytes offset == 10

-- the offset of a position: the last one whose position is not after it; and where its line has fewer units, before the line's end, a line feed or CR LF
abbrev pub offset_at : Encoding → List ℕ → Position → ℕ
offset_at e bytes q =
    let last = reach e first q bytes in
    if nat_lt (position_at e bytes last).character q.character && is_in_crlf bytes last then last - 1 else last

-- of the offsets in bytes that stand at `p`, the last one whose position is not after `q`
pub record IsLast (e : Encoding) (p q : Position) (bytes : List ℕ) (offset : ℕ) : Type 0 where
  pub within : offset ≤ length bytes
  pub reached : is_behind (position_behind e p (take offset bytes)) q ≡ false
  pub last : (i : ℕ) → offset < i → i ≤ length bytes → is_behind (position_behind e p (take i bytes)) q ≡ true
