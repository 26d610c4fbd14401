-- The value that a reader of a table takes a cell for.
use Rattle.std.specs.Prelude.{◌≢◌, ℕ, List, [], ◌∷◌, ◌++◌, ◌==◌, All, Bool, true, false, Option, Some, None, if◌then◌else◌}
use Rattle.std.specs.Option.{option_and_then, option_map}

-- ---- by tabs: as COPY of PostgreSQL reads its text format

-- the byte that one after a backslash stands for, of the escapes that are written
abbrev pub escape_of : ℕ → Option ℕ
escape_of byte =
    if byte == 0x74 then Some 0x09 else
    if byte == 0x6e then Some 0x0a else
    if byte == 0x72 then Some 0x0d else
    if byte == 0x5c then Some 0x5c else None

-- the text of a cell, or of its bytes after a backslash; none where another escape is in it
abbrev pub read_from : Bool → List ℕ → Option (List ℕ)
read_from false [] = Some []
read_from true [] = None
read_from false (byte ∷ bytes) = if byte == 0x5c then read_from true bytes else option_map (λ (text : List ℕ). byte ∷ text) (read_from false bytes)
read_from true (byte ∷ bytes) = option_and_then (λ (one : ℕ). option_map (λ (text : List ℕ). one ∷ text) (read_from false bytes)) (escape_of byte)

abbrev pub read_cell : List ℕ → Option (List ℕ)
read_cell cell = read_from false cell

-- a byte that is no tab, line feed or carriage return, so that no cell ends at it
abbrev pub IsOfCell : ℕ → Type 0
IsOfCell byte = (byte ≢ 0x09) × (byte ≢ 0x0a) × (byte ≢ 0x0d)

-- ---- by commas: RFC 4180, section 2, where any byte stands for TEXTDATA but these
--   field = (escaped / non-escaped)
--   escaped = DQUOTE *(TEXTDATA / COMMA / CR / LF / 2DQUOTE) DQUOTE
--   non-escaped = *TEXTDATA

abbrev pub IsTextData : ℕ → Type 0
IsTextData byte = (byte ≢ 0x2c) × (byte ≢ 0x22) × (byte ≢ 0x0a) × (byte ≢ 0x0d)

-- bytes between the quotation marks, and their text
pub data IsInside : List ℕ → List ℕ → Type 0 where
  nothing : IsInside [] []
  one : {byte : ℕ} {bytes text : List ℕ} → byte ≢ 0x22 → IsInside bytes text → IsInside (byte ∷ bytes) (byte ∷ text)
  twice : {bytes text : List ℕ} → IsInside bytes text → IsInside (0x22 ∷ 0x22 ∷ bytes) (0x22 ∷ text)

-- a field, and its text
pub data IsField : List ℕ → List ℕ → Type 0 where
  bare : {text : List ℕ} → All IsTextData text → IsField text text
  marked : {bytes text : List ℕ} → IsInside bytes text → IsField (0x22 ∷ (bytes ++ 0x22 ∷ [])) text
