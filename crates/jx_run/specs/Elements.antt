-- JSON text sequences (RFC 7464, section 2): bytes in which each element follows a record separator.
use Rattle.std.specs.Prelude.{ℕ, suc, ◌+◌, ◌==◌, nat_lt, Bool, List, [], ◌∷◌, length, if◌then◌else◌}
use Rattle.std.specs.List.{filter}
use Rattle.jx_summary.specs.declared.span.Span.{Span}

-- the record separator of section 2.2, hexadecimal 1E
abbrev pub is_separator : ℕ → Bool
is_separator byte = byte == 0x1e

-- bytes, and the offset from which they stand
pub record Part : Type 0 where
  pub at : ℕ
  pub bytes : List ℕ

abbrev pub part : ℕ → List ℕ → Part
part at bytes = record { at = at; bytes = bytes }

abbrev pub part_span : Part → Span
part_span p = record { start = p.at; end = p.at + length p.bytes }

-- the bytes before the first separator, or all where there is none
abbrev pub before_separator : List ℕ → List ℕ
before_separator [] = []
before_separator (b ∷ bytes) = if is_separator b then [] else b ∷ before_separator bytes

-- the part after each separator, up to the next one or to the end, in order; the bytes stand from an offset on
abbrev pub after_separators : ℕ → List ℕ → List Part
after_separators at [] = []
after_separators at (b ∷ bytes) =
    if is_separator b then part (suc at) (before_separator bytes) ∷ after_separators (suc at) bytes else after_separators (suc at) bytes

-- the parts between the separators, before the first and after the last
abbrev pub parts : ℕ → List ℕ → List Part
parts at bytes = part at (before_separator bytes) ∷ after_separators at bytes

abbrev pub has_bytes : Part → Bool
has_bytes p = nat_lt 0 (length p.bytes)

-- those that are not empty: between separators in a row stands no element, and none after a separator at the end
abbrev pub filled : List Part → List Part
filled = filter has_bytes

-- the elements in order; what is before the first separator is among them, though it has no separator
abbrev pub elements : ℕ → List ℕ → List Part
elements at bytes = filled (parts at bytes)
