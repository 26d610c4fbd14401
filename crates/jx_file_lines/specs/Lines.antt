-- The lines of a text, and where they begin.
use Rattle.std.specs.Prelude.{ℕ, zero, suc, ◌==◌, Bool, List, [], ◌∷◌, if◌then◌else◌}
use Rattle.std.specs.List.{count_by}

-- the line feed, hexadecimal 0A
abbrev pub is_line_feed : ℕ → Bool
is_line_feed byte = byte == 0x0a

-- how many line feeds bytes have
abbrev pub feeds_in : List ℕ → ℕ
feeds_in bytes = count_by is_line_feed bytes

-- the offset just behind so many line feeds, where the next line begins; the end of a text that has fewer
abbrev pub line_start : ℕ → List ℕ → ℕ
line_start n [] = 0
line_start zero (byte ∷ text) = 0
line_start (suc n) (byte ∷ text) = suc (if is_line_feed byte then line_start n text else line_start (suc n) text)
