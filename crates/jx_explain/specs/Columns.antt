-- Columns that count bytes.
use Rattle.std.specs.Prelude.{ℕ, ◌+◌, ◌==◌, List, fold, if◌then◌else◌}

-- the column after a byte: a line feed ends its line, and any other byte has a column of its own
abbrev pub column_past : ℕ → ℕ → ℕ
column_past column byte = if byte == 10 then 1 else column + 1

-- the column after these bytes
abbrev pub column_behind : ℕ → List ℕ → ℕ
column_behind column bytes = fold column_past column bytes
