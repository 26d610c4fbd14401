-- The lines that are written for the rows of a text.
use Rattle.std.specs.Prelude.{ℕ, suc, List, [], ◌∷◌, ◌++◌, Option, None, Some, codes, decimal}
use Rattle.jx_summary.specs.declared.span.Span.{Span}
use Rattle.jx_index.specs.declared.row.Row.{Row}
use Rattle.jx_words.specs.Words.{line, kind_words, span_words}

-- the number of the parent's row
abbrev pub parent_words : Option ℕ → List ℕ
parent_words None = codes "-"
parent_words (Some number) = decimal number

-- where the name stands
abbrev pub name_words : Option Span → List ℕ
name_words None = codes "-"
name_words (Some span) = span_words span

-- N KIND S..E
abbrev pub node_words : ℕ → Row → List ℕ
node_words number row = decimal number ++ codes " " ++ kind_words row.kind ++ codes " " ++ span_words row.span

-- PARENT PLACE NAME
abbrev pub place_words : Row → List ℕ
place_words row = parent_words row.parent ++ codes " " ++ decimal row.place ++ codes " " ++ name_words row.name

-- N KIND S..E PARENT PLACE NAME
abbrev pub row_words : ℕ → Row → List ℕ
row_words number row = node_words number row ++ codes " " ++ place_words row

-- a line for each row, where the first has a number
unfoldable pub row_lines : ℕ → List Row → List ℕ
row_lines number [] = []
row_lines number (row ∷ rows) = line (row_words number row) ++ row_lines (suc number) rows
