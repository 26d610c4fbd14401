-- The lines of rows that follow one another.
use Rattle.std.specs.Prelude.{◌≡◌, ℕ, ◌≤◌, List, length, take, drop, Option}
use Rattle.std.specs.Io.KnownBytes.{Appends}
use Rattle.jx_index.specs.declared.row.Row.{Row}
use Rattle.jx_report.specs.declared.page.Page.{Page}
use Rattle.jx_report.specs.RowWords.{row_lines}

-- the lines of the rows from one on
abbrev pub lines_from : List Row → ℕ → List ℕ
lines_from rows first = row_lines first (drop first rows)

-- the lines of the rows from one on, up to another
abbrev pub lines_between : List Row → ℕ → ℕ → List ℕ
lines_between rows first next = lines_from (take next rows) first

-- a page has the lines of its rows
pub record IsPageOf (rows : List Row) (page : Page) : Type 0 where
  pub ordered : page.first ≤ page.next
  pub within : page.next ≤ length rows
  pub lines : page.lines.items ≡ lines_between rows page.first page.next

-- the writer got the lines of the rows from one on, up to another
pub record AreWritten (rows : List Row) (written grown : Option (List ℕ)) (first next : ℕ) : Type 0 where
  pub ordered : first ≤ next
  pub within : next ≤ length rows
  pub wrote : Appends written grown (lines_between rows first next)
