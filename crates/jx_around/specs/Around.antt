-- The values of a text around an offset.
use Rattle.std.specs.Prelude.{◌≡◌, ℕ, ◌&&◌, max, min, nat_le, nat_lt, List, Bool, Option, None, Some, length}
use Rattle.std.specs.List.{filter}
use Rattle.jx_run.specs.Settings.{IsDocumentBy}
use Rattle.jx_run.specs.Text.{IsText}
use Rattle.jx_run.specs.Tree.{Tree}
use Rattle.jx_run.specs.declared.texts.settings.Settings.{Settings}
use Rattle.jx_summary.specs.declared.span.Span.{Span}
use Rattle.jx_index.specs.Rows.{rows}
use Rattle.jx_index.specs.declared.row.Row.{Row}

-- the bytes of a value, or from the first to the last of the value and its name, hold an offset
abbrev pub is_covered : ℕ → Option Span → Span → Bool
is_covered offset None value = nat_le value.start offset && nat_lt offset value.end
is_covered offset (Some name) value = nat_le (min name.start value.start) offset && nat_lt offset (max name.end value.end)

abbrev pub is_around : ℕ → Row → Bool
is_around offset row = is_covered offset row.name row.span

-- those rows of the tree of the bytes from a start on
pub record AreAroundFrom (start : ℕ) (bytes : List ℕ) (limit offset : ℕ) (table : List Row) : Type 0 where
  pub tree : Tree
  pub is_text : IsText bytes start (length bytes) limit tree
  pub around_are : table ≡ filter (is_around offset) (rows tree)

-- those rows of the tree by settings, whatever names the objects have
pub record AreAround (settings : Settings) (bytes : List ℕ) (offset : ℕ) (table : List Row) : Type 0 where
  pub tree : Tree
  pub is_text : IsDocumentBy settings 0 bytes tree
  pub around_are : table ≡ filter (is_around offset) (rows tree)
