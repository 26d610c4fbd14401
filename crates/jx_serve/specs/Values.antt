-- The value at an offset of a document, and how it is shown.
use Rattle.std.specs.Prelude.{◌≡◌, ℕ, ◌<◌, ◌≤◌, ◌&&◌, if◌then◌else◌, min, nat_le, nat_lt, List, Bool, true, false, Option, None, Some, Ok, IfSome, map, position, slice_get, take}
use Rattle.jx_complete.specs.Completed.{IsCompleted, IsCutInMark}
use Rattle.jx_edit.specs.Positions.{position_at}
use Rattle.jx_edit.specs.declared.positions.encoding.Encoding.{Encoding}
use Rattle.jx_index.specs.ByNames.{IsVerdictBy}
use Rattle.jx_index.specs.Leads.{leads}
use Rattle.jx_index.specs.Pointers.{tokens}
use Rattle.jx_index.specs.Rows.{rows}
use Rattle.jx_index.specs.declared.row.Row.{Row}
use Rattle.jx_run.specs.Settings.{IsDocumentBy}
use Rattle.jx_run.specs.Tree.{Tree}
use Rattle.jx_run.specs.declared.texts.settings.NameRule.TheVariants.{Any}
use Rattle.jx_run.specs.declared.texts.settings.Settings.{Settings}
use Rattle.jx_run.specs.declared.texts.verdict.Refusal.{Refusal}
use Rattle.jx_run.specs.declared.texts.verdict.Verdict.TheVariants.{Refused}
use Rattle.jx_summary.specs.declared.span.Span.{Span}
use Rattle.jx_serve.specs.declared.hover.Hover.{Hover}
use Rattle.jx_serve.specs.declared.symbols.Outline.{Outline}
use Rattle.jx_serve.specs.declared.symbols.Symbol.{Symbol}
use Rattle.jx_serve.specs.declared.under_cursor.ValueAt.{ValueAt}

-- ---- the value at an offset

abbrev pub start_of : Option Span → Span → ℕ
start_of None value = value.start
start_of (Some name) value = name.start

-- where a member begins, at its name, or a value that has none
abbrev pub outer_start : Row → ℕ
outer_start row = start_of row.name row.span

abbrev pub holds : ℕ → Row → Bool
holds offset row = nat_le (outer_start row) offset && nat_lt offset row.span.end

abbrev pub holds_in : ℕ → Option Row → Bool
holds_in offset None = false
holds_in offset (Some row) = holds offset row

-- whether the member or value of the row with a number holds an offset
abbrev pub holds_at : List Row → ℕ → ℕ → Bool
holds_at table offset number = holds_in offset (slice_get table number)

-- the last row that holds an offset. Rows stand in rising order of their starts, a value before those in it, so this is the
-- innermost of them
pub record IsInnermost (table : List Row) (offset number : ℕ) : Type 0 where
  pub here : holds_at table offset number ≡ true
  pub last : (k : ℕ) → number < k → holds_at table offset k ≡ false

abbrev pub IsInNone : List Row → ℕ → Type 0
IsInNone table offset = (k : ℕ) → holds_at table offset k ≡ false

-- of a text, the innermost value that holds an offset, or whose member does; its pointer, if there is one, leads to it
pub record IsValueAt (settings : Settings) (bytes : List ℕ) (offset : ℕ) (value : ValueAt) : Type 0 where
  pub tree : Tree
  pub is_text : IsDocumentBy settings 0 bytes tree
  pub number : ℕ
  pub innermost : IsInnermost (rows tree) offset number
  pub is_row : slice_get (rows tree) number ≡ Some value.row
  pub led : IfSome value.pointer (λ pointer. leads bytes tree (tokens pointer.items) ≡ Ok number)

-- it is not valid JSON, or a text in which no value holds an offset
pub data HasNoValueAt (settings : Settings) (bytes : List ℕ) (offset : ℕ) : Type 0 where
  no_text : {refusal : Refusal} → IsVerdictBy settings bytes (Refused refusal) → HasNoValueAt settings bytes offset
  in_none : {tree : Tree} → IsDocumentBy settings 0 bytes tree → IsInNone (rows tree) offset → HasNoValueAt settings bytes offset

abbrev pub IsFoundAt : Settings → List ℕ → ℕ → Option ValueAt → Type 0
IsFoundAt settings bytes offset None = HasNoValueAt settings bytes offset
IsFoundAt settings bytes offset (Some value) = IsValueAt settings bytes offset value

-- ---- how it is shown

-- the same settings, whatever names objects have
abbrev pub any_names : Settings → Settings
any_names settings = record settings { names = Any }

-- the offset at which a value is shown that contains an offset: the start of its name where the offset is before the value
abbrev pub shown_from : ℕ → Row → ℕ
shown_from offset row = if nat_lt offset row.span.start then outer_start row else row.span.start

-- the innermost value at an offset before the fault, and the positions of both its ends. It is a value of the text that stands in
-- the place of the bytes, begins before the fault, and is shown as far as that has bytes of theirs
pub record IsHoverAt (e : Encoding) (settings : Settings) (bytes : List ℕ) (offset : ℕ) (hover : Hover) : Type 0 where
  pub text : List ℕ
  pub is_completed : IsCompleted (any_names settings) bytes text hover.kept
  pub before : offset < hover.kept
  pub is_value : IsValueAt (any_names settings) text offset hover.value
  pub has_begun : hover.value.row.span.start < hover.kept
  pub start_is : hover.start ≡ position_at e bytes (shown_from offset hover.value.row)
  pub end_is : hover.end ≡ position_at e bytes (min hover.kept hover.value.row.span.end)

-- no value begins before the fault, or the offset is not before it, or in no value, or in a member whose value is missing there
pub data HasNoHover (settings : Settings) (bytes : List ℕ) (offset : ℕ) : Type 0 where
  in_mark : IsCutInMark (any_names settings) bytes → HasNoHover settings bytes offset
  behind : {text : List ℕ} {kept : ℕ} → IsCompleted (any_names settings) bytes text kept → kept ≤ offset → HasNoHover settings bytes offset
  in_no_value : {text : List ℕ} {kept : ℕ} {tree : Tree} → IsCompleted (any_names settings) bytes text kept → IsDocumentBy (any_names settings) 0 text tree
      → IsInNone (rows tree) offset → HasNoHover settings bytes offset
  is_due : {text : List ℕ} {kept : ℕ} {value : ValueAt} → IsCompleted (any_names settings) bytes text kept → IsValueAt (any_names settings) text offset value
      → kept ≤ value.row.span.start → HasNoHover settings bytes offset

abbrev pub IsHovered : Encoding → Settings → List ℕ → ℕ → Option Hover → Type 0
IsHovered e settings bytes offset None = HasNoHover settings bytes offset
IsHovered e settings bytes offset (Some hover) = IsHoverAt e settings bytes offset hover

-- ---- the values of a text

-- the name of a row, or its value where it has none
abbrev pub label_of : Option Span → Span → Span
label_of None value = value
label_of (Some name) value = name

-- a row with the positions at which its member or value begins, its name or value ends, and both ends of its value, as far as so many bytes go
abbrev pub symbol_of : Encoding → List ℕ → ℕ → Row → Symbol
symbol_of e bytes kept row = record {
  row = row;
  outer = position_at e bytes (outer_start row);
  label = position_at e bytes (min kept (label_of row.name row.span).end);
  start = position_at e bytes row.span.start;
  end = position_at e bytes (min kept row.span.end);
}

abbrev pub before_at : Option ℕ → List Row → List Row
before_at None table = table
before_at (Some number) table = take number table

-- the rows before the first that does not begin before an offset
abbrev pub rows_before : ℕ → List Row → List Row
rows_before kept table = before_at (position (λ (row : Row). nat_le kept row.span.start) table) table

-- at most so many are listed
abbrev pub most_symbols : ℕ
most_symbols = 10000

-- the first values that begin before the fault, in the order of their starts, each with its bytes before the fault
pub record IsOutline (e : Encoding) (settings : Settings) (bytes : List ℕ) (outline : Outline) : Type 0 where
  pub kept : ℕ
  pub is_completed : IsCompleted (any_names settings) bytes outline.text.items kept
  pub tree : Tree
  pub is_text : IsDocumentBy (any_names settings) 0 outline.text.items tree
  pub symbols_are : outline.symbols.items ≡ map (symbol_of e bytes kept) (take most_symbols (rows_before kept (rows tree)))

abbrev pub IsOutlined : Encoding → Settings → List ℕ → Option Outline → Type 0
IsOutlined e settings bytes None = IsCutInMark (any_names settings) bytes
IsOutlined e settings bytes (Some outline) = IsOutline e settings bytes outline
