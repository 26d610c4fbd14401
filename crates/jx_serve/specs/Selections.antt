-- The values around places of a document.
use Rattle.std.specs.Prelude.{◌≡◌, ℕ, ◌-◌, ◌&&◌, min, nat_le, nat_lt, List, [], ◌∷◌, ◌++◌, Bool, Option, None, Some, drop, if◌then◌else◌, length, map, Vec}
use Rattle.std.specs.Global.{Global}
use Rattle.std.specs.List.{flat_map, AllZip}
use Rattle.jx_complete.specs.Completed.{IsCompleted, IsCutInMark}
use Rattle.jx_edit.specs.Positions.{offset_at, position_at}
use Rattle.jx_edit.specs.declared.positions.encoding.Encoding.{Encoding}
use Rattle.jx_index.specs.Rows.{rows}
use Rattle.jx_index.specs.declared.row.Row.{Row}
use Rattle.jx_run.specs.Settings.{IsDocumentBy}
use Rattle.jx_run.specs.Tree.{Tree}
use Rattle.jx_run.specs.declared.texts.settings.Settings.{Settings}
use Rattle.jx_summary.specs.declared.span.Span.{Span}
use Rattle.jx_wire.specs.declared.call.Place.{Place}
use Rattle.jx_serve.specs.Changes.{position}
use Rattle.jx_serve.specs.Values.{any_names}
use Rattle.jx_serve.specs.declared.selections.Extent.{Extent}
use Rattle.jx_serve.specs.declared.selections.Selection.{Selection}

-- ---- the spans that hold an offset

abbrev pub is_held : ℕ → Span → Bool
is_held offset span = nat_le span.start offset && nat_lt offset span.end

abbrev pub held_span : ℕ → Span → List Span
held_span offset span = if is_held offset span then span ∷ [] else []

-- of a member, from its name to the end of its value, of its name and of its value, or of a value without a name
abbrev pub around : ℕ → Option Span → Span → List Span
around offset None value = held_span offset value
around offset (Some name) value = held_span offset (record { start = name.start; end = value.end }) ++ (held_span offset name ++ held_span offset value)

abbrev pub spans_at : ℕ → Row → List Span
spans_at offset row = around offset row.name row.span

-- of all rows, in order: what stands in another thing comes after it. None from the fault on
abbrev pub chain_before : ℕ → ℕ → List Row → List Span
chain_before kept offset table = if nat_le kept offset then [] else flat_map (spans_at offset) table

-- ---- how they are shown

-- a span with the positions of both its ends, as far as so many bytes go
abbrev pub extent_of : Encoding → List ℕ → ℕ → Span → Extent
extent_of e bytes kept span = record { start = position_at e bytes span.start; end = position_at e bytes (min kept span.end) }

-- around a place at most so many are listed
abbrev pub most_levels : ℕ
most_levels = 200

-- the last so many, which stand in all others
abbrev pub innermost : List Span → List Span
innermost spans = drop (length spans - most_levels) spans

-- a place, as its offset has it, and what stands around it
pub record IsSelection (e : Encoding) (bytes : List ℕ) (kept : ℕ) (table : List Row) (place : Place) (selection : Selection) : Type 0 where
  pub place_is : selection.place ≡ position_at e bytes (offset_at e bytes (position place))
  pub around_is : selection.around.items ≡ map (extent_of e bytes kept) (innermost (chain_before kept (offset_at e bytes (position place)) table))

-- one for each place, in order
abbrev pub AreSelectionsOf : Encoding → List ℕ → ℕ → List Row → List Place → List Selection → Type 0
AreSelectionsOf e bytes kept table places selections = AllZip (IsSelection e bytes kept table) places selections

-- by the rows of the text that stands in the place of the bytes
pub record AreSelections (e : Encoding) (settings : Settings) (bytes : List ℕ) (places : List Place) (selections : List Selection) : Type 0 where
  pub text : List ℕ
  pub kept : ℕ
  pub is_completed : IsCompleted (any_names settings) bytes text kept
  pub tree : Tree
  pub is_text : IsDocumentBy (any_names settings) 0 text tree
  pub selections_are : AreSelectionsOf e bytes kept (rows tree) places selections

abbrev pub AreSelected : Encoding → Settings → List ℕ → List Place → Option (Vec Selection Global) → Type 0
AreSelected e settings bytes places None = IsCutInMark (any_names settings) bytes
AreSelected e settings bytes places (Some selections) = AreSelections e settings bytes places selections.items
