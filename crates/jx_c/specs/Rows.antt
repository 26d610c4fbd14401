-- Rows as C sees them.
use Rattle.std.specs.Prelude.{◌≡◌, ℕ, ◌-◌, ◌^◌, List, length, Option, Some, None}
use Rattle.jx_lex.specs.declared.kind.Kind.{Kind}
use Rattle.jx_lex.specs.declared.kind.Kind.TheVariants.{Object, Array, String, Number, True, False, Null}
use Rattle.jx_summary.specs.declared.span.Span.{Span}
use Rattle.jx_run.specs.declared.texts.settings.Settings.{Settings}
use Rattle.jx_run.specs.declared.texts.verdict.Verdict.{Verdict}
use Rattle.jx_run.specs.declared.texts.verdict.Verdict.TheVariants.{Accepted, Refused}
use Rattle.jx_run.specs.Settings.{IsDocumentBy}
use Rattle.jx_run.specs.Tree.{Tree}
use Rattle.jx_index.specs.ByNames.{IsVerdictBy}
use Rattle.jx_index.specs.declared.row.Row.{Row}
use Rattle.jx_index.specs.Rows.{rows}
use Rattle.jx_c.specs.Buffers.{IsFilled}
use Rattle.jx_c.specs.Verdict.{shown}
use Rattle.jx_c.specs.declared.shapes.places.JxRow.{JxRow}
use Rattle.jx_c.specs.declared.shapes.places.JxSpan.{JxSpan}
use Rattle.jx_c.specs.declared.shapes.verdict.JxVerdict.{JxVerdict}

abbrev pub kind_in : Kind → ℕ
kind_in Object = 0
kind_in Array = 1
kind_in String = 2
kind_in Number = 3
kind_in True = 4
kind_in False = 5
kind_in Null = 6

abbrev pub shown_span : Span → JxSpan
shown_span s = record { start = s.start; end = s.end }

abbrev pub name_in : Option Span → JxSpan
name_in (Some s) = shown_span s
name_in None = record { start = 0; end = 0 }

-- the root has none
abbrev pub parent_in : Option ℕ → ℕ
parent_in (Some n) = n
parent_in None = 2 ^ 64 - 1

abbrev pub shown_row : Row → JxRow
shown_row r = record { span = shown_span r.span; name = name_in r.name; parent = parent_in r.parent; place = r.place; kind = kind_in r.kind }

-- by the verdict: the rows of the text's tree and how many they are, or none
abbrev pub AreRows : Settings → List ℕ → List JxRow → List JxRow → ℕ → Verdict → Type 0
AreRows settings bytes old new count Accepted = (tree : Tree) × IsDocumentBy settings 0 bytes tree × (count ≡ length (rows tree)) × IsFilled shown_row old new (rows tree)
AreRows settings bytes old new count (Refused refusal) = (count ≡ 0) × (new ≡ old)

-- the verdict by settings on the bytes, and by it their rows
abbrev pub AreRowsOf : Settings → List ℕ → List JxRow → List JxRow → ℕ → JxVerdict → Type 0
AreRowsOf settings bytes old new count told = (verdict : Verdict) × IsVerdictBy settings bytes verdict × (told ≡ shown verdict) × AreRows settings bytes old new count verdict
