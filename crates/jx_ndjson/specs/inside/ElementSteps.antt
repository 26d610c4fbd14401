-- A span that is a byte order mark alone in front of a sequence, and is passed.
use Rattle.std.specs.Prelude.{ℕ, Bool, false, List}
use Rattle.jx_summary.specs.declared.span.Span.{Span}
use Rattle.jx_run.specs.declared.texts.settings.FrontMark.{FrontMark}
use Rattle.jx_run.specs.declared.texts.settings.FrontMark.TheVariants.{Refused, Ignored}
use Rattle.jx_run.specs.MarkAlone.{is_mark_alone, part_of}

abbrev pub is_passed_by : FrontMark → List ℕ → Span → Bool
is_passed_by Refused input s = false
is_passed_by Ignored input s = is_mark_alone (part_of input s)
