-- A byte order mark that stands alone before the first record separator of a sequence.
use Rattle.std.specs.Prelude.{◌==◌, ◌&&◌, ℕ, Bool, List, [], ◌∷◌, length, slice_range, if◌then◌else◌}
use Rattle.jx_summary.specs.declared.span.Span.{Span}
use Rattle.jx_run.specs.declared.texts.settings.FrontMark.{FrontMark}
use Rattle.jx_run.specs.declared.texts.settings.FrontMark.TheVariants as on_mark
use Rattle.jx_run.specs.Elements.{Part, part, elements}
use Rattle.jx_run.specs.Front.{agreed}
use Rattle.jx_run.specs.Settings.{byte_order_mark}

-- the bytes of the input at a span
abbrev pub part_of : List ℕ → Span → Part
part_of input s = part s.start (slice_range input s.start s.end)

-- the part stands at the start and is just the byte order mark
abbrev pub is_mark_alone : Part → Bool
is_mark_alone p = (p.at == 0) && ((length p.bytes == 3) && (agreed p.bytes byte_order_mark == 3))

abbrev pub without_mark : List Part → List Part
without_mark [] = []
without_mark (p ∷ ps) = if is_mark_alone p then ps else p ∷ ps

-- the elements of the input in order, without a byte order mark that stands alone before the first separator where it
-- is ignored
abbrev pub elements_by : FrontMark → List ℕ → List Part
elements_by on_mark.Refused input = elements 0 input
elements_by on_mark.Ignored input = without_mark (elements 0 input)
