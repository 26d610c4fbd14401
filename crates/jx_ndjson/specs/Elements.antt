-- The elements of a text sequence that a record separator has ended (RFC 7464, section 2.1).
use Rattle.std.specs.Prelude.{ℕ, List, [], ◌∷◌}
use Rattle.jx_run.specs.declared.texts.settings.FrontMark.{FrontMark}
use Rattle.jx_run.specs.declared.texts.settings.FrontMark.TheVariants.{Refused, Ignored}
use Rattle.jx_run.specs.Elements.{Part, filled, is_separator}
use Rattle.jx_run.specs.MarkAlone.{without_mark}
use Rattle.jx_ndjson.specs.Parts.{parts_by}

-- all but the last one, which no separator ends
abbrev pub all_but_last : List Part → List Part
all_but_last [] = []
all_but_last (p ∷ []) = []
all_but_last (p ∷ q ∷ parts) = p ∷ all_but_last (q ∷ parts)

-- without a byte order mark that stands alone before the first separator, where it is ignored
abbrev pub by_mark : FrontMark → List Part → List Part
by_mark Refused parts = parts
by_mark Ignored parts = without_mark parts

-- the elements of an input that a record separator ends, in order
abbrev pub ended_elements : FrontMark → List ℕ → List Part
ended_elements mark input = by_mark mark (filled (all_but_last (parts_by is_separator 0 input)))
