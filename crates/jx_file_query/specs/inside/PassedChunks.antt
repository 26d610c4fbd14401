-- When a chunk need not be read.
use Rattle.std.specs.Prelude.{◌≡◌, ◌<◌, ◌≤◌, ℕ, List}
use Rattle.std.specs.List.{AllByRecursion}
use Rattle.jx_lex.specs.declared.alphabet.mark.Mark.{Mark}
use Rattle.jx_summary.specs.declared.span.Span.{Span}
use Rattle.jx_file_index.specs.declared.sum.Sum.{Sum}
use Rattle.jx_file_index.specs.Sums.{sum_of}
use Rattle.jx_file_query.specs.declared.cutting.Aim.{Aim}
use Rattle.jx_file_query.specs.Cuts.{Cuts, cut_all}
use Rattle.jx_file_query.specs.Parts.{part_of}

-- all offsets of a part stand in the part with a number
abbrev pub AllInPart : Aim → ℕ → Span → Type 0
AllInPart aim number s = (at : ℕ) → s.start ≤ at → at < s.end → part_of aim.parts aim.whole at ≡ number

-- a token start of a part
pub record IsMarkIn (s : Span) (m : Mark) : Type 0 where
  pub from : s.start ≤ m.at
  pub to : m.at < s.end

-- whichever token starts of the part have the sum, they change nothing but the sum
abbrev pub IsPassed : Aim → Span → Sum → Cuts → Sum → Type 0
IsPassed aim s sum c next = (marks : List Mark) → AllByRecursion (IsMarkIn s) marks → sum_of marks ≡ sum → cut_all aim marks c ≡ record c { sum = next }
