-- The cuts of a container into parts, as the token starts of a text come one after another.
use Rattle.std.specs.Prelude.{ℕ, suc, zero, ◌==◌, ◌&&◌, nat_lt, List, [], ◌∷◌, ◌++◌, fold, Bool, true, false, if◌then◌else◌}
use Rattle.jx_lex.specs.declared.alphabet.mark.Mark.{Mark}
use Rattle.jx_lex.specs.declared.alphabet.mark.MarkKind.{MarkKind}
use Rattle.jx_lex.specs.declared.alphabet.mark.MarkKind.TheVariants.{CloseArray, CloseObject, Comma}
use Rattle.jx_summary.specs.declared.span.Span.{Span}
use Rattle.jx_run.specs.Tree.{span}
use Rattle.jx_file_index.specs.declared.sum.Sum.{Sum}
use Rattle.jx_file_index.specs.Sums.{noted, nothing}
use Rattle.jx_file_query.specs.declared.cutting.Aim.{Aim}
use Rattle.jx_file_query.specs.declared.cutting.Parting.{Parting}
use Rattle.jx_file_query.specs.declared.part.ContainerPart.{ContainerPart}
use Rattle.jx_file_query.specs.Parts.{part_of}

pub record Cuts : Type 0 where
  -- of the token starts after the container's opening bracket, up to its closing one
  pub sum : Sum
  -- one of them was another than that
  pub some : Bool
  -- the parts that have ended
  pub ended : List ContainerPart
  -- the number of the part that has not, where the comma or the bracket before its first child stands, and which child that is
  pub number : ℕ
  pub start : ℕ
  pub first : ℕ

abbrev pub cuts_of : Parting → Cuts
cuts_of c = record { sum = c.sum; some = c.some; ended = c.ended.items; number = c.number; start = c.start; first = c.first }

abbrev pub begun : Span → Cuts
begun whole = record { sum = nothing; some = false; ended = []; number = 0; start = whole.start; first = 0 }

-- the part that has not ended, if it ends at a comma or a bracket, before the child with a number
abbrev pub open_part : ℕ → ℕ → Cuts → ContainerPart
open_part at end c = record { number = c.number; span = span (suc c.start) at; first = c.first; end = end }

-- where it ends there
abbrev pub with_part : ℕ → ℕ → Cuts → Cuts
with_part at end c = record c { ended = c.ended ++ open_part at end c ∷ [] }

-- with the sum of one token start more
abbrev pub with_mark : MarkKind → Cuts → Cuts
with_mark kind c = record c { sum = noted kind c.sum; some = true }

-- at a comma after a child, where the next one stands in a part with this number
abbrev pub at_child : ℕ → ℕ → Cuts → Cuts
at_child number at c = if number == c.number then c else record (with_part at c.sum.commas c) { number = number; start = at; first = c.sum.commas }

-- at the closing bracket
abbrev pub at_last : ℕ → Bool → Cuts → Cuts
at_last at true c = record (with_part at (suc c.sum.commas) c) { sum = noted CloseArray c.sum }
at_last at false c = record c { sum = noted CloseArray c.sum }

-- where no container in it is open
abbrev pub at_level : Aim → MarkKind → ℕ → Cuts → Cuts
at_level aim CloseArray at c = at_last at c.some c
at_level aim CloseObject at c = at_last at c.some c
at_level aim Comma at c = at_child (part_of aim.parts aim.whole at) at (with_mark Comma c)
at_level aim kind at c = with_mark kind c

-- where so many are
abbrev pub at_depth : ℕ → Aim → MarkKind → ℕ → Cuts → Cuts
at_depth zero aim kind at c = at_level aim kind at c
at_depth (suc n) aim kind at c = with_mark kind c

-- a token start up to the opening bracket, or after the closing one, is ignored
abbrev pub is_within : Aim → ℕ → Cuts → Bool
is_within aim at c = nat_lt aim.whole.start at && (c.sum.closed == 0)

abbrev pub cut : Aim → Mark → Cuts → Cuts
cut aim mark c = if is_within aim mark.at c then at_depth c.sum.opened aim mark.kind mark.at c else c

abbrev pub cut_all : Aim → List Mark → Cuts → Cuts
cut_all aim marks c = fold (λ c mark. cut aim mark c) c marks
