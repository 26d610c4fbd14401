-- JSON Lines: bytes that line feeds cut into lines, each of which is to be a JSON text.
use Rattle.std.specs.Prelude.{ℕ, suc, ◌==◌, Bool, true, false, List, [], ◌∷◌, drop, filter, if◌then◌else◌}
use Rattle.jx_run.specs.declared.texts.settings.FrontMark.{FrontMark}
use Rattle.jx_run.specs.declared.texts.settings.FrontMark.TheVariants.{Refused, Ignored}
use Rattle.jx_run.specs.Elements.{Part, has_bytes}
use Rattle.jx_run.specs.Front.{agreed}
use Rattle.jx_run.specs.Settings.{byte_order_mark}
use Rattle.jx_ndjson.specs.Parts.{parts_by}

-- the line feed, hexadecimal 0A
abbrev pub is_line_feed : ℕ → Bool
is_line_feed byte = byte == 0x0a

-- a line without its line feed, its number, and whether a line feed ends it
pub record Line : Type 0 where
  pub number : ℕ
  pub part : Part
  pub is_ended : Bool

abbrev pub line : ℕ → Part → Bool → Line
line number part is_ended = record { number = number; part = part; is_ended = is_ended }

-- the lines of such parts, counted from a number on: a line feed ends all but the last, which is no line if it is empty
abbrev pub lines_of : ℕ → List Part → List Line
lines_of number [] = []
lines_of number (p ∷ []) = if has_bytes p then line number p false ∷ [] else []
lines_of number (p ∷ q ∷ parts) = line number p true ∷ lines_of (suc number) (q ∷ parts)

-- the lines of bytes that stand from an offset on, counted from 1
abbrev pub lines_from : ℕ → List ℕ → List Line
lines_from at bytes = lines_of 1 (parts_by is_line_feed at bytes)

-- how many bytes of an input a byte order mark in front takes, where it is ignored
abbrev pub mark_length : FrontMark → List ℕ → ℕ
mark_length Refused input = 0
mark_length Ignored input = if agreed input byte_order_mark == 3 then 3 else 0

-- the lines of an input, after an ignored byte order mark
abbrev pub lines : FrontMark → List ℕ → List Line
lines mark input = lines_from (mark_length mark input) (drop (mark_length mark input) input)

-- those that a line feed ends
abbrev pub ended_lines : FrontMark → List ℕ → List Line
ended_lines mark input = filter (λ (l : Line). l.is_ended) (lines mark input)
