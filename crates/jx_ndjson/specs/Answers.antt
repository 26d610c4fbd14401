-- The verdict on a line of JSON Lines (RFC 8259, section 2; of its end RFC 7464, section 2.4).
use Rattle.std.specs.Prelude.{◌≡◌, ℕ, zero, suc, Bool, true, false, List}
use Rattle.std.specs.List.{AllZip, list_all}
use Rattle.jx_lex.specs.Uneventful.{is_blank}
use Rattle.jx_run.specs.declared.texts.settings.FrontMark.{FrontMark}
use Rattle.jx_run.specs.declared.texts.settings.FrontMark.TheVariants as on_mark
use Rattle.jx_run.specs.declared.texts.settings.NameRule.TheVariants.{Any}
use Rattle.jx_run.specs.declared.texts.settings.Settings.{Settings}
use Rattle.jx_run.specs.declared.texts.verdict.Verdict.TheVariants as verdict
use Rattle.jx_run.specs.Elements.{part_span}
use Rattle.jx_run.specs.Settings.{IsDocumentBy, JudgedBy}
use Rattle.jx_run.specs.Tree.{Tree}
use Rattle.jx_run.specs.Unclosed.{EndsUnclosed, end_of}
use Rattle.jx_ndjson.specs.declared.judged_line.JudgedLine.{JudgedLine}
use Rattle.jx_ndjson.specs.declared.judged_line.LineVerdict.{LineVerdict}
use Rattle.jx_ndjson.specs.declared.judged_line.LineVerdict.TheVariants.{Accepted, Refused, MayBeCut, Blank}
use Rattle.jx_ndjson.specs.Lines.{Line, lines}

-- no byte, or white space alone
abbrev pub are_blanks : List ℕ → Bool
are_blanks bytes = list_all is_blank bytes

-- a byte order mark is ignored at the offset 0 alone
abbrev pub mark_at : FrontMark → ℕ → FrontMark
mark_at on_mark.Refused at = on_mark.Refused
mark_at on_mark.Ignored zero = on_mark.Ignored
mark_at on_mark.Ignored (suc at) = on_mark.Refused

-- the settings for a line whose first byte has this offset; its objects may repeat names
abbrev pub settings_at : Settings → ℕ → Settings
settings_at settings at = record { depth = settings.depth; mark = mark_at settings.mark at; names = Any }

-- no line feed ends the line, and the end of its text would show only in what follows
pub record IsCut (l : Line) (settings : Settings) : Type 0 where
  pub tree : Tree
  pub not_ended : l.is_ended ≡ false
  pub is_text : IsDocumentBy settings l.part.at l.part.bytes tree
  pub unclosed : EndsUnclosed tree (end_of l.part)

-- the verdict on a line, by that on its bytes where they stand
abbrev pub IsVerdictOn : Line → Settings → LineVerdict → Type 0
IsVerdictOn l settings Blank = are_blanks l.part.bytes ≡ true
IsVerdictOn l settings (Refused refusal) = (are_blanks l.part.bytes ≡ false) × JudgedBy settings l.part.at l.part.bytes (verdict.Refused refusal)
IsVerdictOn l settings MayBeCut = (are_blanks l.part.bytes ≡ false) × IsCut l settings
IsVerdictOn l settings Accepted = (are_blanks l.part.bytes ≡ false) × JudgedBy settings l.part.at l.part.bytes verdict.Accepted × (IsCut l settings → ⊥)

pub record IsAnswer (settings : Settings) (l : Line) (j : JudgedLine) : Type 0 where
  pub number_is : j.number ≡ l.number
  pub span_is : j.span ≡ part_span l.part
  pub verdict_is : IsVerdictOn l (settings_at settings l.part.at) j.verdict

-- one for each line of an input, in order
abbrev pub AreAnswers : Settings → List ℕ → List JudgedLine → Type 0
AreAnswers settings input answers = AllZip (IsAnswer settings) (lines settings.mark input) answers
