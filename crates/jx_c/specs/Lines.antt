-- The results of calls on JSON Lines.
use Rattle.std.specs.Prelude.{◌≡◌, ℕ, ◌+◌, ◌≤◌, List, [], ◌++◌, Option, None, Some, length}
use Rattle.jx_run.specs.declared.texts.settings.Settings.{Settings}
use Rattle.jx_run.specs.declared.texts.verdict.Verdict.TheVariants as verdict
use Rattle.jx_ndjson.specs.declared.judged_line.JudgedLine.{JudgedLine}
use Rattle.jx_ndjson.specs.declared.judged_line.LineVerdict.{LineVerdict}
use Rattle.jx_ndjson.specs.declared.judged_line.LineVerdict.TheVariants as line
use Rattle.jx_ndjson.specs.declared.line_tally.LineCounts.{LineCounts}
use Rattle.jx_ndjson.specs.Reading.{listed}
use Rattle.jx_ndjson.specs.Tally.{HasTaken, IsTallied, TallyValue}
use Rattle.jx_c.specs.Buffers.{IsFilled}
use Rattle.jx_c.specs.Rows.{shown_span}
use Rattle.jx_c.specs.Verdict.{shown}
use Rattle.jx_c.specs.declared.streams.lines.JxLine.{JxLine}
use Rattle.jx_c.specs.declared.streams.lines.JxLineCounts.{JxLineCounts}
use Rattle.jx_c.specs.declared.shapes.verdict.JxVerdict.{JxVerdict}

-- as that on a text, with two kinds more
abbrev pub shown_line_verdict : LineVerdict → JxVerdict
shown_line_verdict line.Accepted = shown verdict.Accepted
shown_line_verdict (line.Refused refusal) = shown (verdict.Refused refusal)
shown_line_verdict line.MayBeCut = record { offset = 0; kind = 4 }
shown_line_verdict line.Blank = record { offset = 0; kind = 7 }

abbrev pub shown_line : JudgedLine → JxLine
shown_line j = record { number = j.number; span = shown_span j.span; verdict = shown_line_verdict j.verdict }

-- a line without a number where there is none
abbrev pub shown_last : Option JudgedLine → JxLine
shown_last None = record { number = 0; span = record { start = 0; end = 0 }; verdict = record { offset = 0; kind = 0 } }
shown_last (Some j) = shown_line j

abbrev pub shown_counts : LineCounts → JxLineCounts
shown_counts c = record { accepted = c.accepted; refused = c.refused; blank = c.blank }

-- how many bytes it was fed
abbrev pub end_of : TallyValue → ℕ
end_of t = t.lines.reader.start + t.lines.reader.count

-- a reader that was fed no byte
abbrev pub IsNew : Settings → Option TallyValue → Type 0
IsNew settings held = (t : TallyValue) × (held ≡ Some t) × HasTaken settings [] [] t

-- after any input that it was fed, now it was fed these bytes
abbrev pub IsFed : TallyValue → List ℕ → Option TallyValue → Type 0
IsFed old bytes held =
    (t : TallyValue) × (held ≡ Some t) × ((settings : Settings) (input : List ℕ) (given : List JudgedLine) → HasTaken settings input given old → HasTaken settings (input ++ bytes) given t)

-- all lines that waited stand at the front of the buffer, and none waits
pub record IsTaken (old : TallyValue) (before after : List JxLine) (count : ℕ) (held : Option TallyValue) : Type 0 where
  pub count_is : count ≡ length old.waiting
  pub fits : count ≤ length before
  pub filled : IsFilled shown_line before after old.waiting
  pub t : TallyValue
  pub holds : held ≡ Some t
  pub none_wait : t.waiting ≡ []
  pub gives : (settings : Settings) (input : List ℕ) (given : List JudgedLine) → HasTaken settings input given old → HasTaken settings input (given ++ old.waiting) t

-- with the lines that were given, those that wait and the last one, these are all lines of the input that are not valid JSON; and so
-- many lines there are of each kind
abbrev pub IsEndOf : TallyValue → JxLine → JxLineCounts → Type 0
IsEndOf t last counts =
    (bad : Option JudgedLine) × (c : LineCounts) × (last ≡ shown_last bad) × (counts ≡ shown_counts c)
    × ((settings : Settings) (input : List ℕ) (given : List JudgedLine) → HasTaken settings input given t → IsTallied settings input (given ++ t.waiting ++ listed bad) c)
