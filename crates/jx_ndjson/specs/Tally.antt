-- How many lines an input has, and which of them are not valid JSON.
use Rattle.std.specs.Prelude.{◌≡◌, ℕ, ◌+◌, Bool, true, false, not, List, ◌++◌, filter, if◌then◌else◌, length}
use Rattle.jx_run.specs.declared.texts.settings.Settings.{Settings}
use Rattle.jx_ndjson.specs.declared.judged_line.JudgedLine.{JudgedLine}
use Rattle.jx_ndjson.specs.declared.judged_line.LineVerdict.{LineVerdict}
use Rattle.jx_ndjson.specs.declared.judged_line.LineVerdict.TheVariants.{Accepted, Refused, MayBeCut, Blank}
use Rattle.jx_ndjson.specs.declared.line_tally.LineCounts.{LineCounts}
use Rattle.jx_ndjson.specs.Answers.{AreAnswers}
use Rattle.jx_ndjson.specs.Reading.{HasTold, LineReaderValue}

-- ---- of one line

abbrev pub is_accepted : LineVerdict → Bool
is_accepted Accepted = true
is_accepted (Refused refusal) = false
is_accepted MayBeCut = false
is_accepted Blank = false

abbrev pub is_refused : LineVerdict → Bool
is_refused Accepted = false
is_refused (Refused refusal) = true
is_refused MayBeCut = true
is_refused Blank = false

abbrev pub is_blank_line : LineVerdict → Bool
is_blank_line Accepted = false
is_blank_line (Refused refusal) = false
is_blank_line MayBeCut = false
is_blank_line Blank = true

-- ---- of many

abbrev pub count_of : (LineVerdict → Bool) → List JudgedLine → ℕ
count_of is answers = length (filter (λ (j : JudgedLine). is j.verdict) answers)

abbrev pub counts_of : List JudgedLine → LineCounts
counts_of answers = record { accepted = count_of is_accepted answers; refused = count_of is_refused answers; blank = count_of is_blank_line answers }

-- those that are not valid JSON
abbrev pub bad_of : List JudgedLine → List JudgedLine
bad_of answers = filter (λ (j : JudgedLine). not (is_accepted j.verdict)) answers

abbrev pub one_if : Bool → ℕ
one_if b = if b then 1 else 0

-- counts with one line more
abbrev pub counted : LineCounts → LineVerdict → LineCounts
counted counts verdict =
    record {
      accepted = counts.accepted + one_if (is_accepted verdict);
      refused = counts.refused + one_if (is_refused verdict);
      blank = counts.blank + one_if (is_blank_line verdict);
    }

-- ---- of an input

-- these are the lines of the input that are not valid JSON, in order, and so many there are of each kind
pub record IsTallied (settings : Settings) (input : List ℕ) (bad : List JudgedLine) (counts : LineCounts) : Type 0 where
  pub answers : List JudgedLine
  pub are_answers : AreAnswers settings input answers
  pub bad_are : bad ≡ bad_of answers
  pub counts_are : counts ≡ counts_of answers

-- A tally as contracts see it
pub record TallyValue : Type 0 where
  -- the reader of the lines
  pub lines : LineReaderValue
  -- how many have ended
  pub counts : LineCounts
  -- those that wait to be taken
  pub waiting : List JudgedLine

-- it has taken these bytes of an input, from its start, and given these lines before those that wait
pub record HasTaken (settings : Settings) (input : List ℕ) (given : List JudgedLine) (t : TallyValue) : Type 0 where
  pub answers : List JudgedLine
  pub told : HasTold settings input answers t.lines
  pub counts_are : t.counts ≡ counts_of answers
  pub bad_are : given ++ t.waiting ≡ bad_of answers
