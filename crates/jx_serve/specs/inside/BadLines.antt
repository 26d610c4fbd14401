-- The lines of a document that are not valid JSON.
use Rattle.std.specs.Prelude.{◌≡◌, ℕ, List}
use Rattle.jx_ndjson.specs.Answers.{AreAnswers}
use Rattle.jx_ndjson.specs.Tally.{bad_of}
use Rattle.jx_ndjson.specs.declared.judged_line.JudgedLine.{JudgedLine}
use Rattle.jx_run.specs.declared.texts.settings.Settings.{Settings}

pub record AreBadLines (settings : Settings) (bytes : List ℕ) (bad : List JudgedLine) : Type 0 where
  pub answers : List JudgedLine
  pub are_answers : AreAnswers settings bytes answers
  pub bad_are : bad ≡ bad_of answers
