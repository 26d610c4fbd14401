-- Whole lines that are texts.
use Rattle.std.specs.Prelude.{◌≡◌, ℕ, false, List, [], length, Option, Some, None}
use Rattle.jx_lex.specs.declared.alphabet.lex_exit.LexExit.{LexExit}
use Rattle.jx_reduce.specs.declared.table.whole.Whole.{Whole}
use Rattle.jx_run.specs.declared.texts.verdict.Verdict.TheVariants.{Accepted}
use Rattle.jx_run.specs.Verdict.{Judged}
use Rattle.jx_run.specs.Whole.{verdict_from}
use Rattle.jx_ndjson.specs.declared.judged_line.JudgedLine.{JudgedLine}
use Rattle.jx_ndjson.specs.Answers.{are_blanks}
use Rattle.jx_ndjson.specs.WholeLines.{AreWhole}

-- a text ends where a scan of it and its token starts led to
abbrev pub IsEnd : Option LexExit → Whole → Type 0
IsEnd None whole = ⊥
IsEnd (Some exit) whole = verdict_from exit whole ≡ Accepted

-- the bytes are a text, and so not white space alone
pub record IsTextWithin (limit : ℕ) (bytes : List ℕ) : Type 0 where
  pub judged : Judged 0 bytes limit Accepted
  pub not_blank : are_blanks bytes ≡ false

-- the bytes are so many whole lines, and each of them is a text
abbrev pub AreTexts : ℕ → List ℕ → ℕ → Type 0
AreTexts limit bytes count = (answers : List JudgedLine) × AreWhole limit bytes answers (record { len = length bytes; count = count; bad = [] })
