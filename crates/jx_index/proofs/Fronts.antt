-- What an answer on the bytes behind a front says of all bytes.
use Rattle.std.proofs.Common.{ℕ, List}
use Rattle.jx_run.specs.declared.texts.settings.Settings.{Settings}
use Rattle.jx_run.specs.declared.texts.verdict.Verdict.{Verdict}
use Rattle.jx_run.specs.declared.texts.verdict.Verdict.TheVariants.{Accepted, Refused}
use Rattle.jx_run.specs.Settings.{JudgedBy}
use Rattle.jx_run.specs.Verdict.{Judged}
use Rattle.jx_index.specs.Indexed.{IndexedValue}
use Rattle.jx_index.specs.declared.text_answer.TextAnswer.{TextAnswer}
use Rattle.jx_index.specs.declared.text_answer.TextAnswer.TheVariants as answer
use Rattle.jx_index.specs.Settled.{IsReadBy, IsAnswerFrom, IsIndexBy, IsIndexFrom, rest_from}

module _ (settings : Settings) (text : List ℕ) (n : ℕ) (indexes : (i : IndexedValue) → IsIndexFrom n text settings.depth i → IsIndexBy settings text i)
    (verdicts : (v : Verdict) → Judged n (rest_from n text) settings.depth v → JudgedBy settings 0 text v) where
  pub behind_answer : (a : TextAnswer) → IsAnswerFrom n text settings.depth a → IsReadBy settings text a
  behind_answer (answer.Refused r) h = verdicts (Refused r) h
  behind_answer (answer.Accepted index) h = (verdicts Accepted h.0, indexes index h.1)
