-- Pointers that are looked up in a text while it is read batch by batch.
use Rattle.std.proofs.Common.{◌≡◌, ℕ, List, arith, length, refl}
use Rattle.jx_run.specs.declared.texts.settings.Settings.{Settings}
use Rattle.jx_run.specs.declared.texts.verdict.Refusal.{Refusal}
use Rattle.jx_run.specs.declared.texts.verdict.Verdict.TheVariants.{Refused}
use Rattle.jx_index.specs.ByNames.{IsVerdictBy}
use Rattle.jx_find.specs.Finder as finder
use Rattle.jx_report.specs.declared.pointer_reader.PointerReader.{PointerReader}
use Rattle.jx_report.specs.Output.{AnswersPointers, TextOutput}
use Rattle.jx_report.specs.inside.PointerReads.{AreLookedUp}
use Rattle.jx_words.specs.inside.Lines.{verdict_exit, verdict_line}

module _ (settings : Settings) (spelt : List (List ℕ)) (text : List ℕ) where
  -- as many bytes were read as there are
  pub as_long : (reader : PointerReader) → AreLookedUp settings spelt text reader → finder.end_of reader.finder ≡ length text
  as_long reader h = omega (arith, h.fed.reading.start, h.fed.reading.read.count)

  pub says_refused : (refusal : Refusal) → IsVerdictBy settings text (Refused refusal)
      → TextOutput (AnswersPointers spelt settings text) settings text (verdict_line (Refused refusal)) (verdict_exit (Refused refusal))
  says_refused refusal h = (Refused refusal, h, (refl, refl))
