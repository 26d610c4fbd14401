-- What is written for a verdict.
use Rattle.std.proofs.Common.{refl}
use Rattle.jx_run.specs.declared.texts.verdict.Verdict.{Verdict}
use Rattle.jx_run.specs.declared.texts.verdict.Verdict.TheVariants.{Accepted, Refused}
use Rattle.jx_words.specs.Verdicts.{ByVerdict, SaysAccepted}
use Rattle.jx_words.specs.inside.Lines.{verdict_exit, verdict_line}

-- what is written for a verdict alone, whatever is written for a text that is accepted
pub says_verdict : (verdict : Verdict) → ByVerdict SaysAccepted verdict (verdict_line verdict) (verdict_exit verdict)
says_verdict Accepted = (refl, refl)
says_verdict (Refused refusal) = (refl, refl)
