-- What a report on a verdict says of the exit.
use Rattle.std.proofs.Common.{◌≡◌, ℕ, List}
use Rattle.jx_run.specs.declared.texts.verdict.Verdict.{Verdict}
use Rattle.jx_run.specs.declared.texts.verdict.Verdict.TheVariants.{Accepted, Refused}
use Rattle.jx_ends.specs.declared.exit.Exit.{Exit}
use Rattle.jx_words.specs.Verdicts.{ByVerdict, SaysAccepted}
use Rattle.jx_explain.specs.Explained.{exit_by}

pub exit_fits : (verdict : Verdict) (output : List ℕ) (exit : Exit) → ByVerdict SaysAccepted verdict output exit → exit ≡ exit_by verdict
exit_fits Accepted output exit h = h.1
exit_fits (Refused refusal) output exit h = h.1
