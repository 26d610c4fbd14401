-- The verdict on a text whose bytes are known, or not.
use Rattle.std.specs.Prelude.{ℕ, List, Option}
use Rattle.jx_run.specs.Settings.{JudgedBy}
use Rattle.jx_run.specs.declared.texts.settings.Settings.{Settings}
use Rattle.jx_run.specs.declared.texts.verdict.Verdict.{Verdict}
use Rattle.jx_parallel.specs.Offsets.{IsContent}

-- it is the verdict on a whole text; where the content is known, that is the text
pub record IsVerdictOn (known : Option (List ℕ)) (settings : Settings) (verdict : Verdict) : Type 0 where
  pub text : List ℕ
  pub whole : IsContent known text
  pub judged : JudgedBy settings 0 text verdict
