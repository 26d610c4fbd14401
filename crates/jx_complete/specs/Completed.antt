-- Texts in place of bytes that are not valid JSON.
use Rattle.std.specs.Prelude.{◌≡◌, ℕ, ◌<◌, List, length, take}
use Rattle.jx_run.specs.Settings.{byte_order_mark, IsDocumentBy, JudgedBy}
use Rattle.jx_run.specs.Tree.{Tree}
use Rattle.jx_run.specs.declared.texts.settings.Settings.{Settings}
use Rattle.jx_run.specs.declared.texts.verdict.Refusal.TheVariants.{Stopped, Truncated, TooDeep, RepeatedName}
use Rattle.jx_run.specs.declared.texts.verdict.Verdict.{Verdict}
use Rattle.jx_run.specs.declared.texts.verdict.Verdict.TheVariants.{Accepted, Refused}

-- how many bytes are before the fault of a verdict: all of them where it has none, or where more has to follow
abbrev pub before_fault : ℕ → Verdict → ℕ
before_fault long Accepted = long
before_fault long (Refused Truncated) = long
before_fault long (Refused (Stopped at)) = at
before_fault long (Refused (TooDeep at)) = at
before_fault long (Refused (RepeatedName at)) = at

-- a text by settings that begins with the bytes before the fault, of which there are so many; it is the bytes where they are a text
pub record IsCompleted (settings : Settings) (bytes text : List ℕ) (kept : ℕ) : Type 0 where
  pub verdict : Verdict
  pub judged : JudgedBy settings 0 bytes verdict
  pub kept_is : kept ≡ before_fault (length bytes) verdict
  pub tree : Tree
  pub is_text : IsDocumentBy settings 0 text tree
  pub begins : take kept text ≡ take kept bytes
  pub whole : verdict ≡ Accepted → text ≡ bytes

-- the bytes before the fault are fewer than those of a byte order mark, and begin one
pub record IsCutInMark (settings : Settings) (bytes : List ℕ) : Type 0 where
  pub verdict : Verdict
  pub judged : JudgedBy settings 0 bytes verdict
  pub few : before_fault (length bytes) verdict < 3
  pub begins : take (before_fault (length bytes) verdict) bytes ≡ take (before_fault (length bytes) verdict) byte_order_mark
