-- A reader that has read a text from its start.
use Rattle.std.specs.Prelude.{◌≡◌, ℕ, List, Option, length}
use Rattle.jx_run.specs.Reader.{ReaderValue, HasRead, IsInFront}
use Rattle.jx_run.specs.Settings.{JudgedBy}
use Rattle.jx_run.specs.declared.texts.settings.Settings.{Settings}
use Rattle.jx_run.specs.declared.texts.verdict.Verdict.{Verdict}
use Rattle.jx_parallel.specs.inside.Kept.{KeptValue}
use Rattle.jx_parallel.specs.Offsets.{StandThere}

-- it has read some bytes by these settings; where the text is known, they are those that it begins with
pub record IsLead (known : Option (List ℕ)) (settings : Settings) (reader : ReaderValue) : Type 0 where
  pub by : reader.settings ≡ settings
  pub start : reader.start ≡ 0
  pub bytes : List ℕ
  pub read : HasRead bytes reader
  pub there : StandThere known 0 bytes

-- a partial result begins where the reader ended, and no byte order mark may be there
pub record FollowsLead (reader : ReaderValue) (run : KeptValue) : Type 0 where
  pub behind : run.at ≡ reader.count
  pub past_front : IsInFront reader → ⊥

-- it is the verdict on so many bytes; where the text is known, they are those that it begins with
pub record IsVerdictOnFirst (known : Option (List ℕ)) (settings : Settings) (count : ℕ) (verdict : Verdict) : Type 0 where
  pub bytes : List ℕ
  pub long : length bytes ≡ count
  pub there : StandThere known 0 bytes
  pub judged : JudgedBy settings 0 bytes verdict
