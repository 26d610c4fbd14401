-- Where a reading stands in a document.
use Rattle.std.specs.Prelude.{◌≡◌, ℕ, List}
use Rattle.std.specs.List.{slice_range}
use Rattle.jx_run.specs.Front.{front_of}
use Rattle.jx_run.specs.declared.texts.settings.Front.TheVariants.{Skip}
use Rattle.jx_run.specs.declared.texts.settings.Settings.{Settings}
use Rattle.jx_sentence.specs.Standing.{StandsBehind}
use Rattle.jx_sentence.specs.declared.standing.Standing.{Standing}

-- the reading of the bytes after an ignored byte order mark is here at an offset
pub record StandsIn (settings : Settings) (bytes : List ℕ) (at : ℕ) (s : Standing) : Type 0 where
  pub from : ℕ
  pub begins : front_of settings.mark bytes ≡ Skip from
  pub stands : StandsBehind settings.depth from (slice_range bytes from at) s
