-- Where a reading stands in the text of a document.
use Rattle.std.specs.Prelude.{◌≡◌, ℕ, List, reverse}
use Rattle.std.specs.List.{slice_range}
use Rattle.jx_run.specs.Front.{front_of}
use Rattle.jx_run.specs.Reading.{read_text, went}
use Rattle.jx_run.specs.declared.texts.settings.Front.TheVariants.{Skip}
use Rattle.jx_run.specs.declared.texts.settings.Settings.{Settings}
use Rattle.jx_edit.specs.declared.reading.standing.Stand.{Stand}

-- the bytes after an ignored byte order mark, up to an offset, were read without a fault, and the reading is here
pub record StandsBefore (settings : Settings) (bytes : List ℕ) (at : ℕ) (s : Stand) : Type 0 where
  pub from : ℕ
  pub begins : front_of settings.mark bytes ≡ Skip from
  pub reading : read_text settings.depth from (slice_range bytes from at) ≡ went s.state s.expect (reverse s.holders.items)
