-- The compact form of a text in a buffer of the caller's.
use Rattle.std.specs.Prelude.{◌≡◌, ℕ, ◌≤◌, Bool, ◌&&◌, ◌==◌, List, ◌++◌, drop, if◌then◌else◌, length, slice_index}
use Rattle.jx_run.specs.declared.texts.settings.FrontMark.{FrontMark}
use Rattle.jx_run.specs.declared.texts.settings.FrontMark.TheVariants.{Refused, Ignored}
use Rattle.jx_run.specs.declared.texts.settings.Settings.{Settings}
use Rattle.jx_compact.specs.Compact.{compact}

abbrev pub begins_with_mark : List ℕ → Bool
begins_with_mark bytes = slice_index bytes 0 == 0xef && slice_index bytes 1 == 0xbb && slice_index bytes 2 == 0xbf

-- the bytes after a byte order mark, where one is ignored
abbrev pub behind_mark : FrontMark → List ℕ → List ℕ
behind_mark Refused bytes = bytes
behind_mark Ignored bytes = if begins_with_mark bytes then drop 3 bytes else bytes

-- the compact form of a text by settings: an ignored byte order mark is left out
abbrev pub compact_by : Settings → List ℕ → List ℕ
compact_by settings bytes = compact (behind_mark settings.mark bytes)

-- it is at the front of the buffer, and the rest of the buffer is as it was
pub record IsPlaced (form old new : List ℕ) (size : ℕ) : Type 0 where
  pub size_is : size ≡ length form
  pub fits : size ≤ length old
  pub placed : new ≡ form ++ drop size old
