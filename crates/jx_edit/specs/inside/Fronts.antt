-- A byte order mark that stands in front of a document's text.
use Rattle.std.specs.Prelude.{◌≡◌, ◌≤◌, ◌<◌, ◌^◌, ℕ, List, ◌++◌, length, take}
use Rattle.jx_run.specs.declared.texts.settings.Front.{Front}
use Rattle.jx_run.specs.declared.texts.settings.Front.TheVariants as seen
use Rattle.jx_run.specs.declared.texts.settings.Settings.{Settings}
use Rattle.jx_run.specs.declared.texts.settings.NameRule.TheVariants.{Any}
use Rattle.jx_run.specs.Front.{front_of}
use Rattle.jx_run.specs.Settings.{byte_order_mark}
use Rattle.jx_edit.specs.inside.Chunks.{ChunkedValue}

-- how many bytes are skipped
abbrev pub skipped : Front → ℕ
skipped (seen.Skip n) = n
skipped (seen.Refused refusal) = 0

-- the text with what is skipped in front of it
abbrev pub with_front : Front → List ℕ → List ℕ
with_front front rest = take (skipped front) byte_order_mark ++ rest

-- the invariant of a document
pub record IsFronted (settings : Settings) (front : Front) (rest : ChunkedValue) : Type 0 where
  pub depth : rest.depth ≡ settings.depth
  pub names : settings.names ≡ Any
  pub seen : front ≡ front_of settings.mark (with_front front rest.bytes)
  pub short : skipped front ≤ 3
  pub fits : length (with_front front rest.bytes) < 2 ^ 63
