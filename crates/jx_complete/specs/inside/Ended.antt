-- Bytes that begin a text, ended.
use Rattle.std.specs.Prelude.{◌≡◌, ℕ, ◌<◌, List, ◌++◌, length, take}
use Rattle.jx_run.specs.Settings.{byte_order_mark, IsDocumentBy}
use Rattle.jx_run.specs.Tree.{Tree}
use Rattle.jx_run.specs.declared.texts.settings.Settings.{Settings}

-- a text that begins with them
pub record IsEnded (settings : Settings) (bytes text : List ℕ) : Type 0 where
  pub more : List ℕ
  pub whole : text ≡ bytes ++ more
  pub tree : Tree
  pub is_text : IsDocumentBy settings 0 text tree

-- they are fewer bytes than a byte order mark has, and begin one
pub record IsEndedMark (bytes : List ℕ) : Type 0 where
  pub few : length bytes < 3
  pub begins : bytes ≡ take (length bytes) byte_order_mark
