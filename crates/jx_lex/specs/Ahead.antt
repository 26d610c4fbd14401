-- Bytes of a text that were tested for UTF-8.
use Rattle.std.specs.Prelude.{ℕ, ◌≤◌, ◌<◌, List, length, slice_range, IsUtf8}
use Rattle.jx_lex.specs.declared.scanner.ahead.Ahead.{Ahead}

-- the tested bytes lie in the text, and are well-formed UTF-8
pub record IsSound (text : List ℕ) (ahead : Ahead) : Type 0 where
  pub order : ahead.from ≤ ahead.to
  pub within : ahead.to ≤ length text
  pub utf8 : ahead.from < ahead.to → IsUtf8 (slice_range text ahead.from ahead.to)
