-- Chunks that are made of bytes as these come.
use Rattle.std.specs.Prelude.{◌≤◌, ◌++◌, ℕ, List, length}
use Rattle.jx_edit.specs.declared.chunking.filled.Filled.{Filled}
use Rattle.jx_edit.specs.inside.Chunks.{text_of, AreFresh}

-- the bytes of the chunks, and those with which the next one has begun
abbrev pub text_in : Filled → List ℕ
text_in f = text_of f.chunks.items ++ f.begun.items

-- the next one has begun with no more bytes than fill it
pub record IsFilled (depth size : ℕ) (f : Filled) : Type 0 where
  pub fresh : AreFresh depth f.chunks.items
  pub short : length f.begun.items ≤ size
