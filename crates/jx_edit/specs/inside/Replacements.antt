-- The bytes that an edit puts into a text.
use Rattle.std.specs.Prelude.{◌++◌, ℕ, List}
use Rattle.jx_edit.specs.declared.chunking.replacement.Replacement.{Replacement}

-- the bytes, one after another
abbrev pub all_of : Replacement → List ℕ
all_of r = (r.before.now ++ r.bytes.now) ++ r.behind.now
