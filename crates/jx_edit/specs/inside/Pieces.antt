-- The chunks in which the bytes of a document are handed out.
use Rattle.std.specs.Prelude.{ℕ, List, [], ◌∷◌, map}
use Rattle.jx_edit.specs.inside.Chunks.{ChunkValue, bytes_of}

-- a front, where it has bytes, and the bytes of each chunk after it
abbrev pub pieces : List ℕ → List ChunkValue → List (List ℕ)
pieces [] chunks = map bytes_of chunks
pieces (byte ∷ front) chunks = (byte ∷ front) ∷ map bytes_of chunks
