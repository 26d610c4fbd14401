-- The reader and writer that a report is lent, where their bytes are known.
use Rattle.std.specs.Prelude.{ℕ, ◌<◌, ◌==◌, List, length, take, Bool, true, Result, Ok, Err, Option, nat_lt, ◌&&◌}
use Rattle.std.specs.Io.KnownBytes.{Consumes, IsAtEnd, Appends}

-- a call that writes fails, or takes none of bytes that are not empty
abbrev pub is_write_failure : {E : Type 0} → Result ℕ E → List ℕ → Bool
is_write_failure (Ok count) bytes = (count == 0) && nat_lt 0 (length bytes)
is_write_failure (Err error) bytes = true

-- the text is all that the reader had, and the reader is at its end
abbrev pub ReadsToEnd : Option (List ℕ) → Option (List ℕ) → List ℕ → Type 0
ReadsToEnd old new text = Consumes old new text × IsAtEnd new

-- the writer got a beginning of the bytes, and not all
abbrev pub AppendsBeginning : Option (List ℕ) → Option (List ℕ) → List ℕ → Type 0
AppendsBeginning old new bytes = (n : ℕ) × (n < length bytes) × Appends old new (take n bytes)
