-- Bytes that wait to be written, in room that was taken for them beforehand.
use Rattle.std.specs.Prelude.{◌≡◌, ℕ, ◌+◌, ◌≤◌, List, ◌++◌, Option, Vec, vec_len, vec_capacity}
use Rattle.std.specs.declared.alloc.Global.{Global}
use Rattle.std.specs.Io.KnownBytes.{Appends}

-- there is room for so many bytes more
abbrev pub HasRoom : Vec ℕ Global → ℕ → Type 0
HasRoom waiting count = vec_len waiting + count ≤ vec_capacity waiting

-- at most so many bytes of the room were taken up
pub record TakesRoom (old new : Vec ℕ Global) (count : ℕ) : Type 0 where
  pub taken : vec_len new ≤ vec_len old + count
  pub kept : vec_capacity old ≤ vec_capacity new

-- the writer got a beginning of the bytes, and the rest of them waits
pub record IsPut (written grown : Option (List ℕ)) (waiting bytes : List ℕ) : Type 0 where
  pub front : List ℕ
  pub wrote : Appends written grown front
  pub whole : bytes ≡ front ++ waiting
