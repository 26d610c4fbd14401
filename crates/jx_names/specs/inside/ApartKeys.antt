-- Keys of names that are apart, and keys in a table.
use Rattle.std.specs.Prelude.{◌≡◌, ℕ, ◌<◌, ◌≤◌, ◌/◌, ◌^◌, List, get_or, length, slice_index}
use Rattle.jx_names.specs.declared.name_bytes.Name.{Name}

abbrev pub key_of : Name → ℕ
key_of name = name.key

-- the key at a place is another one than each before it
abbrev pub IsNew : List ℕ → ℕ → Type 0
IsNew keys at = (k : ℕ) → k < at → get_or keys k 0 ≡ get_or keys at 0 → ⊥

-- a key stands at the place of its highest bits, or after it where no place between is free; zero is a free place
pub record StandsIn (table : List ℕ) (shift key : ℕ) : Type 0 where
  pub place : ℕ
  pub low : key / 2 ^ shift ≤ place
  pub within : place < length table
  pub is : slice_index table place ≡ key
  pub some : key ≡ 0 → ⊥
  pub before : (k : ℕ) → key / 2 ^ shift ≤ k → k < place → slice_index table k ≡ 0 → ⊥
