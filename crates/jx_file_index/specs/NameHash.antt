-- The hash that is kept of a name.
use Rattle.std.specs.Prelude.{ℕ, ◌%◌, ◌^◌, List}
use Rattle.std.specs.Int.{w32, to_le_bytes}
use Rattle.std.specs.List.{flat_map}
use Rattle.jx_file_index.specs.Digest.{xxh64}

-- the lowest 26 bits of the digest of its UTF-16 units, four bytes each
abbrev pub name_hash : List ℕ → ℕ
name_hash units = xxh64 (flat_map (to_le_bytes w32) units) % 2 ^ 26
