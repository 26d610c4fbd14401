-- The bytes of an index of lines. Each number stands low byte first.
use Rattle.std.specs.Prelude.{ℕ, List, [], ◌∷◌, ◌++◌}
use Rattle.std.specs.Int.{w32, w64, to_le_bytes}
use Rattle.std.specs.List.{flat_map}
use Rattle.jx_file_index.specs.Digest.{xxh64}
use Rattle.jx_file_lines.specs.declared.line_index.LineEntry.{LineEntry}
use Rattle.jx_file_lines.specs.declared.line_index.LineIndex.{LineIndex}

-- 89, "jxlin", a line feed and the version 1
abbrev pub lines_tag : List ℕ
lines_tag = 0x89 ∷ 0x6A ∷ 0x78 ∷ 0x6C ∷ 0x69 ∷ 0x6E ∷ 0x0A ∷ 0x01 ∷ []

-- an entry: 16 bytes
abbrev pub spelt_entry : LineEntry → List ℕ
spelt_entry e = to_le_bytes w64 e.feeds ++ to_le_bytes w64 e.digest

-- the head of 24 bytes, the last four of nothing yet, and the entries of the chunks
abbrev pub spelt_front : LineIndex → List ℕ
spelt_front i =
    lines_tag
    ++ (to_le_bytes w64 i.size
    ++ (to_le_bytes w32 i.chunk
    ++ (to_le_bytes w32 0
    ++ flat_map spelt_entry i.entries.items)))

-- and after them the digest of all these bytes
abbrev pub spelt_lines : LineIndex → List ℕ
spelt_lines i = spelt_front i ++ to_le_bytes w64 (xxh64 (spelt_front i))
