-- The bytes of an index. Each number stands low byte first.
use Rattle.std.specs.Prelude.{ℕ, List, [], ◌∷◌, ◌++◌, Bool, true, false}
use Rattle.std.specs.Int.{w16, w32, w64, to_le_bytes}
use Rattle.std.specs.List.{flat_map}
use Rattle.jx_lex.specs.Ordinal.{ordinal}
use Rattle.jx_reduce.specs.declared.table.expect.Expect.{Expect}
use Rattle.jx_reduce.specs.declared.table.expect.Expect.TheVariants as expect
use Rattle.jx_run.specs.declared.texts.settings.FrontMark.{FrontMark}
use Rattle.jx_run.specs.declared.texts.settings.FrontMark.TheVariants.{Refused, Ignored}
use Rattle.jx_run.specs.declared.texts.settings.NameRule.{NameRule}
use Rattle.jx_run.specs.declared.texts.settings.NameRule.TheVariants.{Any, Unique}
use Rattle.jx_file_index.specs.declared.entry.Entry.{Entry}
use Rattle.jx_file_index.specs.declared.index.Index.{Index}
use Rattle.jx_file_index.specs.Digest.{xxh64}

-- ---- an entry: 24 bytes

-- 1 where a token start begins, and 2 more where an end shows
abbrev pub flags : Bool → Bool → ℕ
flags false false = 0
flags true false = 1
flags false true = 2
flags true true = 3

-- the number of the tokens that may stand next
abbrev pub expect_number : Expect → ℕ
expect_number expect.Value = 0
expect_number expect.ArrayFirst = 1
expect_number expect.ObjectFirst = 2
expect_number expect.Name = 3
expect_number expect.Colon = 4
expect_number expect.After = 5

-- the choices that one byte each encodes, the last of nothing yet
abbrev pub spelt_choices : Entry → List ℕ
spelt_choices e = ordinal e.state ∷ expect_number e.expect ∷ flags e.begins e.ends ∷ 0 ∷ []

abbrev pub spelt_entry : Entry → List ℕ
spelt_entry e =
    to_le_bytes w16 e.sum.closed
    ++ (to_le_bytes w16 e.sum.opened
    ++ (spelt_choices e
    ++ (to_le_bytes w64 e.sum.commas
    ++ to_le_bytes w64 e.digest)))

-- ---- the head: 64 bytes

-- 89, "jxidx", a line feed and the version 1
abbrev pub tag : List ℕ
tag = 0x89 ∷ 0x6A ∷ 0x78 ∷ 0x69 ∷ 0x64 ∷ 0x78 ∷ 0x0A ∷ 0x01 ∷ []

-- 1 where a byte order mark is ignored, and 2 more where names are unique
abbrev pub front_flags : FrontMark → NameRule → ℕ
front_flags Refused Any = 0
front_flags Ignored Any = 1
front_flags Refused Unique = 2
front_flags Ignored Unique = 3

-- the bytes that its digest is of
abbrev pub spelt_front : Index → List ℕ
spelt_front i =
    tag
    ++ (to_le_bytes w64 i.size
    ++ (to_le_bytes w32 i.chunk
    ++ (to_le_bytes w32 i.settings.depth
    ++ (to_le_bytes w32 (front_flags i.settings.mark i.settings.names)
    ++ (to_le_bytes w32 0
    ++ spelt_entry i.top)))))

-- the head, and after it the entries of the levels below the top
abbrev pub spelt_index : Index → List ℕ
spelt_index i = (spelt_front i ++ to_le_bytes w64 (xxh64 (spelt_front i))) ++ flat_map spelt_entry i.entries.items
