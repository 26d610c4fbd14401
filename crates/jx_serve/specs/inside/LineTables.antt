-- Whole lines of a document that were read, in blocks, and the bytes between them that are to be read.
use Rattle.std.specs.Prelude.{◌≡◌, ◌≤◌, ◌<◌, ◌+◌, ℕ, List, [], ◌∷◌, ◌++◌, length, slice_range}
use Rattle.std.specs.List.{sum_by}
use Rattle.jx_ndjson.specs.Reading.{HasTold, LineReaderValue}
use Rattle.jx_ndjson.specs.Tally.{bad_of}
use Rattle.jx_ndjson.specs.WholeLines.{AreWhole, WholeLinesValue}
use Rattle.jx_ndjson.specs.declared.judged_line.JudgedLine.{JudgedLine}
use Rattle.jx_run.specs.declared.texts.settings.Settings.{Settings}
use Rattle.jx_serve.specs.declared.line_table.LineTable.{LineTable}

-- the bytes are whole lines, and these are their verdicts
abbrev pub AreLinesOf : ℕ → List ℕ → WholeLinesValue → Type 0
AreLinesOf limit bytes block = (answers : List JudgedLine) × AreWhole limit bytes answers block

-- the bytes are those of blocks, one after another
abbrev pub AreBlocks : ℕ → List ℕ → List WholeLinesValue → Type 0
AreBlocks limit bytes [] = bytes ≡ []
AreBlocks limit bytes (block ∷ blocks) = (xs : List ℕ) × (ys : List ℕ) × (bytes ≡ xs ++ ys) × AreLinesOf limit xs block × AreBlocks limit ys blocks

-- how many bytes blocks have
abbrev pub len_of : List WholeLinesValue → ℕ
len_of blocks = sum_by (λ (block : WholeLinesValue). block.len) blocks

-- the bytes begin with blocks, and so many of them stand from other blocks on; what is between these is not read
pub record AreLaid (limit : ℕ) (bytes : List ℕ) (front back : List WholeLinesValue) (behind : ℕ) : Type 0 where
  pub head : List ℕ
  pub gap : List ℕ
  pub rest : List ℕ
  pub tail : List ℕ
  pub whole : bytes ≡ head ++ (gap ++ (rest ++ tail))
  pub are_in_front : AreBlocks limit head front
  pub are_behind : AreBlocks limit rest back
  pub behind_is : behind ≡ length rest + length tail

-- so its blocks stand in the bytes
abbrev pub IsLaid : ℕ → List ℕ → LineTable → Type 0
IsLaid limit bytes table = AreLaid limit bytes table.front.items table.back.items table.behind

-- and it knows how many bytes those in front have
pub record IsTable (limit : ℕ) (bytes : List ℕ) (table : LineTable) : Type 0 where
  pub laid : IsLaid limit bytes table
  pub before_is : table.before ≡ len_of table.front.items

-- a block stands in bytes from an offset on, before another one
pub record IsBlockAt (limit : ℕ) (bytes : List ℕ) (from to : ℕ) (block : WholeLinesValue) : Type 0 where
  pub some : 0 < block.len
  pub within : from + block.len ≤ to
  pub are_lines : AreLinesOf limit (slice_range bytes from (from + block.len)) block

-- a reader has read these bytes, and these are the lines among them that are not valid JSON
pub record HasBad (settings : Settings) (input : List ℕ) (bad : List JudgedLine) (reader : LineReaderValue) : Type 0 where
  pub answers : List JudgedLine
  pub told : HasTold settings input answers reader
  pub bad_are : bad ≡ bad_of answers
