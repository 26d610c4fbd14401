-- Run files of the parts of a text, one after another.
use Rattle.std.specs.Prelude.{◌≡◌, ℕ, ◌+◌, ◌<◌, List, [], ◌∷◌, ◌++◌, length, Option, None, Some, ⊤}
use Rattle.std.specs.List.{concat}
use Rattle.jx_portion.specs.Fields.{RunFields}
use Rattle.jx_portion.specs.Portion.{IsRecord, IsSpelt}

-- where a part begins that is so many bytes after another, if the parts say where they begin
abbrev pub behind : Option ℕ → ℕ → Option ℕ
behind None count = None
behind (Some from) count = Some (from + count)

-- these are run files of these parts of a text, each of which begins where the one before it ends
abbrev pub AreRecords : ℕ → Option ℕ → List (List ℕ) → List (List ℕ) → Type 0
AreRecords depth from [] [] = ⊤
AreRecords depth from [] (one ∷ records) = ⊥
AreRecords depth from (part ∷ parts) [] = ⊥
AreRecords depth from (part ∷ parts) (one ∷ records) = IsRecord part from depth one × AreRecords depth (behind from (length part)) parts records

-- these encode runs of this depth, of so many bytes together, each of which begins where the one before it ends
pub data AreRuns (depth : ℕ) (from : Option ℕ) : List (List ℕ) → ℕ → Type 0 where
  no_run : AreRuns depth from [] 0
  one_more : {records : List (List ℕ)} {count : ℕ} → AreRuns depth from records count → (bytes : List ℕ) (fields : RunFields) → IsSpelt depth fields bytes
      → fields.from ≡ behind from count → AreRuns depth from (records ++ bytes ∷ []) (count + fields.end)

-- a stream of such runs, of one at least
pub record HoldsRuns (depth : ℕ) (from : Option ℕ) (count : ℕ) (stream : List ℕ) : Type 0 where
  pub records : List (List ℕ)
  pub whole : stream ≡ concat records
  pub some : 0 < length records
  pub runs : AreRuns depth from records count
