-- The names that are gathered of a chunk.
use Rattle.std.specs.Prelude.{◌≡◌, ℕ, ◌<◌, ◌≤◌, List, ◌++◌, length, drop, map, Option, Some, true}
use Rattle.std.specs.List.{AllByRecursion}
use Rattle.jx_lex.specs.declared.alphabet.mark.Mark.{Mark}
use Rattle.jx_reduce.specs.KnownStack.{IsFault}
use Rattle.jx_reduce.specs.Read.{Reading, read}
use Rattle.jx_run.specs.Telling.{moved_ends, moved_marks}
use Rattle.jx_file_index.specs.declared.sum.Sum.{Sum}
use Rattle.jx_file_index.specs.Sums.{sum_of}
use Rattle.jx_file_index.specs.NameHash.{name_hash}
use Rattle.jx_file_index.specs.Names.{NamesOf}
use Rattle.jx_file_build.specs.declared.standing.ToldChunk.{ToldChunk}
use Rattle.jx_file_build.specs.inside.OpenKinds.{Kinds, Mirrors, is_last, kinds}

-- the containers and the name that are open before a chunk, how many bytes stand there, and the bytes of the chunk
pub record Start : Type 0 where
  pub kinds : Kinds
  pub begun : Option Mark
  pub name : List ℕ
  pub base : ℕ
  pub chunk : List ℕ

-- of a name that has begun in these bytes and not ended, the bytes so far are kept
abbrev pub HoldsName : List ℕ → Kinds → Option Mark → List ℕ → Type 0
HoldsName bytes kinds begun name = (m : Mark) → begun ≡ Some m → is_last kinds.name ≡ true → name ≡ drop m.at bytes

-- a reading goes past these token starts, and the ends lie in so many bytes
pub record GoesPast (depth : ℕ) (reading : Reading) (marks : List Mark) (ends : List ℕ) (count : ℕ) : Type 0 where
  pub going : IsFault (read depth marks reading) → ⊥
  pub within : AllByRecursion (λ end. end ≤ count) ends

-- by these token starts and ends after some bytes; of a name that has begun there the bytes before the chunk are kept
pub record IsGatheredOf (before : List ℕ) (start : Start) (depth : ℕ) (reading : Reading) (marks : List Mark) (ends : List ℕ) (kinds : Kinds) (begun : Option Mark) (name hashes : List ℕ) : Type 0 where
  pub names : List (List ℕ)
  pub are : NamesOf (before ++ start.chunk) depth reading start.begun marks ends begun names
  pub hashes_are : hashes ≡ map name_hash names
  pub name_is : (m : Mark) → begun ≡ Some m → is_last kinds.name ≡ true → m.at < length before → name ≡ drop m.at before

-- after any bytes before the chunk, and any reading of them that goes on, these token starts and ends of it were taken
pub record HasGathered (start : Start) (marks : List Mark) (ends : List ℕ) (own : List ℕ) (base : ℕ) (kinds : Kinds) (sum : Sum) (begun : Option Mark) (name hashes : List ℕ) : Type 0 where
  pub chunk_is : own ≡ start.chunk
  pub base_is : base ≡ start.base
  pub sum_is : sum ≡ sum_of (moved_marks base marks)
  pub mirrors : (depth : ℕ) (reading : Reading) → Mirrors reading start.kinds → Mirrors (read depth (moved_marks base marks) reading) kinds
  pub gathered : (depth : ℕ) (reading : Reading) → Mirrors reading start.kinds → GoesPast depth reading (moved_marks base marks) ends (length own)
      → (before : List ℕ) → length before ≡ start.base → HoldsName before start.kinds start.begun start.name
      → IsGatheredOf before start depth reading (moved_marks base marks) (moved_ends base ends) kinds begun name hashes

-- ---- the whole chunk

pub record IsToldOf (before : List ℕ) (start : Start) (depth : ℕ) (reading : Reading) (marks : List Mark) (ends : List ℕ) (told : ToldChunk) : Type 0 where
  pub names : List (List ℕ)
  pub are : NamesOf (before ++ start.chunk) depth reading start.begun marks ends told.standing.begun names
  pub hashes_are : told.hashes.items ≡ map name_hash names
  pub name_is : HoldsName (before ++ start.chunk) (kinds told.standing.kinds) told.standing.begun told.standing.name.items

pub record IsTold (start : Start) (marks : List Mark) (ends : List ℕ) (told : ToldChunk) : Type 0 where
  pub mirrors : (depth : ℕ) (reading : Reading) → Mirrors reading start.kinds → Mirrors (read depth (moved_marks start.base marks) reading) (kinds told.standing.kinds)
  pub told_of : (depth : ℕ) (reading : Reading) → Mirrors reading start.kinds → GoesPast depth reading (moved_marks start.base marks) ends (length start.chunk)
      → (before : List ℕ) → length before ≡ start.base → HoldsName before start.kinds start.begun start.name
      → IsToldOf before start depth reading (moved_marks start.base marks) (moved_ends start.base ends) told
