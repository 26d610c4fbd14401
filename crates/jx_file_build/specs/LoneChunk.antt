-- A chunk that was read without the bytes before it.
use Rattle.std.specs.Prelude.{◌≡◌, ℕ, List, ◌++◌, length}
use Rattle.jx_lex.specs.declared.alphabet.state.LexState.{LexState}
use Rattle.jx_lex.specs.Lex.{lex}
use Rattle.jx_run.specs.OutcomeRun.{IsOutcomeRun, OutcomeRunValue}
use Rattle.jx_file_index.specs.Digest.{xxh64}
use Rattle.jx_file_build.specs.declared.chunk_sum.ChunkSum.{ChunkSum}
use Rattle.jx_file_build.specs.declared.lone_chunk.LoneChunk.TheInside.{Inside}
use Rattle.jx_file_build.specs.inside.Tallied.{Tells}

pub record LoneValue : Type 0 where
  pub run : OutcomeRunValue
  -- its first bytes, and the state from which those after them were summed
  pub head : List ℕ
  pub state : LexState
  pub rest : ChunkSum
  pub digest : ℕ

abbrev pub lone_of : Inside → LoneValue
lone_of a = record { run = a.run; head = a.head.items; state = a.state; rest = a.rest; digest = a.digest }

-- these are its bytes, which were read within this depth
pub record IsReadAlone (depth : ℕ) (bytes : List ℕ) (c : LoneValue) : Type 0 where
  pub depth_is : c.run.depth ≡ depth
  pub start : c.run.start ≡ 0
  pub run : IsOutcomeRun bytes c.run
  pub behind : List ℕ
  pub bytes_are : bytes ≡ c.head ++ behind
  pub rest : Tells (lex c.state (length c.head) behind).marks (lex c.state (length c.head) behind).ends c.rest.sum c.rest.begins c.rest.ends
  pub digest : c.digest ≡ xxh64 bytes

-- it has read some bytes
pub record HasItsBytes (c : LoneValue) : Type 0 where
  pub depth : ℕ
  pub bytes : List ℕ
  pub of : IsReadAlone depth bytes c
