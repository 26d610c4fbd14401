-- The chunks of which a document is made.
use Rattle.std.specs.Prelude.{◌≡◌, ◌≤◌, ◌<◌, ◌+◌, ℕ, Bool, false, List, [], ◌∷◌, ◌++◌, All, length, take, drop, slice_range}
use Rattle.std.specs.List.{flat_map}
use Rattle.jx_edit.specs.Document.{edited}
use Rattle.jx_edit.specs.inside.Places.{PlaceValue}
use Rattle.jx_run.specs.OutcomeRun.{OutcomeRunValue, IsOutcomeRun}

pub record ChunkValue : Type 0 where
  pub depth : ℕ
  pub bytes : List ℕ
  -- where following it led when it was last followed, and whether it leads there from where the chunk before it leads
  pub to : PlaceValue
  pub linked : Bool

-- a text in chunks
pub record ChunkedValue : Type 0 where
  pub depth : ℕ
  pub bytes : List ℕ

abbrev pub bytes_of : ChunkValue → List ℕ
bytes_of c = c.bytes

-- the bytes of chunks, one after another
abbrev pub text_of : List ChunkValue → List ℕ
text_of chunks = flat_map bytes_of chunks

-- it is the run over exactly these bytes, as a text of their own
abbrev pub IsRunOver : ℕ → List ℕ → OutcomeRunValue → Type 0
IsRunOver depth bytes run = (run.start ≡ 0) × (run.depth ≡ depth) × IsOutcomeRun bytes run

-- it was read with this depth, and nothing is known of where it leads
pub record IsFresh (depth : ℕ) (c : ChunkValue) : Type 0 where
  pub depth_is : c.depth ≡ depth
  pub open_ended : c.linked ≡ false

abbrev pub AreFresh : ℕ → List ChunkValue → Type 0
AreFresh depth chunks = All (IsFresh depth) chunks

-- a place lies in the chunk, or in none, that follows so many chunks, which have so many bytes; a border belongs to the chunk before it
pub record IsSeam (chunks : List ChunkValue) (at before bytes here : ℕ) : Type 0 where
  pub within : before + here ≤ length chunks
  pub long : bytes ≡ length (text_of (take before chunks))
  pub behind : bytes ≤ at
  pub tight : 0 < before → bytes < at
  pub reach : at ≤ bytes + length (text_of (slice_range chunks before (before + here)))
  pub few : here ≤ 1

-- the bytes up to a place, after so many chunks, which have so many bytes
pub record IsFront (chunks : List ChunkValue) (at before offset : ℕ) (bytes : List ℕ) : Type 0 where
  pub within : before ≤ length chunks
  pub long : offset ≡ length (text_of (take before chunks))
  pub tight : 0 < before → offset < at
  pub text : take at (text_of chunks) ≡ text_of (take before chunks) ++ bytes

-- the bytes from a place up to where so many chunks end
pub record IsBack (chunks : List ChunkValue) (at before : ℕ) (bytes : List ℕ) : Type 0 where
  pub within : before ≤ length chunks
  pub text : drop at (text_of chunks) ≡ bytes ++ text_of (drop before chunks)

-- its link is given up
abbrev pub open_ended : ChunkValue → ChunkValue
open_ended c = record { depth = c.depth; bytes = c.bytes; to = c.to; linked = false }

-- that of the first one
abbrev pub loosened : List ChunkValue → List ChunkValue
loosened [] = []
loosened (c ∷ cs) = open_ended c ∷ cs

-- the chunks `made` in the place of those from `first` up to `last`; what follows them may lead elsewhere
abbrev pub replaced : ℕ → ℕ → List ChunkValue → List ChunkValue → List ChunkValue
replaced first last made chunks = take first chunks ++ made ++ loosened (drop last chunks)

-- with them the text is the edited one
pub record IsMade (start end : ℕ) (replacement : List ℕ) (chunks : List ChunkValue) (first last : ℕ) (made : List ChunkValue) : Type 0 where
  pub order : first ≤ last
  pub within : last ≤ length chunks
  pub text : text_of (replaced first last made chunks) ≡ edited start end replacement (text_of chunks)
