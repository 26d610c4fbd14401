-- Sums of chunks that stand together, 64 in a group.
use Rattle.std.specs.Prelude.{◌≡◌, ◌≤◌, ◌<◌, ◌+◌, ◌*◌, ℕ, zero, suc, Bool, true, List, [], ◌∷◌, IfSome, length, get_or, take, drop}
use Rattle.jx_edit.specs.inside.Chunks.{ChunkValue, text_of}
use Rattle.jx_edit.specs.inside.Moves.{AreMoves}
use Rattle.jx_edit.specs.declared.chunking.sums.Sum.{Sum}

-- how many bytes so many chunks have
abbrev pub size_before : List ChunkValue → ℕ → ℕ
size_before cs k = length (text_of (take k cs))

-- whether the chunk after so many is linked; it is not where there is no such chunk
abbrev pub is_linked_at : List ChunkValue → ℕ → Bool
is_linked_at [] k = true
is_linked_at (c ∷ cs) zero = c.linked
is_linked_at (c ∷ cs) (suc k) = is_linked_at cs k

-- each chunk after so many, up to where so many end, is linked
abbrev pub AreLinkedFrom : List ChunkValue → ℕ → ℕ → Type 0
AreLinkedFrom cs i j = (k : ℕ) → i ≤ k → k < j → is_linked_at cs k ≡ true

-- the same of those that are among the first so many
abbrev pub AreLinkedBelow : List ChunkValue → ℕ → ℕ → ℕ → Type 0
AreLinkedBelow cs count i j = (k : ℕ) → i ≤ k → k < j → k < count → is_linked_at cs k ≡ true

-- the bytes of the chunks of the group after so many groups
abbrev pub text_at : List ChunkValue → ℕ → List ℕ
text_at cs g = text_of (take 64 (drop (g * 64) cs))

-- of these chunks
pub record IsSum (cs : List ChunkValue) (g : ℕ) (s : Sum) : Type 0 where
  pub bytes : s.bytes ≡ length (text_at cs g)
  pub linked : s.linked ≡ true → AreLinkedFrom cs (g * 64) ((g + 1) * 64)
  pub moves : IfSome s.moves (AreMoves (text_at cs g))

-- one for each group, of which those from `first` up to `end` may be wrong
pub record AreSumsBut (first end : ℕ) (cs : List ChunkValue) (ss : List Sum) : Type 0 where
  pub covers : length cs ≤ length ss * 64
  pub before : (g : ℕ) (s : Sum) → g < length ss → g < first → IsSum cs g (get_or ss g s)
  pub behind : (g : ℕ) (s : Sum) → g < length ss → end ≤ g → IsSum cs g (get_or ss g s)

-- one for each group
pub record AreSums (cs : List ChunkValue) (ss : List Sum) : Type 0 where
  pub covers : length cs ≤ length ss * 64
  pub each : (g : ℕ) (s : Sum) → g < length ss → IsSum cs g (get_or ss g s)

-- a border between chunks, after so many of them, which have so many bytes; the place lies after it, or it is the first one
pub record IsBorder (cs : List ChunkValue) (at before bytes : ℕ) : Type 0 where
  pub within : before ≤ length cs
  pub long : bytes ≡ size_before cs before
  pub tight : 0 < before → bytes < at
