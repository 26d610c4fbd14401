-- The chunks of a text, and what is kept of each.
use Rattle.std.specs.Prelude.{ℕ, zero, suc, ◌+◌, ◌*◌, ◌<◌, ◌≤◌, List, [], ◌∷◌, ◌++◌, Bool, true, false, IsTrue, take, drop}
use Rattle.std.specs.Int.{is_power_of_two}
use Rattle.jx_run.specs.declared.texts.settings.Settings.{Settings}
use Rattle.jx_run.specs.Reader.{Outcome, read_by, state_behind, expect_behind}
use Rattle.jx_run.specs.Telling.{track_of}
use Rattle.jx_file_index.specs.declared.entry.Entry.{Entry}
use Rattle.jx_file_index.specs.Digest.{xxh64}
use Rattle.jx_file_index.specs.Sums.{sum_of}

abbrev pub has_some : {A : Type 0} → List A → Bool
has_some [] = false
has_some (x ∷ xs) = true

-- ---- parts of a list, all of one size but for the last, which may be shorter

-- the part at a place
abbrev pub part : {A : Type 0} → ℕ → List A → ℕ → List A
part size xs n = take size (drop (n * size) xs)

-- so many there are of a list that is so long
pub record IsCount (size long n : ℕ) : Type 0 where
  pub enough : long ≤ n * size
  pub fewest : n * size < long + size

-- ---- a chunk

-- a power of two, from 64 to 1,048,576
abbrev pub IsChunkSize : ℕ → Type 0
IsChunkSize n = (64 ≤ n) × (n ≤ 1048576) × IsTrue (is_power_of_two n)

-- the entry of a chunk, by what the bytes before it lead to: its tokens are those that are read from there
abbrev pub entry_behind : Outcome → List ℕ → Entry
entry_behind before chunk = record {
  state = state_behind before;
  expect = expect_behind before;
  sum = sum_of (track_of before chunk).marks;
  begins = has_some (track_of before chunk).marks;
  ends = has_some (track_of before chunk).ends;
  digest = xxh64 chunk;
}

-- the outcome of the first bytes of a text, so many
abbrev pub before : Settings → List ℕ → ℕ → Outcome
before settings text count = read_by settings.mark settings.depth 0 (take count text)

-- the entries of the first chunks of a text, so many
unfoldable pub entries_of : Settings → ℕ → List ℕ → ℕ → List Entry
entries_of settings size text zero = []
entries_of settings size text (suc n) = entries_of settings size text n ++ entry_behind (before settings text (n * size)) (part size text n) ∷ []
