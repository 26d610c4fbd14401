-- Which index a text has.
use Rattle.std.specs.Prelude.{◌≡◌, ℕ, zero, suc, ◌<◌, List, [], ◌∷◌, ◌++◌, length, fold}
use Rattle.std.specs.List.{flat_map, list_any}
use Rattle.jx_lex.specs.declared.alphabet.state.LexState.{LexState}
use Rattle.jx_lex.specs.declared.alphabet.state.LexState.TheVariants.{Gap}
use Rattle.jx_reduce.specs.declared.table.expect.Expect.{Expect}
use Rattle.jx_reduce.specs.declared.table.expect.Expect.TheVariants.{Value}
use Rattle.jx_run.specs.declared.texts.settings.Settings.{Settings}
use Rattle.jx_run.specs.declared.texts.verdict.Verdict.TheVariants.{Accepted}
use Rattle.jx_run.specs.Settings.{JudgedBy}
use Rattle.jx_file_index.specs.declared.entry.Entry.{Entry}
use Rattle.jx_file_index.specs.declared.index.Index.{Index}
use Rattle.jx_file_index.specs.Chunks.{IsCount, entries_of, part}
use Rattle.jx_file_index.specs.Digest.{xxh64}
use Rattle.jx_file_index.specs.Spelling.{spelt_entry}
use Rattle.jx_file_index.specs.Sums.{joined, nothing}

-- ---- neighbours

-- the reading of neighbours begins where that of the first does
abbrev pub state_of : List Entry → LexState
state_of [] = Gap
state_of (e ∷ es) = e.state

abbrev pub expect_of : List Entry → Expect
expect_of [] = Value
expect_of (e ∷ es) = e.expect

-- the entry of neighbours: that of all their bytes, but with the digest of their entries as they are written
abbrev pub joined_entry : List Entry → Entry
joined_entry es = record {
  state = state_of es;
  expect = expect_of es;
  sum = fold (λ s e. joined s e.sum) nothing es;
  begins = list_any (λ e. e.begins) es;
  ends = list_any (λ e. e.ends) es;
  digest = xxh64 (flat_map spelt_entry es);
}

-- the entries of the first blocks of 64 neighbours, so many
unfoldable pub joined_of : List Entry → ℕ → List Entry
joined_of es zero = []
joined_of es (suc n) = joined_of es n ++ joined_entry (part 64 es n) ∷ []

-- the entries that are kept of a level and those above it: the one entry at the top, and in front of what is kept of
-- the level above a level that has several
pub data AreLevels : List Entry → List Entry → Entry → Type 0 where
  at_top : {e : Entry} → AreLevels (e ∷ []) [] e
  level : {es : List Entry} {n : ℕ} {rest : List Entry} {top : Entry} → 1 < length es → IsCount 64 (length es) n → AreLevels (joined_of es n) rest top → AreLevels es (es ++ rest) top

-- ---- a text

-- by settings it is a text, whatever names its objects have; the lowest level has an entry for each of its chunks
pub record IsIndexOf (settings : Settings) (chunk : ℕ) (text : List ℕ) (index : Index) : Type 0 where
  pub accepted : JudgedBy settings 0 text Accepted
  pub settings_are : index.settings ≡ settings
  pub chunk_is : index.chunk ≡ chunk
  pub size_is : index.size ≡ length text
  pub count : ℕ
  pub counted : IsCount chunk (length text) count
  pub levels : AreLevels (entries_of settings chunk text count) index.entries.items index.top
