-- The names of each chunk of a text.
use Rattle.std.specs.Prelude.{ℕ, suc, ◌*◌, List, [], ◌∷◌, ◌++◌, take, Option, None}
use Rattle.jx_lex.specs.declared.alphabet.mark.Mark.{Mark}
use Rattle.jx_lex.specs.Lex.{Track}
use Rattle.jx_reduce.specs.declared.table.expect.Expect.TheVariants.{Value}
use Rattle.jx_reduce.specs.Read.{Reading, went, read}
use Rattle.jx_run.specs.declared.texts.settings.Settings.{Settings}
use Rattle.jx_run.specs.Telling.{moved_ends, moved_marks, tokens_by, track_of}
use Rattle.jx_file_index.specs.Chunks.{before, part}
use Rattle.jx_file_index.specs.Names.{NamesOf}

-- the reading after so many of the first bytes of a text
abbrev pub reading_before : Settings → List ℕ → ℕ → Reading
reading_before settings text count = read settings.depth (tokens_by settings.mark (take count text)).marks (went Value [])

-- the tokens of a chunk, read after all bytes before it
abbrev pub track_at : Settings → ℕ → List ℕ → ℕ → Track
track_at settings size text n = track_of (before settings text (n * size)) (part size text n)

-- the names of the first chunks of a text, so many, and which token has begun and not ended after them
pub data AreNamed (settings : Settings) (size : ℕ) (text : List ℕ) : ℕ → Option Mark → List (List (List ℕ)) → Type 0 where
  none : AreNamed settings size text 0 None []
  more : {n : ℕ} {begun later : Option Mark} {names : List (List (List ℕ))} {own : List (List ℕ)} → AreNamed settings size text n begun names
      → NamesOf (take (suc n * size) text) settings.depth (reading_before settings text (n * size)) begun
      (moved_marks (n * size) (track_at settings size text n).marks) (moved_ends (n * size) (track_at settings size text n).ends) later own
      → AreNamed settings size text (suc n) later (names ++ own ∷ [])
