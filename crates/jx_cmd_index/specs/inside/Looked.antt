-- The result of a look-up by a saved index.
use Rattle.std.specs.Prelude.{◌≡◌, ℕ, List, Option, Some}
use Rattle.jx_run.specs.declared.texts.settings.Settings.{Settings}
use Rattle.jx_words.specs.declared.pointer_answer.PointerAnswer.{PointerAnswer}
use Rattle.jx_words.specs.Answers.{AreAnswersIn}
use Rattle.jx_file_index.specs.declared.index.Index.{Index}
use Rattle.jx_file_index.specs.Index.{IsIndexOf}
use Rattle.jx_cmd_index.specs.SavedBytes.{IsSavedOf, TellsApart}

-- where bytes are those of the index of a text, with tables of its names or without, this is its index
abbrev pub IsReadOf : Option (List ℕ) → Index → Type 0
IsReadOf saved index = (settings : Settings) (chunk : ℕ) (text bytes : List ℕ) → IsSavedOf settings chunk text bytes → saved ≡ Some bytes → IsIndexOf settings chunk text index

-- where the index is that of a text, and the file has no other chunk with the digest of one of the text, these are the answers
-- in the text
abbrev pub AreAnswersBySaved : List (List ℕ) → Option (List ℕ) → Option (List ℕ) → List PointerAnswer → Type 0
AreAnswersBySaved pointers saved content answers =
    (settings : Settings) (chunk : ℕ) (text bytes file : List ℕ) → IsSavedOf settings chunk text bytes → saved ≡ Some bytes → content ≡ Some file → TellsApart chunk text file
    → AreAnswersIn settings text pointers answers
