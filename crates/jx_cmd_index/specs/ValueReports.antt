-- A report on values by a saved index: its output and its messages, where the bytes of the files are known.
use Rattle.std.specs.Prelude.{◌≡◌, ℕ, List, Bool, false, Option, Some, map, string_bytes, take}
use Rattle.std.specs.Io.KnownBytes.{Appends}
use Rattle.jx_task.specs.declared.values_task.ValuesTask.{ValuesTask}
use Rattle.jx_ends.specs.declared.exit.Exit.{Exit}
use Rattle.jx_ends.specs.Ends.{AppendsBeginning}
use Rattle.jx_values.specs.declared.form.Form.{Form}
use Rattle.jx_values.specs.Values.{ValuesOutput}
use Rattle.jx_cmd_index.specs.SavedBytes.{IsSavedOf, TellsApart}

-- where the index is that of a text, and the file has no other chunk with the digest of one of the text, this is what
-- `get` writes and reports of the text, which it reads by the settings of the index
abbrev pub AreValues : Form → List (List ℕ) → Option (List ℕ) → Option (List ℕ) → List ℕ → List ℕ → Exit → Type 0
AreValues form pointers saved content output tells exit =
    (task : ValuesTask) (chunk : ℕ) (text bytes file : List ℕ) → map string_bytes task.pointers.items ≡ pointers → IsSavedOf task.settings chunk text bytes
    → saved ≡ Some bytes → content ≡ Some file → TellsApart chunk text file
    → ValuesOutput form task text output tells exit

-- all of it was written, and the report was written unless reporting failed
pub record WritesValues (form : Form) (pointers : List (List ℕ)) (saved content written grown : Option (List ℕ)) (is_lost : Bool) (told retold : Option (List ℕ)) (exit : Exit) : Type 0 where
  pub output : List ℕ
  pub tells : List ℕ
  pub are_values : AreValues form pointers saved content output tells exit
  pub wrote : Appends written grown output
  pub says : is_lost ≡ false → Appends told retold tells

-- the values of the first of the pointers were written, so many
pub record WritesFirst (form : Form) (pointers : List (List ℕ)) (saved content written grown : Option (List ℕ)) : Type 0 where
  pub count : ℕ
  pub output : List ℕ
  pub tells : List ℕ
  pub exit : Exit
  pub are_values : AreValues form (take count pointers) saved content output tells exit
  pub wrote : Appends written grown output

-- a beginning of that was written, and not all
pub record WritesFirstInPart (form : Form) (pointers : List (List ℕ)) (saved content written grown : Option (List ℕ)) : Type 0 where
  pub count : ℕ
  pub output : List ℕ
  pub tells : List ℕ
  pub exit : Exit
  pub are_values : AreValues form (take count pointers) saved content output tells exit
  pub wrote : AppendsBeginning written grown output
