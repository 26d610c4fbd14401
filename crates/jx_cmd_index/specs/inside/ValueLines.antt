-- The lines that are written and reported for pointers, one by one.
use Rattle.std.specs.Prelude.{◌≡◌, ◌≤◌, ℕ, List, ◌++◌, Option, flat_map, length, min, take}
use Rattle.std.specs.Io.KnownBytes.{Appends}
use Rattle.jx_file_index.specs.declared.index.Index.{Index}
use Rattle.jx_words.specs.declared.pointer_answer.PointerAnswer.{PointerAnswer}
use Rattle.jx_ends.specs.Ends.{AppendsBeginning}
use Rattle.jx_values.specs.declared.form.Form.{Form}
use Rattle.jx_values.specs.Values.{told_line, told_lines, value_line}
use Rattle.jx_cmd_index.specs.inside.Texts.{OfEachText}

-- ---- of one

-- its line was written
pub record WroteLine (known : Option (List ℕ)) (index : Index) (form : Form) (answer : PointerAnswer) (old new : Option (List ℕ)) : Type 0 where
  pub line : List ℕ
  pub is : OfEachText known index (λ text file. line ≡ value_line form text answer)
  pub wrote : Appends old new line

-- a beginning of it, and not all; beside what would be reported of it
pub record BeganLine (known : Option (List ℕ)) (index : Index) (form : Form) (pointer : List ℕ) (answer : PointerAnswer) (old new : Option (List ℕ)) : Type 0 where
  pub line : List ℕ
  pub words : List ℕ
  pub is : OfEachText known index (λ text file. line ≡ value_line form text answer)
  pub words_are : OfEachText known index (λ text file. words ≡ told_line form text pointer answer)
  pub wrote : AppendsBeginning old new line

-- the report that is due of it was added
abbrev pub AddsTold : Option (List ℕ) → Index → Form → List ℕ → PointerAnswer → List ℕ → List ℕ → Type 0
AddsTold known index form pointer answer old new = OfEachText known index (λ text file. new ≡ old ++ told_line form text pointer answer)

-- ---- of the first of them, so many

-- these are their lines, and this is the report
pub record AreLinesOf (known : Option (List ℕ)) (index : Index) (form : Form) (pointers : List (List ℕ)) (answers : List PointerAnswer) (count : ℕ) (lines told : List ℕ) : Type 0 where
  pub lines_are : OfEachText known index (λ text file. lines ≡ flat_map (value_line form text) (take count answers))
  pub told_is : OfEachText known index (λ text file. told ≡ told_lines form text (take count pointers) (take count answers))

-- all were written
pub record WroteLinesOf (known : Option (List ℕ)) (index : Index) (form : Form) (pointers : List (List ℕ)) (answers : List PointerAnswer) (count : ℕ) (told : List ℕ) (old new : Option (List ℕ)) : Type 0 where
  pub lines : List ℕ
  pub are : AreLinesOf known index form pointers answers count lines told
  pub wrote : Appends old new lines

-- all that there are were written
pub record WroteAll (known : Option (List ℕ)) (index : Index) (form : Form) (pointers : List (List ℕ)) (answers : List PointerAnswer) (told : List ℕ) (old new : Option (List ℕ)) : Type 0 where
  pub count : ℕ
  pub all : min (length pointers) (length answers) ≤ count
  pub wrote : WroteLinesOf known index form pointers answers count told old new

-- those of some were written
pub record WroteSome (known : Option (List ℕ)) (index : Index) (form : Form) (pointers : List (List ℕ)) (answers : List PointerAnswer) (old new : Option (List ℕ)) : Type 0 where
  pub count : ℕ
  pub told : List ℕ
  pub wrote : WroteLinesOf known index form pointers answers count told old new

-- a beginning of those of some was written, and not all
pub record BeganSome (known : Option (List ℕ)) (index : Index) (form : Form) (pointers : List (List ℕ)) (answers : List PointerAnswer) (old new : Option (List ℕ)) : Type 0 where
  pub count : ℕ
  pub lines : List ℕ
  pub told : List ℕ
  pub are : AreLinesOf known index form pointers answers count lines told
  pub wrote : AppendsBeginning old new lines
