-- The output and the report for the parts of a container to which a pointer leads, by a saved index.
use Rattle.std.specs.Prelude.{◌≡◌, ℕ, List, [], ◌++◌, Bool, false, Option, Some, Ok, Err, codes, length}
use Rattle.std.specs.Io.KnownBytes.{Appends}
use Rattle.std.specs.List.{flat_map}
use Rattle.jx_run.specs.declared.texts.settings.Settings.{Settings}
use Rattle.jx_run.specs.Settings.{IsDocumentBy}
use Rattle.jx_run.specs.Tree.{Tree, span}
use Rattle.jx_index.specs.declared.find_fault.FindFault.{FindFault}
use Rattle.jx_index.specs.declared.find_fault.FindFault.TheVariants.{NotAContainer}
use Rattle.jx_index.specs.declared.pointer.PointerFault.{PointerFault}
use Rattle.jx_index.specs.Leads.{Numbered, kind_of, led}
use Rattle.jx_index.specs.PointerFaults.{IsFaultOf}
use Rattle.jx_index.specs.Pointers.{IsPointer, tokens}
use Rattle.jx_ends.specs.declared.exit.Exit.{Exit}
use Rattle.jx_ends.specs.declared.exit.Exit.TheVariants.{Good, Bad}
use Rattle.jx_words.specs.declared.pointer_answer.PointerAnswer.{PointerAnswer}
use Rattle.jx_words.specs.declared.pointer_answer.PointerAnswer.TheVariants.{Unread, Lost}
use Rattle.jx_ends.specs.Ends.{AppendsBeginning}
use Rattle.jx_words.specs.Pointers.{answer_words}
use Rattle.jx_words.specs.Showing.{shown}
use Rattle.jx_words.specs.Words.{line, span_words}
use Rattle.jx_file_query.specs.declared.part.ContainerPart.{ContainerPart}
use Rattle.jx_file_query.specs.Parts.{IsContainer, parts_of}
use Rattle.jx_cmd_index.specs.SavedBytes.{IsSavedOf, TellsApart}

-- S..E I..J
abbrev pub part_words : ContainerPart → List ℕ
part_words p = span_words p.span ++ codes " " ++ span_words (span p.first p.end)

abbrev pub part_lines : List ContainerPart → List ℕ
part_lines ps = flat_map (λ (p : ContainerPart). line (part_words p)) ps

-- POINTER: WORDS, why there are no parts
abbrev pub told_words : List ℕ → PointerAnswer → List ℕ
told_words pointer answer = shown pointer ++ codes ": " ++ line (answer_words answer)

-- ---- in a text with this tree

-- a line for each part of the container that the pointer leads to, or why it leads to none
pub data Splits (parts : ℕ) (pointer text : List ℕ) (tree : Tree) : List ℕ → List ℕ → Exit → Type 0 where
  unread : (fault : PointerFault) → IsFaultOf pointer fault → Splits parts pointer text tree [] (told_words pointer (Unread fault)) Bad
  lost : (fault : FindFault) → IsPointer pointer → led text tree (tokens pointer) ≡ Err fault → Splits parts pointer text tree [] (told_words pointer (Lost fault)) Bad
  scalar : (there : Numbered) → IsPointer pointer → led text tree (tokens pointer) ≡ Ok there → (IsContainer (kind_of there.tree) → ⊥)
      → Splits parts pointer text tree [] (told_words pointer (Lost (NotAContainer (length (tokens pointer))))) Bad
  container : (there : Numbered) → IsPointer pointer → led text tree (tokens pointer) ≡ Ok there → IsContainer (kind_of there.tree)
      → Splits parts pointer text tree (part_lines (parts_of parts text there.tree)) [] Good

-- the whole output for a text, all that is reported of it, and the status
pub record SplitOutput (settings : Settings) (parts : ℕ) (pointer text output tells : List ℕ) (exit : Exit) : Type 0 where
  pub tree : Tree
  pub is_text : IsDocumentBy settings 0 text tree
  pub splits : Splits parts pointer text tree output tells exit

-- ---- by an index

-- where the index is that of a text, and the file has no other chunk with the digest of one of the text, these are the parts in
-- the text
abbrev pub AreParts : ℕ → List ℕ → Option (List ℕ) → Option (List ℕ) → List ℕ → List ℕ → Exit → Type 0
AreParts parts pointer saved content output tells exit =
    (settings : Settings) (chunk : ℕ) (text bytes file : List ℕ) → IsSavedOf settings chunk text bytes → saved ≡ Some bytes → content ≡ Some file → TellsApart chunk text file
    → SplitOutput settings parts pointer text output tells exit

-- the writer got the whole output, and the report was written unless reporting failed
pub record WritesParts (parts : ℕ) (pointer : List ℕ) (saved content written grown : Option (List ℕ)) (is_lost : Bool) (told retold : Option (List ℕ)) (exit : Exit) : Type 0 where
  pub output : List ℕ
  pub tells : List ℕ
  pub are_parts : AreParts parts pointer saved content output tells exit
  pub wrote : Appends written grown output
  pub says : is_lost ≡ false → Appends told retold tells

-- the writer got a beginning of the output, and not all
pub record WritesPartsInPart (parts : ℕ) (pointer : List ℕ) (saved content written grown : Option (List ℕ)) : Type 0 where
  pub output : List ℕ
  pub tells : List ℕ
  pub exit : Exit
  pub are_parts : AreParts parts pointer saved content output tells exit
  pub wrote : AppendsBeginning written grown output
