-- The answer to a string whose container is split.
use Rattle.std.specs.Prelude.{◌≡◌, ℕ, List, Result, Ok, Err, length, Vec}
use Rattle.std.specs.declared.alloc.Global.{Global}
use Rattle.jx_run.specs.declared.texts.settings.Settings.{Settings}
use Rattle.jx_run.specs.Settings.{IsDocumentBy}
use Rattle.jx_run.specs.Tree.{Tree}
use Rattle.jx_index.specs.declared.find_fault.FindFault.{FindFault}
use Rattle.jx_index.specs.declared.find_fault.FindFault.TheVariants.{NotAContainer}
use Rattle.jx_index.specs.declared.pointer.PointerFault.{PointerFault}
use Rattle.jx_index.specs.Leads.{Numbered, kind_of, led}
use Rattle.jx_index.specs.PointerFaults.{IsFaultOf}
use Rattle.jx_index.specs.Pointers.{IsPointer, tokens}
use Rattle.jx_words.specs.declared.pointer_answer.PointerAnswer.{PointerAnswer}
use Rattle.jx_words.specs.declared.pointer_answer.PointerAnswer.TheVariants.{Lost, Unread}
use Rattle.jx_file_query.specs.declared.part.ContainerPart.{ContainerPart}
use Rattle.jx_file_query.specs.Parts.{IsContainer, parts_of}

-- the pointer leads to a container with these parts
pub record HasParts (parts : ℕ) (pointer text : List ℕ) (tree : Tree) (found : List ContainerPart) : Type 0 where
  pub is_pointer : IsPointer pointer
  pub there : Numbered
  pub led_there : led text tree (tokens pointer) ≡ Ok there
  pub is_container : IsContainer (kind_of there.tree)
  pub parts_are : found ≡ parts_of parts text there.tree

-- it leads to a scalar
pub record LeadsToScalar (pointer text : List ℕ) (tree : Tree) : Type 0 where
  pub there : Numbered
  pub led_there : led text tree (tokens pointer) ≡ Ok there
  pub no_container : IsContainer (kind_of there.tree) → ⊥

-- why it has none
pub data HasNoParts (pointer text : List ℕ) (tree : Tree) : PointerAnswer → Type 0 where
  unread : (fault : PointerFault) → IsFaultOf pointer fault → HasNoParts pointer text tree (Unread fault)
  lost : (fault : FindFault) → IsPointer pointer → led text tree (tokens pointer) ≡ Err fault → HasNoParts pointer text tree (Lost fault)
  scalar : IsPointer pointer → LeadsToScalar pointer text tree → HasNoParts pointer text tree (Lost (NotAContainer (length (tokens pointer))))

abbrev pub ComesToParts : ℕ → List ℕ → List ℕ → Tree → Result (Vec ContainerPart Global) PointerAnswer → Type 0
ComesToParts parts pointer text tree (Ok found) = HasParts parts pointer text tree found.items
ComesToParts parts pointer text tree (Err answer) = HasNoParts pointer text tree answer

-- in the tree of a text by settings
pub record AreSplit (settings : Settings) (parts : ℕ) (pointer text : List ℕ) (answer : Result (Vec ContainerPart Global) PointerAnswer) : Type 0 where
  pub tree : Tree
  pub is_text : IsDocumentBy settings 0 text tree
  pub comes : ComesToParts parts pointer text tree answer
