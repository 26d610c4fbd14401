-- The look-up that runs while elements are written.
use Rattle.std.specs.Prelude.{◌≡◌, ℕ, List, [], ◌∷◌, Bool, true, false, Option, Some, None}
use Rattle.jx_run.specs.declared.texts.settings.NameRule.TheVariants.{Any}
use Rattle.jx_run.specs.declared.texts.settings.Settings.{Settings}
use Rattle.jx_run.specs.Settings.{IsDocumentBy}
use Rattle.jx_run.specs.Tree.{Tree}
use Rattle.jx_index.specs.declared.find_fault.FindFault.TheVariants.{NotAContainer}
use Rattle.jx_index.specs.Found.{found_of}
use Rattle.jx_index.specs.Leads.{led}
use Rattle.jx_index.specs.Pointers.{tokens}
use Rattle.jx_each.specs.declared.content.LineContent.{LineContent}
use Rattle.jx_each.specs.declared.content.LineContent.TheVariants.{Alone, Named, NameAlone, Empty}
use Rattle.jx_find.specs.declared.finder.Finder.{Finder}
use Rattle.jx_find.specs.Finder.{HasFed}
use Rattle.jx_values.specs.Elements.{told_of_fault, told_of_found}

-- the settings, with objects of any names
abbrev pub any_names : Settings → Settings
any_names settings = record settings { names = Any }

-- the pointer that is looked up: none where it leads to the root, and values alone are written
abbrev pub sought_at_root : LineContent → List (List ℕ)
sought_at_root Alone = []
sought_at_root Named = [] ∷ []
sought_at_root NameAlone = [] ∷ []
sought_at_root Empty = [] ∷ []

abbrev pub sought_of : LineContent → List ℕ → List (List ℕ)
sought_of content [] = sought_at_root content
sought_of content (byte ∷ bytes) = (byte ∷ bytes) ∷ []

-- a look-up of the pointer was fed these bytes, or the pointer leads to the root, and values alone are written
abbrev pub HasSought : LineContent → Settings → List ℕ → List ℕ → Option Finder → Type 0
HasSought content settings pointer bytes (Some finder) = HasFed settings (pointer ∷ []) bytes finder
HasSought content settings pointer bytes None = (pointer ≡ []) × (content ≡ Alone)

-- of a text what the pointer leads to in its tree
abbrev pub TellsFound : LineContent → Settings → List ℕ → List ℕ → ℕ → List ℕ → Type 0
TellsFound content settings pointer text n tells = (tree : Tree) × IsDocumentBy settings 0 text tree × (tells ≡ told_of_found content pointer (found_of (led text tree (tokens pointer))) n)

-- of a text that is a container, or none
abbrev pub told_of_root : Bool → List ℕ
told_of_root true = []
told_of_root false = told_of_fault [] (NotAContainer 0)
