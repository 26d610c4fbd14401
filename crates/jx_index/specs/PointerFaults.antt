-- Why a text is no pointer.
use Rattle.std.specs.Prelude.{ℕ, List}
use Rattle.jx_index.specs.declared.pointer.PointerFault.{PointerFault}
use Rattle.jx_index.specs.declared.pointer.PointerFault.TheVariants.{NoSlash, BadEscape}
use Rattle.jx_index.specs.Pointers.{HasSlash, IsFirstBadEscape}

abbrev pub IsFaultOf : List ℕ → PointerFault → Type 0
IsFaultOf text NoSlash = HasSlash text → ⊥
IsFaultOf text (BadEscape at) = IsFirstBadEscape text at
