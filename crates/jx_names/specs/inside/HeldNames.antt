-- The state of names after the bytes of a text that were fed.
use Rattle.std.specs.Prelude.{◌≡◌, ℕ, List, ◌++◌, Option, Some, drop, true}
use Rattle.jx_lex.specs.declared.alphabet.mark.Mark.{Mark}
use Rattle.jx_index.specs.inside.Building.{Building}
use Rattle.jx_index.specs.inside.InOrder.{Comes, IsToken}
use Rattle.jx_names.specs.declared.open_names.OpenNames.{OpenNames}
use Rattle.jx_names.specs.inside.KeptNames.{is_name_next, kept, Stands}

-- by these token starts and ends of some bytes, whatever bytes follow; of a name that has begun the bytes are kept
pub record IsHeld (bytes : List ℕ) (marks : List Mark) (ends : List ℕ) (names : OpenNames) (begun : Option Mark) (name : List ℕ) : Type 0 where
  pub building : Building
  pub comes : Comes marks ends building begun
  pub stands : (future : List ℕ) → Stands (bytes ++ future) building (kept names)
  pub token : IsToken begun
  pub name_is : (m : Mark) → begun ≡ Some m → is_name_next m.kind (kept names) ≡ true → name ≡ drop m.at bytes
