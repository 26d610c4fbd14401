-- A shelf and its notes, as contracts see them.
use Rattle.std.specs.Prelude.{◌≡◌, ℕ, Option, Some, IfSome}
use Rattle.jx_index.specs.Indexed.{IndexedValue}

-- which shelf it is of, and which index it knows, if it knows one
pub record NoteValue : Type 0 where
  pub shelf : ℕ
  pub known : Option IndexedValue

-- an index that was known is still known
abbrev pub Keeps : Option IndexedValue → Option IndexedValue → Type 0
Keeps old new = IfSome old (λ index. new ≡ Some index)

-- where both know an index it is the same one
abbrev pub Agree : Option IndexedValue → Option IndexedValue → Type 0
Agree known other = IfSome known (λ x. IfSome other (λ y. x ≡ y))
