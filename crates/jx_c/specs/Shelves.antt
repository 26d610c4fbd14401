-- The fields of a handle of a shelf: which shelf it is of, and which index was seen there by it.
use Rattle.std.specs.Prelude.{◌≡◌, Option, None, Some, IsSome}
use Rattle.jx_index.specs.Indexed.{IndexedValue}
use Rattle.jx_shelf.specs.Shelved.{Keeps, NoteValue}
use Rattle.jx_c.specs.declared.texts.shelf_share.Unpublished.{Unpublished}
use Rattle.jx_c.specs.declared.texts.shelf_share.Unpublished.TheVariants.{Taken, Memory}

-- a handle by which nothing was seen yet
abbrev pub IsFresh : Option NoteValue → Type 0
IsFresh held = (n : NoteValue) × (held ≡ Some n) × (n.known ≡ None)

-- another handle of the same shelf
pub record IsShared (n m : NoteValue) : Type 0 where
  pub shelf : m.shelf ≡ n.shelf
  pub nothing : m.known ≡ None

-- it is of the same shelf, and what was seen there still stands there
pub record Looks (old new : NoteValue) : Type 0 where
  pub shelf : new.shelf ≡ old.shelf
  pub kept : Keeps old.known new.known

abbrev pub HasLooked : NoteValue → Option NoteValue → Type 0
HasLooked old held = (new : NoteValue) × (held ≡ Some new) × Looks old new

-- this index was seen there
abbrev pub HasSeen : IndexedValue → NoteValue → Option NoteValue → Type 0
HasSeen index old held = (new : NoteValue) × (held ≡ Some new) × Looks old new × (new.known ≡ Some index)

-- some index was
abbrev pub HasSeenSome : NoteValue → Option NoteValue → Type 0
HasSeenSome old held = (new : NoteValue) × (held ≡ Some new) × Looks old new × IsSome new.known

-- an index that was not put there is handed back where another one is known to stand there
abbrev pub Refuses : IndexedValue → Option IndexedValue → Unpublished → Type 0
Refuses index known (Taken back) = (back ≡ index) × IsSome known
Refuses index known Memory = Unit {0}
