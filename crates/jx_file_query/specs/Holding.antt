-- The open containers that a seeker knows, beside all of them.
use Rattle.std.specs.Prelude.{◌≡◌, ℕ, suc, List, [], ◌∷◌, Bool, true, false}
use Rattle.jx_reduce.specs.declared.table.holder.Holder.{Holder}
use Rattle.jx_reduce.specs.declared.table.holder.Holder.TheVariants.{Array, Object}
use Rattle.jx_index.specs.declared.finder.Cursor.{Cursor}

abbrev pub holder_of : Bool → Holder
holder_of true = Object
holder_of false = Array

-- so many are open that are skipped, and the others are those that the cursors are of; innermost first
pub data Holds : ℕ → List Cursor → List Holder → Type 0 where
  outermost : Holds 0 [] []
  here : {c : Cursor} {outer : List Cursor} {h : Holder} {hs : List Holder} → h ≡ holder_of c.is_object → Holds 0 outer hs → Holds 0 (c ∷ outer) (h ∷ hs)
  below : {k : ℕ} {opened : List Cursor} {h : Holder} {hs : List Holder} → Holds k opened hs → Holds (suc k) opened (h ∷ hs)
