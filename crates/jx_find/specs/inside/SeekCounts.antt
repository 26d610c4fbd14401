-- The changes that tokens make in a look-up of which only the counts are known.
use Rattle.std.specs.Prelude.{◌≡◌, ℕ, ◌+◌, ◌≤◌, List, [], ◌∷◌, None, false, reverse}
use Rattle.jx_lex.specs.declared.scanner.counts.TokenCounts.{TokenCounts}
use Rattle.jx_index.specs.declared.finder.Cursor.{Cursor}
use Rattle.jx_index.specs.declared.seeker.Seeker.{Seeker}

-- the innermost open container is an array, the tokens fall to its level and no lower, and it has so many children after them,
-- of which none is wanted
pub record CountsOn (k : Seeker) (counts : TokenCounts) (count : ℕ) : Type 0 where
  pub lowest : counts.lowest ≡ k.state.skipped
  pub name : k.state.name ≡ None
  pub top : Cursor
  pub outer : List Cursor
  pub opened : reverse k.state.opened.items ≡ top ∷ outer
  pub array : top.is_object ≡ false
  pub count_is : count ≡ top.count + counts.lowest_values
  pub unwanted : count ≤ k.next

-- with so many children in the innermost one
abbrev pub with_count : ℕ → List Cursor → List Cursor
with_count count [] = []
with_count count (top ∷ outer) = record top { count = count } ∷ outer
