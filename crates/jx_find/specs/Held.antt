-- The state of a look-up after the bytes of a text that were fed.
use Rattle.std.specs.Prelude.{◌≡◌, ℕ, List, ◌++◌, Option, Some, drop, length, reverse, true}
use Rattle.jx_lex.specs.declared.alphabet.mark.Mark.{Mark}
use Rattle.jx_index.specs.declared.finder.State.{State}
use Rattle.jx_index.specs.declared.trie.Edge.{Edge}
use Rattle.jx_index.specs.inside.Finding.{Finding, nothing_met}
use Rattle.jx_index.specs.inside.Found.{finding}
use Rattle.jx_index.specs.inside.InOrder.{IsToken, behind}
use Rattle.jx_index.specs.inside.Trie.{IsNextIn, IsTrie, is_name_next, seek_all}

-- to seek by these token starts and ends, and whatever follows, gives this finding, and to seek by what follows from there on
abbrev pub Comes : List ℕ → List Edge → List Mark → List ℕ → Finding → Option Mark → Type 0
Comes text edges marks ends f begun = (last : ℕ) (more : List Mark) (others : List ℕ)
    → seek_all text edges last (marks ++ more) (ends ++ others) (nothing_met (length edges)) ≡ seek_all text edges last (behind begun more) others f

-- by these token starts and ends of some bytes, whatever bytes follow; of a name that has begun the bytes are kept
pub record IsHeld (bytes : List ℕ) (edges : List Edge) (marks : List Mark) (ends : List ℕ) (state : State) (next : ℕ) (begun : Option Mark) (name : List ℕ) : Type 0 where
  pub trie : IsTrie edges
  pub ready : IsNextIn edges (reverse state.opened.items) next
  pub comes : (future : List ℕ) → Comes (bytes ++ future) edges marks ends (finding state) begun
  pub token : IsToken begun
  pub name_is : (m : Mark) → begun ≡ Some m → is_name_next m.kind (finding state) ≡ true → name ≡ drop m.at bytes
