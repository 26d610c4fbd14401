-- The state for the pointers of a trie, of the tokens of one reading.
use Rattle.std.specs.Prelude.{◌≡◌, ℕ, List, reverse, map, Result}
use Rattle.jx_index.specs.declared.find_fault.FindFault.{FindFault}
use Rattle.jx_index.specs.declared.finder.Found.{Found}
use Rattle.jx_index.specs.declared.finder.Met.{Met}
use Rattle.jx_index.specs.declared.seeker.Seeker.{Seeker}
use Rattle.jx_index.specs.declared.trie.Edge.{Edge}
use Rattle.jx_index.specs.Pointers.{tokens}
use Rattle.jx_index.specs.inside.Finding.{met_at, read_root}
use Rattle.jx_index.specs.inside.Trie.{IsNextIn, IsTrie, IsWay}

abbrev pub IsReady : List Edge → Seeker → Type 0
IsReady edges k = IsNextIn edges (reverse k.state.opened.items) k.next

-- the answer to a pointer, by the tokens that were met along its way
abbrev pub IsReadOf : List Edge → List Met → List ℕ → Result Found FindFault → Type 0
IsReadOf edges met pointer found = IsTrie edges → (path : List ℕ) → IsWay edges 0 (tokens pointer) path
    → found ≡ read_root (met_at (map (met_at met) path) 0) (map (met_at met) path) (tokens pointer)
