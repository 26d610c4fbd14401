-- The ways of pointers in a trie, and what was met along them.
use Rattle.std.specs.Prelude.{◌≡◌, ℕ, suc, List, length, map, Ok}
use Rattle.jx_index.specs.declared.finder.Found.{Found}
use Rattle.jx_index.specs.declared.finder.Met.{Met}
use Rattle.jx_index.specs.declared.pointer_ways.Way.{Way}
use Rattle.jx_index.specs.declared.trie.Edge.{Edge}
use Rattle.jx_index.specs.Pointers.{tokens}
use Rattle.jx_index.specs.inside.Finding.{met_at, read_root}
use Rattle.jx_index.specs.inside.Trie.{IsTrie, IsWay}

-- the nodes to which a pointer's tokens lead, the root first
abbrev pub IsWayOf : List Edge → List ℕ → List ℕ → Type 0
IsWayOf edges pointer way = IsTrie edges → (path : List ℕ) → IsWay edges 0 (tokens pointer) path → way ≡ path

abbrev pub nodes_of : Way → List ℕ
nodes_of way = way.nodes.items

-- the value that was met last on a way along which as many tokens lead as nodes follow its first one
abbrev pub IsFoundAlong : List Met → List ℕ → Found → Type 0
IsFoundAlong met way found = (ts : List (List ℕ)) → length way ≡ suc (length ts) → Ok found ≡ read_root (met_at (map (met_at met) way) 0) (map (met_at met) way) ts
