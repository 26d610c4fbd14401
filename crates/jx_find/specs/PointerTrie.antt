-- Pointers that are made ready to be looked up in many texts.
use Rattle.std.specs.Prelude.{◌≡◌, ℕ, List, All, map}
use Rattle.std.specs.List.{AllZip}
use Rattle.jx_run.specs.declared.texts.settings.FrontMark.TheVariants.{Refused}
use Rattle.jx_run.specs.declared.texts.settings.NameRule.TheVariants.{Any}
use Rattle.jx_run.specs.declared.texts.settings.Settings.{Settings}
use Rattle.jx_index.specs.inside.PointerWays.{IsWayOf, nodes_of}
use Rattle.jx_index.specs.inside.Trie.{HasWay, IsTrie}
use Rattle.jx_find.specs.declared.pointer_trie.PointerTrie.{PointerTrie}

-- the edges are a trie of these pointers, and each has its way in it
pub record IsTrieOf (pointers : List (List ℕ)) (t : PointerTrie) : Type 0 where
  pub pointers_are : t.pointers.items ≡ pointers
  pub trie : IsTrie t.edges.items
  pub has_ways : All (λ (pointer : List ℕ). HasWay t.edges.items pointer) t.pointers.items
  pub ways_are : AllZip (IsWayOf t.edges.items) t.pointers.items (map nodes_of t.ways.items)

-- by which settings a text is read by itself: a byte order mark is no part of it, and names may be repeated
abbrev pub alone : ℕ → Settings
alone depth = record { depth = depth; mark = Refused; names = Any }
