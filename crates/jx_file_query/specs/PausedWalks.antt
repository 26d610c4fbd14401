-- A walk without its index.
use Rattle.std.specs.Prelude.{◌≡◌, ℕ, All, List, Option, Some}
use Rattle.jx_summary.specs.declared.span.Span.{Span}
use Rattle.jx_run.specs.declared.texts.settings.Settings.{Settings}
use Rattle.jx_index.specs.inside.Trie.{HasWay, IsTrie}
use Rattle.jx_find.specs.declared.held.Sought.{Sought}
use Rattle.jx_file_index.specs.declared.index.Index.{Index}
use Rattle.jx_file_query.specs.declared.walk.PausedWalk.{PausedWalk}
use Rattle.jx_file_query.specs.declared.walk.Walk.{Walk}
use Rattle.jx_file_query.specs.Chunks.{chunk_at}
use Rattle.jx_file_query.specs.HeldAt.{IsHeldAt}
use Rattle.jx_file_query.specs.Known.{IsKnown}

abbrev pub paused_of : Walk → PausedWalk
paused_of w = record { alloc = w.alloc; pointers = w.pointers; edges = w.edges; starts = w.starts; at = w.at; held = w.held }

-- where the bytes stand that are to be given next, by an index
abbrev pub needed_by : Index → PausedWalk → Option Span
needed_by index w = chunk_at index w.at

-- with this index it has come as far as a walk has
pub record HasPaused (settings : Settings) (chunk : ℕ) (text : List ℕ) (pointers : List (List ℕ)) (index : Index) (w : PausedWalk) : Type 0 where
  pub known : IsKnown settings chunk text index
  pub pointers_are : w.pointers.items ≡ pointers
  pub trie : IsTrie w.edges.items
  pub ways : All (λ (pointer : List ℕ). HasWay w.edges.items pointer) pointers
  pub kept : Sought
  pub kept_is : w.held ≡ Some kept
  pub held : IsHeldAt settings chunk text w.edges.items w.at kept
