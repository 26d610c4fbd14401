-- How far chunks are skipped.
use Rattle.std.specs.Prelude.{◌≡◌, ◌<◌, ℕ, List}
use Rattle.jx_run.specs.declared.texts.settings.Settings.{Settings}
use Rattle.jx_index.specs.declared.trie.Edge.{Edge}
use Rattle.jx_index.specs.inside.Found.{finding}
use Rattle.jx_find.specs.declared.held.Sought.{Sought}
use Rattle.jx_file_index.specs.declared.index.Index.{Index}
use Rattle.jx_file_query.specs.declared.walk_reaching.Stretch.{Stretch}
use Rattle.jx_file_query.specs.HeldAt.{IsHeldAt}
use Rattle.jx_file_query.specs.Known.{IsKnown}
use Rattle.jx_file_query.specs.inside.Over.{finding_over}

-- chunks from a place on are skipped: what is kept of those before it and changes so is kept after them
pub record IsStretch (index : Index) (edges : List Edge) (held : Sought) (at : ℕ) (s : Stretch) : Type 0 where
  pub later : at < s.end
  pub leads : (settings : Settings) (chunk : ℕ) (text : List ℕ) → IsKnown settings chunk text index → IsHeldAt settings chunk text edges at held
      → (next : Sought) → finding next.state ≡ finding_over s.over (finding held.state) → next.next ≡ s.over.next → next.begun ≡ s.over.begun → IsHeldAt settings chunk text edges s.end next
