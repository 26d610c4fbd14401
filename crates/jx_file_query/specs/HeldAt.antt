-- The state after the first bytes of a text.
use Rattle.std.specs.Prelude.{◌≡◌, ℕ, ◌*◌, List, is_some, take}
use Rattle.jx_lex.specs.TokenStates.{in_token}
use Rattle.jx_run.specs.declared.texts.settings.Settings.{Settings}
use Rattle.jx_run.specs.Telling.{tokens_by}
use Rattle.jx_index.specs.declared.trie.Edge.{Edge}
use Rattle.jx_find.specs.declared.held.Sought.{Sought}
use Rattle.jx_find.specs.Held.{IsHeld}
use Rattle.jx_run.specs.Reader.{state_behind}
use Rattle.jx_file_index.specs.Chunks.{before}

-- of so many; a token is kept just where their reading stands inside one
pub record IsHeldTo (settings : Settings) (text : List ℕ) (edges : List Edge) (count : ℕ) (h : Sought) : Type 0 where
  pub held : IsHeld (take count text) edges (tokens_by settings.mark (take count text)).marks (tokens_by settings.mark (take count text)).ends h.state h.next h.begun h.name.items
  pub turn : is_some h.begun ≡ in_token (state_behind (before settings text count))

-- of so many chunks
abbrev pub IsHeldAt : Settings → ℕ → List ℕ → List Edge → ℕ → Sought → Type 0
IsHeldAt settings chunk text edges at h = IsHeldTo settings text edges (at * chunk) h
