-- The state after a part of a text that is skipped.
use Rattle.std.specs.Prelude.{◌≡◌, ℕ, List, [], ◌∷◌, ◌++◌, Option, None, Some, is_some, length}
use Rattle.jx_lex.specs.declared.alphabet.mark.Mark.{Mark}
use Rattle.jx_lex.specs.Lex.{lex, LexExit}
use Rattle.jx_lex.specs.TokenStates.{in_token}
use Rattle.jx_reduce.specs.declared.table.expect.Expect.TheVariants.{Value}
use Rattle.jx_reduce.specs.declared.table.holder.Holder.{Holder}
use Rattle.jx_reduce.specs.Read.{went, read}
use Rattle.jx_index.specs.declared.finder.Cursor.{Cursor}
use Rattle.jx_index.specs.declared.finder.State.{State}
use Rattle.jx_index.specs.declared.trie.Edge.{Edge}
use Rattle.jx_index.specs.inside.Finding.{Finding}
use Rattle.jx_index.specs.inside.Found.{finding}
use Rattle.jx_find.specs.declared.held.Sought.{Sought}
use Rattle.jx_find.specs.Held.{IsHeld}
use Rattle.jx_file_index.specs.declared.entry.Entry.{Entry}
use Rattle.jx_file_index.specs.Chunks.{has_some}
use Rattle.jx_file_index.specs.Sums.{sum_of}
use Rattle.jx_file_query.specs.declared.walk_passing.Over.{Over}

-- after some bytes of an accepted text, which have these token starts, a part stands of which this entry is kept, and
-- after it one of which the other is
pub record IsPiece (limit : ℕ) (bytes piece : List ℕ) (marks : List Mark) (here behind : Entry) : Type 0 where
  pub exit : (lex here.state (length bytes) piece).exit ≡ LexExit.state behind.state
  pub sum : here.sum ≡ sum_of (lex here.state (length bytes) piece).marks
  pub begins : here.begins ≡ has_some (lex here.state (length bytes) piece).marks
  pub ends : here.ends ≡ has_some (lex here.state (length bytes) piece).ends
  pub holders : List Holder
  pub later : List Holder
  pub stands : read limit marks (went Value []) ≡ went here.expect holders
  pub reads : read limit (lex here.state (length bytes) piece).marks (went here.expect holders) ≡ went behind.expect later

-- so many children of the innermost container on the way were counted, where that changes
abbrev pub recounted : Option ℕ → List Cursor → List Cursor
recounted None opened = opened
recounted (Some count) [] = []
recounted (Some count) (c ∷ outer) = record c { count = count } ∷ outer

abbrev pub finding_over : Over → Finding → Finding
finding_over over f = record { met = f.met; opened = recounted over.count f.opened; skipped = over.skipped; name = f.name }

-- the state that is kept so of the bytes, the part among them
abbrev pub LeadsOver : List ℕ → List ℕ → List Edge → List Mark → List ℕ → Sought → Entry → Over → Type 0
LeadsOver bytes piece edges marks ends held here over = (s : State) (name : List ℕ) → finding s ≡ finding_over over (finding held.state)
    → IsHeld (bytes ++ piece) edges (marks ++ (lex here.state (length bytes) piece).marks) (ends ++ (lex here.state (length bytes) piece).ends) s over.next over.begun name

-- for any bytes and part
abbrev pub IsOver : Sought → List Edge → Entry → Entry → Over → Type 0
IsOver held edges here behind over = (limit : ℕ) (bytes piece : List ℕ) (marks : List Mark) (ends : List ℕ) → IsHeld bytes edges marks ends held.state held.next held.begun held.name.items
    → IsPiece limit bytes piece marks here behind → LeadsOver bytes piece edges marks ends held here over

-- where a token is kept just where the part begins inside one, one is kept after it just where it ends inside one
abbrev pub KeepsTurn : Sought → Entry → Entry → Over → Type 0
KeepsTurn held here behind over = (limit : ℕ) (bytes piece : List ℕ) (marks : List Mark) → IsPiece limit bytes piece marks here behind → is_some held.begun ≡ in_token here.state → is_some over.begun ≡ in_token behind.state
