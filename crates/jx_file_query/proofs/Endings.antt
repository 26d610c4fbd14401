-- What is held at the end of an accepted text.
use Rattle.std.proofs.Common.{◌≡◌, ℕ, List, [], ◌∷◌, length, reverse, refl, sym, ◌∙◌}
use Rattle.std.proofs.lemmas.List.{length-reverse}
use Rattle.jx_lex.specs.declared.alphabet.state.LexState.{LexState}
use Rattle.jx_reduce.specs.declared.table.expect.Expect.{Expect}
use Rattle.jx_reduce.specs.declared.table.expect.Expect.TheVariants.{Value, ArrayFirst, ObjectFirst, Name, Colon, After}
use Rattle.jx_run.specs.declared.texts.settings.Settings.{Settings}
use Rattle.jx_run.specs.declared.texts.verdict.Verdict.TheVariants.{Accepted}
use Rattle.jx_run.specs.Laws.{verdict_on}
use Rattle.jx_run.specs.Reader.{Outcome, in_front, reads, read_by}
use Rattle.jx_run.specs.Reading.{went, stopped, too_deep}
use Rattle.jx_run.specs.Telling.{tokens_by}
use Rattle.jx_index.specs.declared.finder.Cursor.{Cursor}
use Rattle.jx_index.specs.declared.trie.Edge.{Edge}
use Rattle.jx_find.specs.declared.held.Sought.{Sought}
use Rattle.jx_find.specs.Held.{IsHeld}
use Rattle.jx_file_index.specs.declared.index.Index.{Index}
use Rattle.jx_file_query.specs.Holding.{Holds, outermost}
use Rattle.jx_file_query.specs.Known.{IsKnown}
use Rattle.jx_file_query.specs.Passing.{IsHeldOn}
use Rattle.jx_file_query.proofs.Overs.{held_holds}
use Rattle.jx_file_query.proofs.Standing.{marks_stand}
use Rattle.jx_file_query.proofs.Walks.{BySettings, OneVerdict}

-- nothing is open where a text may end
record Ended (z : Outcome) : Type 0 where
  state : LexState
  expect : Expect
  is : z ≡ reads (went state expect [])

ended : (z : Outcome) → verdict_on z ≡ Accepted → Ended z
ended (in_front n) h = absurd cc
ended (reads (stopped at)) h = absurd cc
ended (reads (too_deep at)) h = absurd cc
ended (reads (went s e [])) h = record { state = s; expect = e; is = refl }
ended (reads (went s Value (x ∷ o))) h = absurd cc
ended (reads (went s ArrayFirst (x ∷ o))) h = absurd cc
ended (reads (went s ObjectFirst (x ∷ o))) h = absurd cc
ended (reads (went s Name (x ∷ o))) h = absurd cc
ended (reads (went s Colon (x ∷ o))) h = absurd cc
ended (reads (went s After (x ∷ o))) h = absurd cc

none_open : (k : ℕ) (os : List Cursor) → Holds k os [] → (k ≡ 0) × (length os ≡ 0)
none_open k os outermost = (refl, refl)

pub none_held : BySettings → OneVerdict → IsHeldOn → (settings : Settings) (chunk : ℕ) (text : List ℕ) (index : Index) (edges : List Edge) (h : Sought) → IsKnown settings chunk text index
    → IsHeld text edges (tokens_by settings.mark text).marks (tokens_by settings.mark text).ends h.state h.next h.begun h.name.items → (h.state.skipped ≡ 0) × (length h.state.opened.items ≡ 0)
none_held judged one law settings chunk text index edges h known held =
    let z = read_by settings.mark settings.depth 0 text in
    let accepted : verdict_on z ≡ Accepted = one settings 0 text (verdict_on z) Accepted (judged settings 0 text) known.indexed.accepted in
    let e = ended z accepted in
    let holds : Holds h.state.skipped (reverse h.state.opened.items) [] =
    held_holds law settings.depth text edges (tokens_by settings.mark text).marks (tokens_by settings.mark text).ends h.state h.next h.begun h.name.items e.expect [] held (marks_stand settings.mark settings.depth text e.state e.expect [] e.is) in
    let n = none_open h.state.skipped (reverse h.state.opened.items) holds in
    (n.0, sym (length-reverse h.state.opened.items) ∙ n.1)
