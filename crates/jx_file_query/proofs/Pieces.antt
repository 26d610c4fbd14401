-- Parts of a text of which an index is known, as pieces that may be passed over.
use Rattle.std.proofs.Common.{◌≡◌, ℕ, suc, ◌*◌, List, ◌++◌, length, take, refl, sym, ap, subst, ◌∙◌, ◌<◌, ◌≤◌, Option, None, Some}
use Rattle.std.specs.Prelude.{IfSome, slice_get}
use Rattle.jx_lex.specs.declared.alphabet.state.LexState.{LexState}
use Rattle.jx_lex.specs.Lex.{lex, LexExit}
use Rattle.jx_reduce.specs.declared.table.expect.Expect.{Expect}
use Rattle.jx_reduce.specs.Read.{Reading, read}
use Rattle.jx_summary.specs.declared.span.Span.{Span}
use Rattle.jx_run.specs.declared.texts.settings.FrontMark.{FrontMark}
use Rattle.jx_run.specs.declared.texts.settings.Settings.{Settings}
use Rattle.jx_run.specs.Reader.{Outcome, reads, read_by}
use Rattle.jx_run.specs.Reading.{went}
use Rattle.jx_run.specs.Telling.{tokens_by}
use Rattle.jx_run.proofs.InTurn.{InPieces}
use Rattle.jx_file_index.specs.declared.entry.Entry.{Entry}
use Rattle.jx_file_index.specs.declared.index.Index.{Index}
use Rattle.jx_file_index.specs.Chunks.{before, entry_behind, has_some, part}
use Rattle.jx_file_index.specs.Index.{AreLevels}
use Rattle.jx_file_index.specs.Sums.{sum_of}
use Rattle.jx_file_query.specs.Chunks.{chunk_at}
use Rattle.jx_file_query.specs.Known.{IsKnown}
use Rattle.jx_file_query.specs.inside.Blocks.{TellsOf}
use Rattle.jx_file_query.specs.inside.Over.{IsPiece}
use Rattle.jx_file_query.proofs.Chunkings.{entry_is, part_taken}
use Rattle.jx_file_query.proofs.Moved.{ends_on, marks_on, some_ends_moved, some_moved, sum_on}
use Rattle.jx_file_query.proofs.TextParts.{stands_behind, stands_here}
use Rattle.jx_file_query.proofs.Standing.{Goes, Stands, leads, marks_stand}

-- what is kept of the chunk at a place is its entry
pub entry_some : (index : Index) (at : ℕ) (s : Span) → chunk_at index at ≡ Some s → (o : Option Entry) → ((es : List Entry) → AreLevels es index.entries.items index.top → at < length es → o ≡ slice_get es at)
    → IfSome o (λ e. (settings : Settings) (chunk : ℕ) (text : List ℕ) → IsKnown settings chunk text index → e ≡ entry_behind (before settings text (at * chunk)) (part chunk text at))
entry_some index at s is None told = tt
entry_some index at s is (Some e) told = λ settings chunk text known. entry_is settings chunk text index known.indexed at s e is told

-- a piece behind bytes, by what reading comes to before and behind it
module _ (m : FrontMark) (limit : ℕ) (bytes piece more : List ℕ) where
  piece_of : Stands m limit bytes → Stands m limit (bytes ++ piece) → IsPiece limit bytes piece (tokens_by m bytes).marks (entry_behind (read_by m limit 0 bytes) piece) (entry_behind (read_by m limit 0 (bytes ++ piece)) more)
  piece_of st next =
      subst (λ (z : Outcome). IsPiece limit bytes piece (tokens_by m bytes).marks (entry_behind z piece) (entry_behind (read_by m limit 0 (bytes ++ piece)) more)) (sym st.is)
      (subst (λ (z : Outcome). IsPiece limit bytes piece (tokens_by m bytes).marks (entry_behind (reads (went st.state st.expect st.holders)) piece) (entry_behind z more)) (sym next.is)
      (let l = leads m limit (length bytes) bytes piece st.state next.state st.expect next.expect st.holders next.holders refl st.is next.is in
      record {
        exit = l.exit;
        sum = sym (sum_on (length bytes) st.state piece);
        begins = sym (ap has_some (marks_on (length bytes) st.state piece) ∙ some_moved (length bytes) (lex st.state 0 piece).marks);
        ends = sym (ap has_some (ends_on (length bytes) st.state piece) ∙ some_ends_moved (length bytes) (lex st.state 0 piece).ends);
        holders = st.holders;
        later = next.holders;
        stands = marks_stand m limit bytes st.state st.expect st.holders st.is;
        reads = l.marks;
      }))

-- a part of a text without a fault, by entries that tell of it and of what stands behind it
module _ (settings : Settings) (size : ℕ) (text : List ℕ) (goes : Goes settings.mark settings.depth text) (two : InPieces) where
  abbrev m : FrontMark
  m = settings.mark

  abbrev limit : ℕ
  limit = settings.depth

  abbrev bytes : ℕ → List ℕ
  bytes n = take (n * size) text

  abbrev piece : ℕ → List ℕ
  piece n = part size text n

  -- what a piece is of another entry that says the same
  told_piece : (n : ℕ) (e here later there : Entry) → TellsOf (before settings text (n * size)) (piece n) e → here ≡ entry_behind (before settings text (n * size)) (piece n) → later.state ≡ there.state → later.expect ≡ there.expect
      → IsPiece limit (bytes n) (piece n) (tokens_by m (bytes n)).marks here there → IsPiece limit (bytes n) (piece n) (tokens_by m (bytes n)).marks e later
  told_piece n e here later there tells is state expect p =
      let b = length (bytes n) in
      let z = before settings text (n * size) in
      let same_state : here.state ≡ e.state = ap (λ (x : Entry). x.state) is ∙ sym tells.state in
      let same_expect : here.expect ≡ e.expect = ap (λ (x : Entry). x.expect) is ∙ sym tells.expect in
      record {
        exit = ap (λ (s : LexState). (lex s b (piece n)).exit) (sym same_state) ∙ p.exit ∙ ap LexExit.state (sym state);
        sum = tells.sum ∙ ap (λ (x : Entry). x.sum) (sym is) ∙ p.sum ∙ ap (λ (s : LexState). sum_of (lex s b (piece n)).marks) same_state;
        begins = tells.begins ∙ ap (λ (x : Entry). x.begins) (sym is) ∙ p.begins ∙ ap (λ (s : LexState). has_some (lex s b (piece n)).marks) same_state;
        ends = tells.ends ∙ ap (λ (x : Entry). x.ends) (sym is) ∙ p.ends ∙ ap (λ (s : LexState). has_some (lex s b (piece n)).ends) same_state;
        holders = p.holders;
        later = p.later;
        stands = p.stands ∙ ap (λ (x : Expect). Reading.went x p.holders) same_expect;
        reads =
            ap (λ (s : LexState). read limit (lex s b (piece n)).marks (Reading.went e.expect p.holders)) (sym same_state)
            ∙ ap (λ (x : Expect). read limit (lex here.state b (piece n)).marks (Reading.went x p.holders)) (sym same_expect)
            ∙ p.reads ∙ ap (λ (x : Expect). Reading.went x p.later) (sym expect);
      }

  pub piece_at : (n : ℕ) (e later : Entry) (more : List ℕ) → 64 ≤ size → (n ≡ 0 → ⊥) → n * size ≤ length text → TellsOf (before settings text (n * size)) (piece n) e → later ≡ entry_behind (before settings text (suc n * size)) more
      → IsPiece limit (bytes n) (piece n) (tokens_by m (bytes n)).marks e later
  piece_at n e later more wide other within tells is =
      let there = entry_behind (read_by m limit 0 (bytes n ++ piece n)) more in
      let same : later ≡ there = is ∙ ap (λ (xs : List ℕ). entry_behind (read_by m limit 0 xs) more) (sym (part_taken size text n)) in
      told_piece n e (entry_behind (before settings text (n * size)) (piece n)) later there tells refl (ap (λ (x : Entry). x.state) same) (ap (λ (x : Entry). x.expect) same)
      (piece_of m limit (bytes n) (piece n) more (stands_here settings size text goes two n wide other within) (stands_behind settings size text goes two n wide other within))
