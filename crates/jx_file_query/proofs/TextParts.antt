-- What is held of a text without a fault, part by part, whatever the size of its parts.
use Rattle.std.proofs.Common.{◌≡◌, ℕ, suc, ◌+◌, ◌*◌, ◌≤◌, List, [], ◌++◌, length, take, refl, sym, ap, subst, ◌∙◌, arith, true, false, Option, Some}
use Rattle.std.specs.Prelude.{is_some}
use Rattle.std.proofs.lemmas.List.{length-take-le, length-append}
use Rattle.std.proofs.Math.Nat.{mul-le-mul_right}
use Rattle.jx_lex.specs.declared.alphabet.mark.Mark.{Mark}
use Rattle.jx_lex.specs.declared.alphabet.state.LexState.{LexState}
use Rattle.jx_lex.specs.Lex.{lex, Track}
use Rattle.jx_lex.specs.TokenStates.{in_token}
use Rattle.jx_run.specs.declared.texts.settings.FrontMark.{FrontMark}
use Rattle.jx_run.specs.declared.texts.settings.Settings.{Settings}
use Rattle.jx_run.specs.Reader.{Outcome, is_fault, read_by, state_behind}
use Rattle.jx_run.specs.Telling.{moved_ends, moved_marks, tokens_by, track_of}
use Rattle.jx_run.proofs.InTurn.{InPieces, in_turn}
use Rattle.jx_index.specs.declared.finder.State.{State}
use Rattle.jx_index.specs.declared.trie.Edge.{Edge}
use Rattle.jx_index.specs.inside.Found.{finding}
use Rattle.jx_find.specs.declared.held.Sought.{Sought}
use Rattle.jx_find.specs.Held.{IsHeld}
use Rattle.jx_file_index.specs.declared.entry.Entry.{Entry}
use Rattle.jx_file_index.specs.Chunks.{before, part}
use Rattle.jx_file_query.specs.declared.walk_passing.Over.{Over}
use Rattle.jx_file_query.specs.HeldAt.{IsHeldAt}
use Rattle.jx_file_query.specs.inside.Over.{LeadsOver, finding_over}
use Rattle.jx_file_query.proofs.Chunkings.{part_taken}
use Rattle.jx_file_query.proofs.Moved.{ends_on, marks_on}
use Rattle.jx_file_query.proofs.Standing.{Goes, Stands, front_goes, none_read, stands}

module _ (settings : Settings) (size : ℕ) (text : List ℕ) (goes : Goes settings.mark settings.depth text) (two : InPieces) where
  abbrev m : FrontMark
  m = settings.mark

  abbrev limit : ℕ
  limit = settings.depth

  abbrev bytes : ℕ → List ℕ
  bytes n = take (n * size) text

  abbrev piece : ℕ → List ℕ
  piece n = part size text n

  pub goes_at : (n : ℕ) → Goes m limit (bytes n)
  goes_at n = front_goes m limit (n * size) text goes

  -- ---- where the reading stands, in front of a part and behind it

  many : (n : ℕ) → 64 ≤ size → (n ≡ 0 → ⊥) → 64 ≤ n * size
  many n wide other =
      let some : 1 ≤ n = omega (arith, other) in
      let m : 1 * size ≤ n * size = mul-le-mul_right size some in
      let one : 1 * size ≡ size = omega arith in
      omega (arith, wide, m, one)

  long : (n : ℕ) → 64 ≤ size → (n ≡ 0 → ⊥) → n * size ≤ length text → 64 ≤ length (bytes n)
  long n wide other within = let l : length (bytes n) ≡ n * size = length-take-le (n * size) text within in let k = many n wide other in omega (arith, l, k)

  pub stands_here : (n : ℕ) → 64 ≤ size → (n ≡ 0 → ⊥) → n * size ≤ length text → Stands m limit (bytes n)
  stands_here n wide other within = stands m limit (bytes n) (goes_at n) (let l = long n wide other within in omega (arith, l))

  pub stands_behind : (n : ℕ) → 64 ≤ size → (n ≡ 0 → ⊥) → n * size ≤ length text → Stands m limit (bytes n ++ piece n)
  stands_behind n wide other within =
      stands m limit (bytes n ++ piece n) (subst (λ (xs : List ℕ). Goes m limit xs) (sym (part_taken size text n)) (goes_at (suc n)))
      (let l = long n wide other within in let a : length (bytes n ++ piece n) ≡ length (bytes n) + length (piece n) = length-append (bytes n) (piece n) in omega (arith, l, a))

  -- ---- the tokens of a part

  pub none_before : (n : ℕ) → n ≡ 0 → bytes n ≡ []
  none_before n e = ap (λ (k : ℕ). take (k * size) text) e ∙ ap (λ (k : ℕ). take k text) (let z : 0 * size ≡ 0 = omega arith in z)

  pub first_track : (n : ℕ) (bs : List ℕ) → n ≡ 0 → bs ≡ piece n → tokens_by m bs ≡ track_of (read_by m limit 0 (bytes n)) (piece n)
  first_track n bs e same =
      ap (tokens_by m) same
      ∙ ap (λ (z : Outcome). track_of z (piece n)) (sym (none_read m limit))
      ∙ ap (λ (xs : List ℕ). track_of (read_by m limit 0 xs) (piece n)) (sym (none_before n e))

  pub later_track : (n : ℕ) (s : LexState) (bs : List ℕ) → 64 ≤ size → (n ≡ 0 → ⊥) → n * size ≤ length text → s ≡ state_behind (before settings text (n * size)) → bs ≡ piece n
      → lex s 0 bs ≡ track_of (read_by m limit 0 (bytes n)) (piece n)
  later_track n s bs wide other within is same =
      let st = stands_here n wide other within in
      ap (lex s 0) same
      ∙ ap (λ (x : LexState). lex x 0 (piece n)) is
      ∙ ap (λ (z : Outcome). lex (state_behind z) 0 (piece n)) st.is
      ∙ ap (λ (z : Outcome). track_of z (piece n)) (sym st.is)

  -- the first part has no fault
  pub first_whole : (n : ℕ) (bs : List ℕ) → n ≡ 0 → bs ≡ piece n → bs ≡ bytes (suc n)
  first_whole n bs e same = same ∙ ap (λ (xs : List ℕ). xs ++ piece n) (sym (none_before n e)) ∙ part_taken size text n

  pub first_goes : (n : ℕ) (bs : List ℕ) → n ≡ 0 → bs ≡ piece n → is_fault (Some (read_by m limit 0 bs)) ≡ true → ⊥
  first_goes n bs e same fault =
      let fine : is_fault (Some (read_by m limit 0 bs)) ≡ false = ap (λ (xs : List ℕ). is_fault (Some (read_by m limit 0 xs))) (first_whole n bs e same) ∙ goes_at (suc n) in
      let clash : true ≡ false = sym fault ∙ fine in
      cc

  -- ---- what is held behind a part

  next_held : (n : ℕ) (edges : List Edge) (s : State) (next : ℕ) (begun : Option Mark) (name : List ℕ)
      → IsHeld (bytes n ++ piece n) edges ((tokens_by m (bytes n)).marks ++ moved_marks (length (bytes n)) (track_of (read_by m limit 0 (bytes n)) (piece n)).marks)
      ((tokens_by m (bytes n)).ends ++ moved_ends (length (bytes n)) (track_of (read_by m limit 0 (bytes n)) (piece n)).ends) s next begun name
      → IsHeld (bytes (suc n)) edges (tokens_by m (bytes (suc n))).marks (tokens_by m (bytes (suc n))).ends s next begun name
  next_held n edges s next begun name h =
      let f = in_turn two m limit (bytes n) (piece n) (goes_at n) in
      subst (λ (xs : List ℕ). IsHeld xs edges (tokens_by m xs).marks (tokens_by m xs).ends s next begun name) (part_taken size text n)
      (subst (λ (ms : List Mark). IsHeld (bytes n ++ piece n) edges ms (tokens_by m (bytes n ++ piece n)).ends s next begun name) (sym f.marks)
      (subst (λ (es : List ℕ). IsHeld (bytes n ++ piece n) edges ((tokens_by m (bytes n)).marks ++ moved_marks (length (bytes n)) (track_of (read_by m limit 0 (bytes n)) (piece n)).marks) es s next begun name) (sym f.ends) h))

  -- by a track that is that of the part
  pub track_held : (n : ℕ) (edges : List Edge) (bs : List ℕ) (track : Track) (next : Sought) → bs ≡ piece n → track ≡ track_of (read_by m limit 0 (bytes n)) (piece n)
      → IsHeld (bytes n ++ bs) edges ((tokens_by m (bytes n)).marks ++ moved_marks (length (bytes n)) track.marks) ((tokens_by m (bytes n)).ends ++ moved_ends (length (bytes n)) track.ends) next.state next.next next.begun next.name.items
      → is_some next.begun ≡ in_token (state_behind (before settings text (suc n * size))) → IsHeldAt settings size text edges (suc n) next
  track_held n edges bs track next same is h turn = record {
    turn = turn;
    held =
        next_held n edges next.state next.next next.begun next.name.items
        (subst (λ (t : Track). IsHeld (bytes n ++ piece n) edges ((tokens_by m (bytes n)).marks ++ moved_marks (length (bytes n)) t.marks) ((tokens_by m (bytes n)).ends ++ moved_ends (length (bytes n)) t.ends) next.state next.next next.begun next.name.items) is
        (subst (λ (xs : List ℕ). IsHeld (bytes n ++ xs) edges ((tokens_by m (bytes n)).marks ++ moved_marks (length (bytes n)) track.marks) ((tokens_by m (bytes n)).ends ++ moved_ends (length (bytes n)) track.ends) next.state next.next next.begun next.name.items) same h));
  }

  -- where it is passed over
  pub over_held : (n : ℕ) (edges : List Edge) (e : Entry) (held : Sought) (over : Over) (next : Sought) → 64 ≤ size → (n ≡ 0 → ⊥) → n * size ≤ length text → e.state ≡ state_behind (before settings text (n * size))
      → LeadsOver (bytes n) (piece n) edges (tokens_by m (bytes n)).marks (tokens_by m (bytes n)).ends held e over
      → is_some over.begun ≡ in_token (state_behind (before settings text (suc n * size)))
      → finding next.state ≡ finding_over over (finding held.state) → next.next ≡ over.next → next.begun ≡ over.begun → IsHeldAt settings size text edges (suc n) next
  over_held n edges e held over next wide other within is leads_over turn found next_is begun_is =
      let b = length (bytes n) in
      let track = later_track n e.state (piece n) wide other within is refl in
      let h = leads_over next.state next.name.items found in
      let with_next = subst (λ (k : ℕ). IsHeld (bytes n ++ piece n) edges ((tokens_by m (bytes n)).marks ++ (lex e.state b (piece n)).marks) ((tokens_by m (bytes n)).ends ++ (lex e.state b (piece n)).ends) next.state k over.begun next.name.items) (sym next_is) h in
      let with_begun = subst (λ (o : Option Mark). IsHeld (bytes n ++ piece n) edges ((tokens_by m (bytes n)).marks ++ (lex e.state b (piece n)).marks) ((tokens_by m (bytes n)).ends ++ (lex e.state b (piece n)).ends) next.state next.next o next.name.items) (sym begun_is) with_next in
      track_held n edges (piece n) (lex e.state 0 (piece n)) next refl track
      (subst (λ (ms : List Mark). IsHeld (bytes n ++ piece n) edges ((tokens_by m (bytes n)).marks ++ ms) ((tokens_by m (bytes n)).ends ++ moved_ends b (lex e.state 0 (piece n)).ends) next.state next.next next.begun next.name.items) (marks_on b e.state (piece n))
      (subst (λ (es : List ℕ). IsHeld (bytes n ++ piece n) edges ((tokens_by m (bytes n)).marks ++ (lex e.state b (piece n)).marks) ((tokens_by m (bytes n)).ends ++ es) next.state next.next next.begun next.name.items) (ends_on b e.state (piece n)) with_begun)) (ap is_some begun_is ∙ turn)
