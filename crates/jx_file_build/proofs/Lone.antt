-- A chunk that is read without the bytes before it.
use Rattle.std.proofs.Common.{◌≡◌, ℕ, ◌+◌, ◌-◌, ◌≤◌, List, ◌++◌, length, take, drop, refl, sym, ◌∙◌, ap, subst, arith, Bool, false, Option, Some}
use Rattle.std.specs.Prelude.{slice_range}
use Rattle.std.proofs.lemmas.List.{length-take-le, take-append-drop}
use Rattle.jx_lex.specs.declared.alphabet.mark.Mark.{Mark}
use Rattle.jx_lex.specs.declared.alphabet.state.LexState.{LexState}
use Rattle.jx_lex.specs.Lex.{LexExit, Track, lex}
use Rattle.jx_lex.specs.TwoPieces.{joined, right_of}
use Rattle.jx_reduce.specs.declared.table.expect.Expect.{Expect}
use Rattle.jx_run.specs.declared.texts.settings.FrontMark.{FrontMark}
use Rattle.jx_run.specs.declared.texts.settings.FrontMark.TheVariants.{Ignored, Refused}
use Rattle.jx_run.specs.Reader.{HasRead, IsInFront, Outcome, ReaderValue, expect_behind, in_front, is_fault, read_by, reads, state_behind}
use Rattle.jx_run.specs.Reading.{went, stopped, too_deep, read_text}
use Rattle.jx_run.specs.OutcomeRun.{IsOutcomeRun, OutcomeRunValue}
use Rattle.jx_run.proofs.Tellings.{rest_of}
use Rattle.jx_file_index.specs.declared.entry.Entry.{Entry}
use Rattle.jx_file_index.specs.Chunks.{entry_behind, has_some}
use Rattle.jx_file_index.specs.Digest.{xxh64}
use Rattle.jx_file_index.specs.declared.sum.Sum.{Sum}
use Rattle.jx_file_index.specs.Sums.{sum_of}
use Rattle.jx_file_build.specs.declared.chunk_sum.ChunkSum.{ChunkSum}
use Rattle.jx_file_build.specs.LoneChunk.{IsReadAlone, LoneValue}
use Rattle.jx_file_build.specs.inside.Tallied.{Tells}

abbrev lone : OutcomeRunValue → List ℕ → LexState → ChunkSum → ℕ → LoneValue
lone run head state rest digest = record { run = run; head = head; state = state; rest = rest; digest = digest }

-- its bytes behind the first ones were read from a state
pub read_alone : (chunk head : List ℕ) (n : ℕ) (run : OutcomeRunValue) (state : LexState) (rest : ChunkSum) (digest : ℕ) → n ≤ length chunk → head ≡ slice_range chunk 0 n → IsOutcomeRun chunk run
    → run.start ≡ 0 → Tells (lex state n (slice_range chunk n (length chunk))).marks (lex state n (slice_range chunk n (length chunk))).ends rest.sum rest.begins rest.ends → digest ≡ xxh64 chunk
    → IsReadAlone run.depth chunk (lone run head state rest digest)
read_alone chunk head n run state rest digest fits head_is of start tells digest_is =
    let front : head ≡ take n chunk = head_is ∙ ap (λ (k : ℕ). take k chunk) (let e : n - 0 ≡ n = omega arith in e) in
    let long : n ≡ length head = sym (ap (λ (xs : List ℕ). length xs) front ∙ length-take-le n chunk fits) in
    record {
      depth_is = refl;
      start = start;
      run = of;
      behind = drop n chunk;
      bytes_are = sym (ap (λ (xs : List ℕ). xs ++ drop n chunk) front ∙ take-append-drop n chunk);
      rest =
          subst (λ (k : ℕ). Tells (lex state k (drop n chunk)).marks (lex state k (drop n chunk)).ends rest.sum rest.begins rest.ends) long
          (subst (λ (xs : List ℕ). Tells (lex state n xs).marks (lex state n xs).ends rest.sum rest.begins rest.ends) (rest_of chunk n fits) tells);
      digest = digest_is;
    }

-- from a state that leads to the likely one, its tokens are those of its first bytes and those after them
pub lone_sum : (c : LoneValue) (depth : ℕ) (bytes : List ℕ) → IsReadAlone depth bytes c → (s : LexState) → (lex s 0 c.head).exit ≡ LexExit.state c.state
    → ((s : LexState) (at : ℕ) (first rest : List ℕ) → lex s at (first ++ rest) ≡ joined (lex s at first) (λ next. lex next (at + length first) rest))
    → (head both : ChunkSum) → Tells (lex s 0 c.head).marks (lex s 0 c.head).ends head.sum head.begins head.ends
    → ((marks more : List Mark) (ends others : List ℕ) → Tells marks ends head.sum head.begins head.ends → Tells more others c.rest.sum c.rest.begins c.rest.ends
    → Tells (marks ++ more) (ends ++ others) both.sum both.begins both.ends)
    → Tells (lex s 0 bytes).marks (lex s 0 bytes).ends both.sum both.begins both.ends
lone_sum c depth bytes h s leads two head both first joins =
    let rest : Track = lex c.state (length c.head) h.behind in
    let front : Track = lex s 0 c.head in
    let track : lex s 0 bytes ≡ joined front (λ next. lex next (0 + length c.head) h.behind) = ap (λ (xs : List ℕ). lex s 0 xs) h.bytes_are ∙ two s 0 c.head h.behind in
    let right : right_of front.exit (λ next. lex next (0 + length c.head) h.behind) ≡ rest =
    ap (λ (x : LexExit). right_of x (λ next. lex next (0 + length c.head) h.behind)) leads ∙ ap (λ (n : ℕ). lex c.state n h.behind) (let e : 0 + length c.head ≡ length c.head = omega arith in e) in
    let marks : (lex s 0 bytes).marks ≡ front.marks ++ rest.marks = ap (λ (t : Track). t.marks) track ∙ ap (λ (t : Track). front.marks ++ t.marks) right in
    let ends : (lex s 0 bytes).ends ≡ front.ends ++ rest.ends = ap (λ (t : Track). t.ends) track ∙ ap (λ (t : Track). front.ends ++ t.ends) right in
    subst (λ (ms : List Mark). Tells ms (lex s 0 bytes).ends both.sum both.begins both.ends) (sym marks)
    (subst (λ (es : List ℕ). Tells (front.marks ++ rest.marks) es both.sum both.begins both.ends) (sym ends) (joins front.marks rest.marks front.ends rest.ends first h.rest))

-- a reader that is past what stands in front of a text
not_front : (r : ReaderValue) (bytes : List ℕ) (n : ℕ) → HasRead bytes r → (IsInFront r → ⊥) → r.outcome ≡ Some (in_front n) → ⊥
not_front r bytes n h behind is = by_mark r.settings.mark refl
  where
    by_mark : (m : FrontMark) → r.settings.mark ≡ m → ⊥
    by_mark Ignored e = behind (record { ignored = e; bytes = n; outcome = is })
    by_mark Refused e =
        let same : Some (reads (read_text r.settings.depth r.start bytes)) ≡ Some (in_front n) =
        sym (h.outcome ∙ ap (λ (m : FrontMark). Some (read_by m r.settings.depth r.start bytes)) e) ∙ is in
        absurd cc

abbrev made : LexState → Expect → Sum → Bool → Bool → ℕ → Entry
made state expect sum begins ended digest = record { state = state; expect = expect; sum = sum; begins = begins; ends = ended; digest = digest }

-- its entry, where a reader goes on by its bytes
pub lone_entry : (r : ReaderValue) (bytes more : List ℕ) (before : Outcome) → HasRead bytes r → (IsInFront r → ⊥) → is_fault r.outcome ≡ false → r.outcome ≡ Some before
    → (state : LexState) (expect : Expect) (sum : ChunkSum) (digest : ℕ) → state ≡ state_behind before → expect ≡ expect_behind before
    → Tells (lex state 0 more).marks (lex state 0 more).ends sum.sum sum.begins sum.ends → digest ≡ xxh64 more
    → made state expect sum.sum sum.begins sum.ends digest ≡ entry_behind before more
lone_entry r bytes more (in_front n) h behind going is state expect sum digest s e t d = absurd (not_front r bytes n h behind is)
lone_entry r bytes more (reads (went q f o)) h behind going is state expect sum digest s e t d =
    let here : Tells (lex q 0 more).marks (lex q 0 more).ends sum.sum sum.begins sum.ends =
    subst (λ (x : LexState). Tells (lex x 0 more).marks (lex x 0 more).ends sum.sum sum.begins sum.ends) s t in
    let marks = (lex q 0 more).marks in
    ap (λ (x : LexState). made x expect sum.sum sum.begins sum.ends digest) s
    ∙ ap (λ (x : Expect). made q x sum.sum sum.begins sum.ends digest) e
    ∙ ap (λ (x : Sum). made q f x sum.begins sum.ends digest) here.sum_is
    ∙ ap (λ (x : Bool). made q f (sum_of marks) x sum.ends digest) here.begins_is
    ∙ ap (λ (x : Bool). made q f (sum_of marks) (has_some marks) x digest) here.ends_is
    ∙ ap (λ (x : ℕ). made q f (sum_of marks) (has_some marks) (has_some (lex q 0 more).ends) x) d
lone_entry r bytes more (reads (stopped at)) h behind going is state expect sum digest s e t d = let no : is_fault (Some (reads (stopped at))) ≡ false = subst (λ (o : Option Outcome). is_fault o ≡ false) is going in absurd cc
lone_entry r bytes more (reads (too_deep at)) h behind going is state expect sum digest s e t d = let no : is_fault (Some (reads (too_deep at))) ≡ false = subst (λ (o : Option Outcome). is_fault o ≡ false) is going in absurd cc
