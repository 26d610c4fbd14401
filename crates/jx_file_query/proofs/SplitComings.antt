-- What the marks of a text come to, chunk by chunk.
use Rattle.std.proofs.Common.{◌≡◌, ℕ, zero, suc, ◌+◌, ◌-◌, ◌*◌, ◌/◌, ◌<◌, ◌≤◌, min, List, [], ◌∷◌, ◌++◌, length, take, drop, refl, sym, ap, subst, ◌∙◌, arith, Bool, true, false, Option, None, Some}
use Rattle.std.specs.Prelude.{◌==◌, slice_range}
use Rattle.std.specs.List.{AllByRecursion}
use Rattle.std.proofs.lemmas.Bool.Decides.{nat_tests}
use Rattle.std.proofs.Math.Nat.{div-mul-le_self}
use Rattle.std.proofs.lemmas.List.{length-take, take_all, take-append-drop}
use Rattle.jx_lex.specs.declared.alphabet.mark.Mark.{Mark}
use Rattle.jx_lex.specs.Lex.{lex, Track}
use Rattle.jx_summary.specs.declared.span.Span.{Span}
use Rattle.jx_run.specs.declared.texts.settings.FrontMark.{FrontMark}
use Rattle.jx_run.specs.declared.texts.settings.Settings.{Settings}
use Rattle.jx_run.specs.Reader.{read_by}
use Rattle.jx_run.specs.Telling.{moved_marks, tokens_by, track_of}
use Rattle.jx_run.proofs.InTurn.{InPieces, in_turn}
use Rattle.jx_file_index.specs.declared.entry.Entry.{Entry}
use Rattle.jx_file_index.specs.declared.index.Index.{Index}
use Rattle.jx_file_index.specs.declared.sum.Sum.{Sum}
use Rattle.jx_file_index.specs.Chunks.{part}
use Rattle.jx_file_index.specs.Sums.{sum_of}
use Rattle.jx_file_query.specs.Chunks.{chunk_at}
use Rattle.jx_file_query.specs.Known.{IsKnown}
use Rattle.jx_file_query.proofs.Chunkings.{chunk_is, entry, part_taken, past_all, stands_at}
use Rattle.jx_file_query.proofs.WalkComings.{base_is}
use Rattle.jx_file_query.proofs.WalkComings as walked
use Rattle.jx_file_query.proofs.TextParts.{goes_at, later_track}
use Rattle.jx_file_query.proofs.Moved.{marks_on, sum_on}
use Rattle.jx_file_query.proofs.Standing.{Goes, front_goes}
use Rattle.jx_file_query.specs.declared.cutting.Aim.{Aim}
use Rattle.jx_file_query.specs.Cuts.{Cuts, begun, cut_all}
use Rattle.jx_file_query.specs.Split.{IsCutAt}
use Rattle.jx_file_query.specs.inside.PassedChunks.{IsMarkIn, IsPassed}
use Rattle.jx_file_query.proofs.Bounds.{Between, lex_between, tokens_between}
use Rattle.jx_file_query.proofs.Steps.{Front, all_append, all_outside, all_over}

-- a chunk's place by an offset in it
pub quotient_low : (start long chunk : ℕ) → chunk ≡ long → start / long * chunk ≤ start
quotient_low start long chunk e = subst (λ (n : ℕ). start / long * n ≤ start) (sym e) (div-mul-le_self start long)

module _ (settings : Settings) (chunk : ℕ) (text : List ℕ) (aim : Aim) where
  abbrev m : FrontMark
  m = settings.mark

  abbrev bytes : ℕ → List ℕ
  bytes at = take (at * chunk) text

  abbrev piece : ℕ → List ℕ
  piece at = part chunk text at

  -- ---- before the container

  in_front : (n : ℕ) (ms : List Mark) → n ≤ suc aim.whole.start → AllByRecursion (Between 0 n) ms → AllByRecursion (Front aim) ms
  in_front n [] low h = tt
  in_front n (x ∷ ms) low h = (let t = h.0.to in omega (arith, t, low), in_front n ms low h.1)

  pub come_first : (at : ℕ) → at * chunk ≤ aim.whole.start → IsCutAt settings chunk text aim at (begun aim.whole)
  come_first at low =
      let long : length (bytes at) ≡ min (at * chunk) (length text) = length-take (at * chunk) text in
      sym (all_outside aim (tokens_by m (bytes at)).marks (begun aim.whole)
      (in_front (length (bytes at)) (tokens_by m (bytes at)).marks (omega (arith, long, low)) (tokens_between m (bytes at))))

  module _ (index : Index) (known : IsKnown settings chunk text index) (two : InPieces) where
    goes : (at : ℕ) → Goes m settings.depth (bytes at)
    goes at = goes_at settings chunk text known.goes two at

    -- ---- one chunk more

    -- by a track that is that of the chunk
    pub cut_next : (at base : ℕ) (track : Track) (c next : Cuts) → base ≡ length (bytes at) → track ≡ track_of (read_by m settings.depth 0 (bytes at)) (piece at)
        → next ≡ cut_all aim (moved_marks base track.marks) c → IsCutAt settings chunk text aim at c → IsCutAt settings chunk text aim (suc at) next
    cut_next at base track c next long same is was =
        let old = (tokens_by m (bytes at)).marks in
        let f = in_turn two m settings.depth (bytes at) (piece at) (goes at) in
        let new : moved_marks base track.marks ≡ moved_marks (length (bytes at)) (track_of (read_by m settings.depth 0 (bytes at)) (piece at)).marks =
        ap (λ (n : ℕ). moved_marks n track.marks) long ∙ ap (λ (t : Track). moved_marks (length (bytes at)) t.marks) same in
        is
        ∙ ap (cut_all aim (moved_marks base track.marks)) was
        ∙ sym (all_append aim old (moved_marks base track.marks) (begun aim.whole))
        ∙ ap (λ (ms : List Mark). cut_all aim (old ++ ms) (begun aim.whole)) new
        ∙ ap (λ (ms : List Mark). cut_all aim ms (begun aim.whole)) (sym f.marks)
        ∙ ap (λ (xs : List ℕ). cut_all aim (tokens_by m xs).marks (begun aim.whole)) (part_taken chunk text at)

    -- ---- a chunk that is passed over

    to_marks : (s : Span) (ms : List Mark) → AllByRecursion (Between s.start s.end) ms → AllByRecursion (IsMarkIn s) ms
    to_marks s [] h = tt
    to_marks s (x ∷ ms) h = (record { from = h.0.from; to = h.0.to }, to_marks s ms h.1)

    pub cut_over : (at : ℕ) (s : Span) (e : Entry) (c : Cuts) (sum : Sum) → (at ≡ 0 → ⊥) → chunk_at index at ≡ Some s → e ≡ entry settings chunk text at → IsPassed aim s e.sum c sum
        → IsCutAt settings chunk text aim at c → IsCutAt settings chunk text aim (suc at) (record c { sum = sum })
    cut_over at s e c sum other is same passed was =
        let b = base_is settings chunk text index known at s is in
        let track = later_track settings chunk text known.goes two at e.state (piece at) known.size other (let i = walked.inside settings chunk text index known at s is in omega (arith, i)) (ap (λ (x : Entry). x.state) same) refl in
        let here : piece at ≡ slice_range text s.start s.end = sym (chunk_is settings chunk text index known.indexed at s (stands_at index at s is)) in
        let stands = stands_at index at s is in
        let inside = stands.inside in
        let start = stands.start_is in
        let end = stands.end_is in
        let size = known.size in
        let chunk_size : index.chunk ≡ chunk = known.indexed.chunk_is in
        let short : length (piece at) ≡ min (s.end - s.start) (length (drop s.start text)) = ap (λ (xs : List ℕ). length xs) here ∙ length-take (s.end - s.start) (drop s.start text) in
        let ordered : s.start ≤ s.end = omega (arith, inside, start, end) in
        let fits : s.start + length (piece at) ≤ s.end = omega (arith, short, ordered) in
        let marks : (lex e.state s.start (piece at)).marks ≡ moved_marks s.start (lex e.state 0 (piece at)).marks = marks_on s.start e.state (piece at) in
        let sum_is : sum_of (lex e.state s.start (piece at)).marks ≡ e.sum =
        sum_on s.start e.state (piece at) ∙ ap (λ (t : Track). sum_of t.marks) track ∙ ap (λ (x : Entry). x.sum) (sym same) in
        let over = passed (lex e.state s.start (piece at)).marks (to_marks s (lex e.state s.start (piece at)).marks (lex_between e.state s.start (piece at) s.start s.end (omega arith) fits)) sum_is in
        cut_next at s.start (lex e.state 0 (piece at)) c (record c { sum = sum }) b track
        (sym over ∙ ap (λ (ms : List Mark). cut_all aim ms c) marks) was

    -- ---- at the end

    abbrev all : List Mark
    all = (tokens_by m text).marks

    -- behind the closing bracket nothing changes
    pub cut_over_all : (at : ℕ) (c : Cuts) → (c.sum.closed == 0) ≡ false → IsCutAt settings chunk text aim at c → c ≡ cut_all aim all (begun aim.whole)
    cut_over_all at c closed was =
        let f = in_turn two m settings.depth (bytes at) (drop (at * chunk) text) (goes at) in
        let more = moved_marks (length (bytes at)) (track_of (read_by m settings.depth 0 (bytes at)) (drop (at * chunk) text)).marks in
        sym (all_over aim more c closed)
        ∙ ap (cut_all aim more) was
        ∙ sym (all_append aim (tokens_by m (bytes at)).marks more (begun aim.whole))
        ∙ ap (λ (ms : List Mark). cut_all aim ms (begun aim.whole)) (sym f.marks)
        ∙ ap (λ (xs : List ℕ). cut_all aim (tokens_by m xs).marks (begun aim.whole)) (take-append-drop (at * chunk) text)

    -- where no chunk is left
    pub cut_last : (at : ℕ) (c : Cuts) → chunk_at index at ≡ None → IsCutAt settings chunk text aim at c → c ≡ cut_all aim all (begun aim.whole)
    cut_last at c none was =
        let past : index.size ≤ at * index.chunk = past_all index at none in
        let e : at * index.chunk ≡ at * chunk = ap (λ (n : ℕ). at * n) known.indexed.chunk_is in
        let z = known.indexed.size_is in
        was ∙ ap (λ (xs : List ℕ). cut_all aim (tokens_by m xs).marks (begun aim.whole)) (take_all (at * chunk) text (omega (arith, past, e, z)))
