-- Stretches of a text whose marks are those that a word lists.
use Rattle.std.proofs.Common.{◌≡◌, ℕ, suc, ◌+◌, ◌<◌, ◌≤◌, List, [], ◌∷◌, ◌++◌, length, get_or, Option, Some, ap, sym, ◌∙◌, arith}
use Rattle.std.specs.Prelude.{slice_range}
use Rattle.jx_lex.specs.declared.alphabet.mark.MarkKind.{MarkKind}
use Rattle.jx_lex.specs.declared.alphabet.state.LexState.{LexState}
use Rattle.jx_lex.specs.declared.alphabet.state.Step.{Step}
use Rattle.jx_lex.specs.Lex.{Track, lex, with_mark, on_next}
use Rattle.jx_lex.specs.Lex as reading
use Rattle.jx_lex.specs.Moves.{move}
use Rattle.jx_lex.proofs.Keeping.{lex-then}
use Rattle.jx_lex.proofs.OneByte.{one-is}
use Rattle.jx_lex.proofs.Slices.{slice-none, slice-more, slice-length, slice-split}
use Rattle.jx_block.specs.Listed.{marks_of}
use Rattle.jx_block.proofs.Listing.{mark_at, marks_of-append, marks_of-one}

-- The bytes p to r of a block that begins at an offset are read from one state to another, with the marks that the word lists.
pub record Piece (text : List ℕ) (at starts p r : ℕ) (s t : LexState) : Type 0 where
  pub marks : (lex s (at + p) (slice_range text (at + p) (at + r))).marks ≡ marks_of starts p (at + p) (slice_range text (at + p) (at + r))
  pub exit : (lex s (at + p) (slice_range text (at + p) (at + r))).exit ≡ reading.state t

module _ (text : List ℕ) (at starts : ℕ) where
  pub piece-none : (p : ℕ) (s : LexState) → Piece text at starts p p s s
  unfolding lex marks_of
  piece-none p s =
      let none = slice-none text (at + p) in
      record {
        marks = ap (λ u. (lex s (at + p) u).marks) none ∙ ap (marks_of starts p (at + p)) (sym none);
        exit = ap (λ u. (lex s (at + p) u).exit) none;
      }

  pub marks-join : (p q r : ℕ) → p ≤ q → q ≤ r → at + r ≤ length text
      → marks_of starts p (at + p) (slice_range text (at + p) (at + q)) ++ marks_of starts q (at + q) (slice_range text (at + q) (at + r)) ≡ marks_of starts p (at + p) (slice_range text (at + p) (at + r))
  marks-join p q r low high fits =
      let w = slice_range text (at + p) (at + q) in
      let v = slice_range text (at + q) (at + r) in
      let long = slice-length text (at + p) (at + q) (omega arith) (omega arith) in
      let e : p + length w ≡ q = omega (arith, long) in
      let f : at + p + length w ≡ at + q = omega (arith, long) in
      sym
      (ap (marks_of starts p (at + p)) (slice-split text (at + p) (at + q) (at + r) (omega arith) (omega arith))
      ∙ marks_of-append starts p (at + p) w v
      ∙ ap (λ k. marks_of starts p (at + p) w ++ marks_of starts k (at + p + length w) v) e
      ∙ ap (λ a. marks_of starts p (at + p) w ++ marks_of starts q a v) f)

  pub piece-then : (p q r : ℕ) (s t u : LexState) → p ≤ q → q ≤ r → at + r ≤ length text → Piece text at starts p q s t → Piece text at starts q r t u → Piece text at starts p r s u
  piece-then p q r s t u low high fits one two =
      let whole = lex-then text (at + p) (at + q) (at + r) s t (omega arith) (omega arith) (omega arith) one.exit in
      record {
        marks = ap (λ (x : Track). x.marks) whole ∙ (λ i. one.marks i ++ two.marks i) ∙ marks-join p q r low high fits;
        exit = ap (λ (x : Track). x.exit) whole ∙ two.exit;
      }

  pub slice-one : (p : ℕ) → at + p < length text → slice_range text (at + p) (at + (p + 1)) ≡ get_or text (at + p) 0 ∷ []
  slice-one p lt =
      let e : at + (p + 1) ≡ at + p + 1 = omega arith in
      ap (slice_range text (at + p)) e ∙ slice-more text (at + p) (at + p) 0 (omega arith) lt ∙ ap (λ ys. ys ++ get_or text (at + p) 0 ∷ []) (slice-none text (at + p))

  -- one byte
  pub piece-one : (p : ℕ) (s t : LexState) (m : Step) → at + p < length text → move s (get_or text (at + p) 0) ≡ m → m.next ≡ Some t
      → m.begin ≡ mark_at starts p (get_or text (at + p) 0) → Piece text at starts p (p + 1) s t
  unfolding lex
  piece-one p s t m lt is next begun =
      let b = get_or text (at + p) 0 in
      let whole = ap (lex s (at + p)) (slice-one p lt) ∙ one-is (at + p) b s in
      record {
        marks =
            ap (λ (x : Track). x.marks) whole ∙ ap (λ (m : Step). with_mark m.begin (at + p) []) is ∙ ap (λ (o : Option MarkKind). with_mark o (at + p) []) begun
            ∙ sym (ap (marks_of starts p (at + p)) (slice-one p lt) ∙ marks_of-one starts p (at + p) b);
        exit =
            ap (λ (x : Track). x.exit) whole ∙ ap (λ (m : Step). (on_next m.next (at + p) (λ n. lex n (suc (at + p)) [])).exit) is
            ∙ ap (λ (o : Option LexState). (on_next o (at + p) (λ n. lex n (suc (at + p)) [])).exit) next;
      }
