-- A scalar, and the byte before which it ends, are read as the word lists them.
use Rattle.std.proofs.Common.{◌≡◌, inl, inr, ℕ, suc, ◌+◌, ◌<◌, Bool, true, false, List, [], ◌∷◌, ◌++◌, length, get_or, Option, Some, None, if◌then◌else◌, refl, ap, sym, ◌∙◌, arith}
use Rattle.std.specs.Prelude.{slice_range}
use Rattle.jx_lex.specs.declared.alphabet.mark.Mark.{Mark}
use Rattle.jx_lex.specs.declared.alphabet.mark.MarkKind.{MarkKind}
use Rattle.jx_lex.specs.declared.alphabet.state.LexState.{LexState}
use Rattle.jx_lex.specs.declared.alphabet.state.LexState.TheVariants as state
use Rattle.jx_lex.specs.declared.alphabet.state.Step.{Step}
use Rattle.jx_lex.specs.declared.alphabet.state.TokenEnd.TheVariants.{Before}
use Rattle.jx_lex.specs.Lex.{Track, lex, with_mark, after_step, on_next}
use Rattle.jx_lex.specs.Lex as reading
use Rattle.jx_lex.specs.Moves.{move, begin, structural, fault}
use Rattle.jx_lex.specs.Token.{IsBlank, space, tab, line_feed, carriage_return}
use Rattle.jx_lex.specs.TokenStates.{mark_of}
use Rattle.jx_lex.specs.TokenSteps.{GapStep, a_blank, a_token, a_mark, no_step}
use Rattle.jx_lex.specs.Uneventful.{is_blank}
use Rattle.jx_lex.proofs.Keeping.{lex-then}
use Rattle.jx_lex.proofs.OneByte.{one-is}
use Rattle.jx_lex.proofs.Recognized.{gap_step}
use Rattle.jx_lex.proofs.Slices.{slice-first, slice-none, slice-length}
use Rattle.jx_block.specs.inside.Planes.{is_stop}
use Rattle.jx_block.specs.inside.Whole.{IsScalar}
use Rattle.jx_block.specs.Listed.{is_set, marks_of}
use Rattle.jx_block.proofs.Bytes.{stop_stays, stop_ends}
use Rattle.jx_block.proofs.Listing.{mark_at, marks_of-one, marks_of-first, marks_of-none}
use Rattle.jx_block.proofs.Pieces.{Piece, slice-one, marks-join}

blank-is : {b : ℕ} → IsBlank b → is_blank b ≡ true
blank-is space = refl
blank-is tab = refl
blank-is line_feed = refl
blank-is carriage_return = refl

-- what one byte gives, before what the others give
step-is : (m : Step) (at b : ℕ) (w : List ℕ) → move state.Gap b ≡ m → (lex state.Gap at (b ∷ w)).marks ≡ (after_step m at (on_next m.next at (λ next. lex next (suc at) w))).marks
unfolding lex
step-is m at b w e = ap (λ (m : Step). (after_step m at (on_next m.next at (λ next. lex next (suc at) w))).marks) e

-- where bytes have one mark, and the first is no blank, it is the first one's
first_mark : (at b : ℕ) (w : List ℕ) (m : Mark) → is_blank b ≡ false → (lex state.Gap at (b ∷ w)).marks ≡ m ∷ [] → (lex state.Gap at (b ∷ w)).marks ≡ with_mark ((move state.Gap b).begin) at []
first_mark at b w m solid marks = by_step (gap_step b)
  where
    begun : (k : MarkKind) (rest : List Mark) → (lex state.Gap at (b ∷ w)).marks ≡ record { kind = k; at = at } ∷ rest → (move state.Gap b).begin ≡ Some k
        → (lex state.Gap at (b ∷ w)).marks ≡ with_mark ((move state.Gap b).begin) at []
    begun k rest same is =
        let one : record { kind = k; at = at } ∷ rest ≡ m ∷ [] = sym same ∙ marks in
        let none : rest ≡ [] = cc in
        same ∙ ap (λ (ms : List Mark). record { kind = k; at = at } ∷ ms) none ∙ ap (λ (o : Option MarkKind). with_mark o at []) (sym is)

    by_step : GapStep b → (lex state.Gap at (b ∷ w)).marks ≡ with_mark ((move state.Gap b).begin) at []
    by_step (a_blank blank e) = let clash : true ≡ false = sym (blank-is blank) ∙ solid in cc
    by_step (a_token k entry scalar entered e) = begun (mark_of k) (lex entry (suc at) w).marks (step-is (begin (mark_of k) entry) at b w e) (ap (λ (s : Step). s.begin) e)
    by_step (a_mark {k = k} is e) = begun k (lex state.Gap (suc at) w).marks (step-is (structural k) at b w e) (ap (λ (s : Step). s.begin) e)
    by_step (no_step e) = let clash = sym (step-is fault at b w e) ∙ marks in absurd cc

module _ (text : List ℕ) (from to : ℕ) (low : from < to) (fits : to < length text) (solid : is_blank (get_or text from 0) ≡ false) where
  -- the mark of the first byte
  abbrev mark : List Mark
  mark = with_mark ((move state.Gap (get_or text from 0)).begin) from []

  -- the mark of a scalar
  one_mark : (m : Mark) → (lex state.Gap from (slice_range text from to)).marks ≡ m ∷ [] → (lex state.Gap from (slice_range text from to)).marks ≡ mark
  one_mark m marks =
      let first = slice-first text from to 0 low (omega arith) in
      ap (λ l. (lex state.Gap from l).marks) first
      ∙ first_mark from (get_or text from 0) (slice_range text (from + 1) to) m solid (ap (λ l. (lex state.Gap from l).marks) (sym first) ∙ marks)

  -- with the byte behind it
  abbrev With_behind : Type 0
  With_behind =
      ((lex state.Gap from (slice_range text from (to + 1))).marks ≡ mark ++ with_mark ((move state.Gap (get_or text to 0)).begin) to [])
      × ((lex state.Gap from (slice_range text from (to + 1))).exit ≡ reading.state state.Gap)

  with_behind : (last : LexState) (m : Step) (k : Mark) → (lex state.Gap from (slice_range text from to)).marks ≡ k ∷ [] → (lex state.Gap from (slice_range text from to)).exit ≡ reading.state last
      → move last (get_or text to 0) ≡ m → m.begin ≡ (move state.Gap (get_or text to 0)).begin → m.next ≡ Some state.Gap → With_behind
  unfolding lex
  with_behind last m k marks exit is begun next =
      let b = get_or text to 0 in
      let one : slice_range text to (to + 1) ≡ b ∷ [] = slice-first text to (to + 1) 0 (omega arith) (omega arith) ∙ ap (λ ys. b ∷ ys) (slice-none text (to + 1)) in
      let second = ap (lex last to) one ∙ one-is to b last in
      let whole = lex-then text from to (to + 1) state.Gap last (omega arith) (omega arith) (omega arith) exit in (
        ap (λ (x : Track). x.marks) whole
            ∙ (λ i. one_mark k marks i ++ (ap (λ (x : Track). x.marks) second ∙ ap (λ (m : Step). with_mark m.begin to []) is ∙ ap (λ (o : Option MarkKind). with_mark o to []) begun) i),
        ap (λ (x : Track). x.exit) whole ∙ ap (λ (x : Track). x.exit) second
            ∙ ap (λ (m : Step). (on_next m.next to (λ n. lex n (suc to) [])).exit) is ∙ ap (λ (o : Option LexState). (on_next o to (λ n. lex n (suc to) [])).exit) next,
      )

  pub scalar_read : is_stop (get_or text to 0) ≡ true → IsScalar text from to → With_behind
  scalar_read stop (inl n) =
      let b = get_or text to 0 in
      with_behind n.last (record (move state.Gap b) { end = Some Before }) _ n.marks_are n.exit (stop_ends n.last n.may_end b stop) refl (stop_stays b stop)
  scalar_read stop (inr p) = with_behind state.Gap (move state.Gap (get_or text to 0)) _ p.passes.marks_are p.passes.exit refl refl (stop_stays (get_or text to 0) stop)

-- The same, as the word of a block lists it.
module _ (text : List ℕ) (at starts p e : ℕ) (low : p < e) (fits : at + e < length text) where
  abbrev byte : ℕ → ℕ
  byte j = get_or text (at + j) 0

  marks_listed : is_set starts p ≡ true → ((j : ℕ) → p < j → j < e → is_set starts j ≡ false) → mark_at starts e (byte e) ≡ (move state.Gap (byte e)).begin
      → marks_of starts p (at + p) (slice_range text (at + p) (at + (e + 1)))
      ≡ with_mark ((move state.Gap (byte p)).begin) (at + p) [] ++ with_mark ((move state.Gap (byte e)).begin) (at + e) []
  marks_listed set none last =
      let w = slice_range text (at + p + 1) (at + e) in
      let long = slice-length text (at + p + 1) (at + e) (omega arith) (omega arith) in
      let f = λ (j : ℕ) (lt : j < length w). none (suc p + j) (omega arith) (omega (arith, long)) in
      sym (marks-join text at starts p e (e + 1) (omega arith) (omega arith) (omega arith))
      ∙ (λ i.
      (ap (marks_of starts p (at + p)) (slice-first text (at + p) (at + e) 0 (omega arith) (omega arith))
      ∙ marks_of-first starts p (at + p) (byte p) w
      ∙ ap (with_mark (mark_at starts p (byte p)) (at + p)) (marks_of-none starts (suc p) (suc (at + p)) w f)
      ∙ ap (λ (t : Bool). with_mark (if t then (move state.Gap (byte p)).begin else None) (at + p) []) set) i
      ++ (ap (marks_of starts e (at + e)) (slice-one text at starts e fits)
      ∙ marks_of-one starts e (at + e) (byte e)
      ∙ ap (λ (o : Option MarkKind). with_mark o (at + e) []) last) i)

  pub piece-scalar : is_blank (byte p) ≡ false → is_stop (byte e) ≡ true → IsScalar text (at + p) (at + e)
      → is_set starts p ≡ true → ((j : ℕ) → p < j → j < e → is_set starts j ≡ false) → mark_at starts e (byte e) ≡ (move state.Gap (byte e)).begin
      → Piece text at starts p (e + 1) state.Gap state.Gap
  piece-scalar solid stop scalar set none last =
      let n : at + (e + 1) ≡ at + e + 1 = omega arith in
      let read = scalar_read text (at + p) (at + e) (omega arith) fits solid stop scalar in
      record {
        marks = ap (λ c. (lex state.Gap (at + p) (slice_range text (at + p) c)).marks) n ∙ read.0 ∙ sym (marks_listed set none last);
        exit = ap (λ c. (lex state.Gap (at + p) (slice_range text (at + p) c)).exit) n ∙ read.1;
      }
