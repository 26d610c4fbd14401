-- One more piece of a worker.
use Rattle.std.proofs.Common.{◌≡◌, ℕ, List, [], ◌∷◌, ◌++◌, Some, append_assoc, sym, ap, ◌∙◌, subst, arith}
use Rattle.std.specs.Prelude.{slice_get, slice_index_or}
use Rattle.std.proofs.lemmas.List.Sums.{sum_by_push}
use Rattle.std.proofs.lemmas.Option.{get_or_from_slice_get}
use Rattle.jx_claim.specs.Claimed.{SeatValue}
use Rattle.jx_summary.specs.declared.span.Span.{Span}
use Rattle.jx_book.specs.Spans.{span, span_len}
use Rattle.jx_book.specs.Shares.{ShareValue}
use Rattle.jx_claim.specs.Cut.{drawn_len, piece_len, no_span}
use Rattle.jx_book.specs.declared.workers.worker.Hand.{Hand}
use Rattle.jx_book.specs.declared.workers.worker.Hand.TheVariants.{Nothing, Piece, One, Two}
use Rattle.jx_book.specs.Worked.{HandedOver, HasSpan, IsLeft, Within, Worked}

-- the piece that was read
pub read_piece : (ps : List Span) (p : ℕ) (piece span : Span) → slice_get ps p ≡ Some piece → span ≡ record { start = piece.start; end = piece.end } → slice_index_or ps p no_span ≡ span
read_piece ps p piece span is same = get_or_from_slice_get ps p piece no_span is ∙ sym same

-- its length
pub read_len : (ps : List Span) (p : ℕ) (piece span : Span) → slice_get ps p ≡ Some piece → span ≡ record { start = piece.start; end = piece.end } → piece_len ps p ≡ span_len span
read_len ps p piece span is same = ap span_len (read_piece ps p piece span is same)

module _ {S : Type 0} where
  -- runs that have the piece of the last number
  pub is_left : (ps : List Span) (before got : List ℕ) (p : ℕ) (a : Span) (hand : Hand S) → got ≡ before ++ p ∷ [] → slice_index_or ps p no_span ≡ a → HasSpan a hand → IsLeft ps got hand
  is_left ps before got p a Nothing is same h = (p, (before, is), tt)
  is_left ps before got p a (Piece q) is same h = absurd h
  is_left ps before got p a (One r) is same h = (p, (before, is), subst (λ (b : Span). Within b r.span) (sym same) h)
  is_left ps before got p a (Two l r) is same (meet, fl, fr, w) = (p, (before, is), (meet, fl, fr, subst (λ (b : Span). Within b (span l.span.start r.span.end)) (sym same) w))

pub worked_more : (ps : List Span) (s0 : SeatValue) (h0 : ShareValue) (s : SeatValue) (h : ShareValue) (s' : SeatValue) (h' : ShareValue) (p len left : ℕ)
    → Worked ps s0 h0 s h 0 → (s'.id ≡ s.id) × (s'.number ≡ s.number) → s'.got ≡ s.got ++ p ∷ [] → piece_len ps p ≡ len → HandedOver len h h' left → Worked ps s0 h0 s' h' left
worked_more ps s0 h0 s h s' h' p len left w same got is over = record {
  id = same.0 ∙ w.id;
  number = same.1 ∙ w.number;
  grown = (w.grown.0 ++ p ∷ [], got ∙ ap (λ l. l ++ p ∷ []) w.grown.1 ∙ append_assoc s0.got w.grown.0 (p ∷ []));
  bytes = omega (arith, w.bytes, ap (drawn_len ps) got, sum_by_push (piece_len ps) s.got p, is, over);
}
