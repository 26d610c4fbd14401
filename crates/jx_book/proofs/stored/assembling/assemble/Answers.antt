use Rattle.std.proofs.Common.{◌≡◌, ◌≤◌, List, [], ◌∷◌, ◌++◌, length, length-append, sym, ap, ◌∙◌, subst, arith}
use Rattle.std.specs.Prelude.{All}
use Rattle.std.proofs.Math.Seq.{get_or-append_seam}
use Rattle.std.proofs.lemmas.List.{get_or_append_left}
use Rattle.jx_summary.specs.declared.span.Span.{Span}
use Rattle.jx_book.specs.Runs.{HeldValue, IsApart}
use Rattle.jx_book.specs.Shares.{IsOf}
use Rattle.jx_book.specs.Gathered.{IsRest}
use Rattle.jx_book.proofs.Alls.{front_of, last_of}
use Rattle.jx_book.proofs.stored.assembling.assemble.Goals as goal

module _ {S : Type 0} (xs : List (HeldValue S)) (y : HeldValue S) where
  front_apart : IsApart (xs ++ y ∷ []) → IsApart xs
  front_apart h =
      let n = length-append xs (y ∷ []) in
      record {
        filled = λ k d l. rw (sym (get_or_append_left xs (y ∷ []) d k l)) (h.filled k d (omega arith));
        apart = λ i j d less l. rw (sym (get_or_append_left xs (y ∷ []) d i (omega arith)), sym (get_or_append_left xs (y ∷ []) d j l)) (h.apart i j d less (omega arith));
      }

  front_before : IsApart (xs ++ y ∷ []) → All (λ (r : HeldValue S). r.span.end ≤ y.span.start) xs
  front_before h k d l =
      let n = length-append xs (y ∷ []) in
      let a = h.apart k (length xs) d l (omega arith) in
      omega (arith, a, ap (λ (r : HeldValue S). r.span.end) (get_or_append_left xs (y ∷ []) d k l), ap (λ (r : HeldValue S). r.span.start) (get_or-append_seam xs y [] d))

pub put_before-requires : goal.put_before-requires
put_before-requires g c =
    let i = c.loop-run.invariant in
    let front : List (HeldValue g.row.S.Denot) = c.pop.new.self.items in
    let run = c.in-Some.run' in
    let items : c.loop-run.runs.items ≡ front ++ run ∷ [] = c.in-Some.ensures.items in
    let of : HeldValue g.row.S.Denot → Type 0 = IsOf c.args.text.now c.args.depth in
    let before : HeldValue g.row.S.Denot → Type 0 = λ r. r.span.end ≤ c.loop-run.rest.span.start in
    record {
      of = last_of of c.loop-run.runs.items front run items i.of;
      bound = last_of before c.loop-run.runs.items front run items i.before;
      rest = i.rest;
    }

pub loop-run-preserved : goal.loop-run-preserved
loop-run-preserved g c =
    let i = c.loop-run.invariant in
    let front : List (HeldValue g.row.S.Denot) = c.pop.new.self.items in
    let run = c.in-Some.run' in
    let items : c.loop-run.runs.items ≡ front ++ run ∷ [] = c.in-Some.ensures.items in
    let all : IsApart (front ++ run ∷ []) = subst (λ (l : List (HeldValue g.row.S.Denot)). IsApart l) items i.apart in
    let of : HeldValue g.row.S.Denot → Type 0 = IsOf c.args.text.now c.args.depth in
    let now : IsRest c.args.text.now c.args.depth run.span.start c.in_ok-rest-2.rest = c.in_ok-rest-2.ensures in
    let start : c.in_ok-rest-2.rest.span.start ≡ run.span.start = ap (λ (p : Span). p.start) now.span_is in
    record {
      apart = front_apart front run all;
      of = front_of of c.loop-run.runs.items front run items i.of;
      rest = record { text_is = now.text_is; depth_is = now.depth_is; span_is = now.span_is ∙ (λ j. record { start = sym start j; end = length c.args.text.now }) };
      front = omega (arith, start, c.if-span-front.false, ap (λ (p : Span). p.start) c.span-span.ensures.span);
      before = λ k d l. omega (arith, front_before front run all k d l, start);
    }
