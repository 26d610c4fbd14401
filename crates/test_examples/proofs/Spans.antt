-- One element more.
use Rattle.std.proofs.Common.{◌≡◌, ℕ, suc, ◌+◌, ◌<◌, List, [], ◌∷◌, ◌++◌, length, take, get_or, refl, sym, ap, ◌∙◌, arith, append_assoc, append-nil}
use Rattle.std.proofs.Math.Seq.{take-suc}
use Rattle.jx_answer.specs.declared.element.Element.{Element}
use Rattle.test_examples.specs.Wholes.{accepted_spans, span_if}

spans-append : (xs ys : List Element) → accepted_spans (xs ++ ys) ≡ accepted_spans xs ++ accepted_spans ys
spans-append [] ys = refl
spans-append (x ∷ xs) ys =
    ap (λ r. span_if x.answer x.span ++ r) (spans-append xs ys) ∙ sym (append_assoc (span_if x.answer x.span) (accepted_spans xs) (accepted_spans ys))

pub spans_more : (elements : List Element) (i : ℕ) (element d : Element) → i < length elements → element ≡ get_or elements i d
    → accepted_spans (take i elements) ++ span_if element.answer element.span ≡ accepted_spans (take (i + 1) elements)
spans_more elements i element d h is =
    let front = accepted_spans (take i elements) in
    sym (
    ap (λ n. accepted_spans (take n elements)) (let s : i + 1 ≡ suc i = omega arith in s)
    ∙ ap accepted_spans (take-suc elements i d h)
    ∙ spans-append (take i elements) (get_or elements i d ∷ [])
    ∙ ap (λ (e : Element). front ++ (span_if e.answer e.span ++ [])) (sym is)
    ∙ ap (λ x. front ++ x) (append-nil (span_if element.answer element.span))
    )
