-- Bytes of a text that are kept, as batches come.
use Rattle.std.specs.Prelude.{slice_range}
use Rattle.std.proofs.Common.{◌≡◌, ℕ, ◌+◌, ◌-◌, ◌≤◌, List, [], ◌∷◌, ◌++◌, length, drop, take, refl, sym, ap, ◌∙◌, arith, append_assoc, append-nil, length-append, length-drop}
use Rattle.std.proofs.lemmas.List.{drop-append-le, drop-drop, take-append-drop, take-append-le}
use Rattle.std.proofs.lemmas.List.Folds.{drop_split}
use Rattle.std.proofs.Math.Seq.{drop-append-add}
use Rattle.jx_values.specs.inside.Kept.{IsKept}

none_left : (l : List ℕ) → length l ≤ 0 → l ≡ []
none_left [] le = refl
none_left (b ∷ l) le = absurd (omega (arith, le))

module _ (text batch : List ℕ) where
  -- what is wanted begins in the batch
  pub keeps_anew : (base skipped to : ℕ) (bytes : List ℕ) → length text ≡ base → skipped ≤ to → to ≤ length batch → bytes ≡ slice_range batch skipped to → IsKept (text ++ batch) (base + skipped) bytes
  keeps_anew base skipped to bytes long low high is =
      let both : length (text ++ batch) ≡ length text + length batch = length-append text batch in
      record {
        within = omega (arith, both, long, low, high);
        rest = drop to batch;
        whole =
            ap (λ (n : ℕ). drop (n + skipped) (text ++ batch)) (sym long)
            ∙ drop-append-add text batch skipped
            ∙ drop_split batch skipped to low
            ∙ ap (λ (l : List ℕ). l ++ drop to batch) (sym is);
      }

  -- all that is behind its beginning was kept
  pub keeps_more : (base from to : ℕ) (bytes more : List ℕ) → length text ≡ base → IsKept text from bytes → length bytes ≡ base - from → more ≡ bytes ++ take to batch → IsKept (text ++ batch) from more
  keeps_more base from to bytes more long h full is =
      let both : length (text ++ batch) ≡ length text + length batch = length-append text batch in
      let left : length (drop from text) ≡ length text - from = length-drop from text in
      let parts : length (bytes ++ h.rest) ≡ length bytes + length h.rest = length-append bytes h.rest in
      let same : length (drop from text) ≡ length (bytes ++ h.rest) = ap (λ (l : List ℕ). length l) h.whole in
      let none : h.rest ≡ [] = none_left h.rest (omega (arith, left, parts, same, full, long)) in
      let in_text : from ≤ length text = h.within in
      record {
        within = omega (arith, both, in_text);
        rest = drop to batch;
        whole =
            drop-append-le from text batch h.within
            ∙ ap (λ (l : List ℕ). l ++ batch) (h.whole ∙ ap (λ (l : List ℕ). bytes ++ l) none ∙ append-nil bytes)
            ∙ ap (λ (l : List ℕ). bytes ++ l) (sym (take-append-drop to batch))
            ∙ sym (append_assoc bytes (take to batch) (drop to batch))
            ∙ ap (λ (l : List ℕ). l ++ drop to batch) (sym is);
      }

  -- nothing more is wanted
  pub keeps_on : (from : ℕ) (bytes : List ℕ) → IsKept text from bytes → IsKept (text ++ batch) from bytes
  keeps_on from bytes h =
      let both : length (text ++ batch) ≡ length text + length batch = length-append text batch in
      let in_text : from ≤ length text = h.within in
      record {
        within = omega (arith, both, in_text);
        rest = h.rest ++ batch;
        whole = drop-append-le from text batch h.within ∙ ap (λ (l : List ℕ). l ++ batch) h.whole ∙ append_assoc bytes h.rest batch;
      }

-- nothing is kept of any text
pub none_kept : (text : List ℕ) (from : ℕ) (bytes : List ℕ) → from ≡ 0 → bytes ≡ [] → IsKept text from bytes
none_kept text from bytes zero none = record {
  within = omega (arith, zero);
  rest = text;
  whole = ap (λ (n : ℕ). drop n text) zero ∙ ap (λ (l : List ℕ). l ++ text) (sym none);
}

-- a span of the text among them
kept_span : (text bytes : List ℕ) (from start end : ℕ) → IsKept text from bytes → from ≤ start → start ≤ end → end - from ≤ length bytes
    → slice_range bytes (start - from) (end - from) ≡ slice_range text start end
kept_span text bytes from start end h low order high =
    let a : ℕ = start - from in
    let there : from + a ≡ start = omega (arith, low) in
    let wide : (end - from) - a ≡ end - start = omega (arith, low, order) in
    let whole : drop start text ≡ drop a bytes ++ h.rest =
    ap (λ (n : ℕ). drop n text) (sym there)
    ∙ sym (drop-drop a from text)
    ∙ ap (drop a) h.whole
    ∙ drop-append-le a bytes h.rest (omega (arith, low, order, high)) in
    let left : length (drop a bytes) ≡ length bytes - a = length-drop a bytes in
    ap (λ (n : ℕ). take n (drop a bytes)) wide
    ∙ sym (take-append-le (end - start) (drop a bytes) h.rest (omega (arith, left, low, order, high)))
    ∙ ap (take (end - start)) (sym whole)

-- and in what they are appended to
pub span_among : (text front bytes more : List ℕ) (before from start end first last : ℕ) → IsKept text from bytes → length front ≡ before → from ≤ start → start ≤ end → end - from ≤ length bytes
    → first ≡ before + (start - from) → last ≡ before + (end - from) → slice_range ((front ++ bytes) ++ more) first last ≡ slice_range text start end
span_among text front bytes more before from start end first last h long low order high is_first is_last =
    let a : ℕ = start - from in
    let b : ℕ = end - from in
    let wide : last - first ≡ b - a = omega (arith, is_first, is_last, low, order) in
    let at : first ≡ length front + a = omega (arith, is_first, long) in
    let left : length (drop a bytes) ≡ length bytes - a = length-drop a bytes in
    let behind : drop first ((front ++ bytes) ++ more) ≡ drop a bytes ++ more =
    ap (λ (l : List ℕ). drop first l) (append_assoc front bytes more)
    ∙ ap (λ (n : ℕ). drop n (front ++ (bytes ++ more))) at
    ∙ drop-append-add front (bytes ++ more) a
    ∙ drop-append-le a bytes more (omega (arith, low, order, high)) in
    ap (λ (n : ℕ). take n (drop first ((front ++ bytes) ++ more))) wide
    ∙ ap (λ (l : List ℕ). take (b - a) l) behind
    ∙ take-append-le (b - a) (drop a bytes) more (omega (arith, left, high))
    ∙ kept_span text bytes from start end h low order high
