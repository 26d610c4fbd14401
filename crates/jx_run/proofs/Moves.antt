-- Elements whose bytes stand further on.
use Rattle.std.proofs.Common.{◌≡◌, ℕ, suc, ◌+◌, ◌^◌, ◌<◌, ◌≤◌, List, [], ◌∷◌, length, map, Bool, true, false, cond, refl, sym, ap, subst, ◌∙◌, arith}
use Rattle.std.proofs.Math.Nat.{add-suc}
use Rattle.std.specs.List.{AllZip}
use Rattle.jx_summary.specs.declared.span.Span.{Span}
use Rattle.jx_lex.specs.declared.alphabet.state.LexState.TheVariants as state
use Rattle.jx_reduce.specs.declared.table.expect.Expect.TheVariants as expect
use Rattle.jx_run.specs.declared.sequences.element_verdict.ElementVerdict.{ElementVerdict}
use Rattle.jx_run.specs.declared.sequences.element_verdict.ElementVerdict.TheVariants as element
use Rattle.jx_run.specs.declared.sequences.element_verdict.JudgedElement.{JudgedElement}
use Rattle.jx_run.specs.declared.texts.verdict.Refusal.{Refusal}
use Rattle.jx_run.specs.declared.texts.verdict.Refusal.TheVariants as refusal
use Rattle.jx_run.specs.declared.texts.verdict.Verdict.{Verdict}
use Rattle.jx_run.specs.declared.texts.verdict.Verdict.TheVariants.{Accepted, Refused}
use Rattle.jx_run.specs.Elements.{Part, part, is_separator, before_separator, after_separators, filled, has_bytes, elements}
use Rattle.jx_run.specs.ElementVerdict.{IsClosedText, IsUnclosedText, IsVerdictOn, IsJudgedElement}
use Rattle.jx_run.specs.Laws.{is_end, verdict_of}
use Rattle.jx_run.specs.inside.Moved.{moved, moved_refusal, moved_verdict}
use Rattle.jx_run.specs.Reading.{TextReading, went, stopped, too_deep, read, read_text}
use Rattle.jx_run.specs.ReaderInside.{offset_at, shifted}
use Rattle.jx_run.specs.Tree.{span}
use Rattle.jx_run.specs.Verdict as by
use Rattle.jx_run.specs.Verdict.{Judged, a_text, cut_short}
use Rattle.jx_run.proofs.LawProofs.{Verdicts}
use Rattle.jx_run.proofs.OpenEnds.{element_shows}
use Rattle.jx_run.proofs.ReaderSteps.{read-shift}
use Rattle.jx_run.proofs.VerdictLaws.{one_verdict, tree_in}

-- ---- readings and verdicts

pub shifted-twice : (a b : ℕ) (r : TextReading) → shifted (a + b) r ≡ shifted a (shifted b r)
shifted-twice a b (went s e o) = refl
shifted-twice a b (stopped at) = ap (λ (k : ℕ). stopped k) (let e : a + b + at ≡ a + (b + at) = omega arith in e)
shifted-twice a b (too_deep at) = ap (λ (k : ℕ). too_deep k) (let e : a + b + at ≡ a + (b + at) = omega arith in e)

read_text-moved : (limit more at : ℕ) (bytes : List ℕ) → read_text limit (more + at) bytes ≡ shifted more (read_text limit at bytes)
read_text-moved limit more at bytes =
    read-shift limit (more + at) state.Gap expect.Value [] bytes
    ∙ shifted-twice more at (read limit state.Gap expect.Value [] 0 bytes)
    ∙ ap (shifted more) (sym (read-shift limit at state.Gap expect.Value [] bytes))

-- with offsets that may be greater than a word
abbrev pub grown : ℕ → Verdict → Verdict
grown more Accepted = Accepted
grown more (Refused (refusal.Stopped at)) = Refused (refusal.Stopped (more + at))
grown more (Refused refusal.Truncated) = Refused refusal.Truncated
grown more (Refused (refusal.TooDeep at)) = Refused (refusal.TooDeep (more + at))
grown more (Refused (refusal.RepeatedName at)) = Refused (refusal.RepeatedName (more + at))

verdict-shifted : (more : ℕ) (r : TextReading) → verdict_of (shifted more r) ≡ grown more (verdict_of r)
verdict-shifted more (went s e o) = pick (is_end s e o)
  where
    pick : (b : Bool) → cond b Accepted (Refused refusal.Truncated) ≡ grown more (cond b Accepted (Refused refusal.Truncated))
    pick true = refl
    pick false = refl
verdict-shifted more (stopped at) = refl
verdict-shifted more (too_deep at) = refl

pub judged-grown : Verdicts → (limit more at : ℕ) (bytes : List ℕ) (v : Verdict) → Judged at bytes limit v → Judged (more + at) bytes limit (grown more v)
judged-grown law limit more at bytes v j =
    subst (λ (x : Verdict). Judged (more + at) bytes limit x)
    (ap verdict_of (read_text-moved limit more at bytes)
    ∙ verdict-shifted more (read_text limit at bytes)
    ∙ ap (grown more) (one_verdict at bytes limit (verdict_of (read_text limit at bytes)) v (law limit at bytes) j))
    (law limit (more + at) bytes)

pub fits : (b at : ℕ) → b + at < 2 ^ 64 → offset_at b at ≡ b + at
fits b at h = omega arith

-- no fault lies past the bytes
grown_fits : (more at : ℕ) (bytes : List ℕ) (limit : ℕ) (v : Verdict) (r : Refusal) → Judged at bytes limit v → v ≡ Refused r → more + (at + length bytes) < 2 ^ 64
    → grown more v ≡ Refused (moved_refusal more r)
grown_fits more at bytes limit _ r (a_text d) e low = absurd (cc)
grown_fits more at bytes limit _ r (cut_short n x) e low = let same : refusal.Truncated ≡ r = cc in ap (λ (z : Refusal). Refused (moved_refusal more z)) same
grown_fits more at bytes limit _ r (by.too_deep {k = k} n x lt b) e low =
    let same : refusal.TooDeep (at + k) ≡ r = cc in
    let small : more + (at + k) < 2 ^ 64 = omega (arith, lt, low) in
    ap (λ (i : ℕ). Refused (refusal.TooDeep i)) (sym (fits more (at + k) small)) ∙ ap (λ (z : Refusal). Refused (moved_refusal more z)) same
grown_fits more at bytes limit _ r (by.stopped {k = k} n x lt b) e low =
    let same : refusal.Stopped (at + k) ≡ r = cc in
    let small : more + (at + k) < 2 ^ 64 = omega (arith, lt, low) in
    ap (λ (i : ℕ). Refused (refusal.Stopped i)) (sym (fits more (at + k) small)) ∙ ap (λ (z : Refusal). Refused (moved_refusal more z)) same

-- ---- elements

abbrev pub moved_part : ℕ → Part → Part
moved_part more p = part (more + p.at) p.bytes

closed_moved : Verdicts → (limit more : ℕ) (p : Part) → IsClosedText p limit → IsClosedText (moved_part more p) limit
closed_moved law limit more p h =
    let j = judged-grown law limit more p.at p.bytes Accepted h.accepted.judged in
    let t = tree_in j in
    record {
      tree = t.0;
      accepted = record { judged = j; is_text = t.1 };
      closed = λ u. h.closed ((element_shows p limit h.tree h.accepted.is_text).1 ((element_shows (moved_part more p) limit t.0 t.1).0 u));
    }

unclosed_moved : Verdicts → (limit more : ℕ) (p : Part) → IsUnclosedText p limit → IsUnclosedText (moved_part more p) limit
unclosed_moved law limit more p h =
    let j = judged-grown law limit more p.at p.bytes Accepted h.accepted.judged in
    let t = tree_in j in
    record {
      tree = t.0;
      accepted = record { judged = j; is_text = t.1 };
      unclosed = (element_shows (moved_part more p) limit t.0 t.1).1 ((element_shows p limit h.tree h.accepted.is_text).0 h.unclosed);
    }

verdict_moved : Verdicts → (limit more : ℕ) (p : Part) (v : ElementVerdict) → 0 < p.at → more + (p.at + length p.bytes) < 2 ^ 64 → IsVerdictOn p limit v
    → IsVerdictOn (moved_part more p) limit (moved_verdict more v)
verdict_moved law limit more p element.Unmarked marked low h = absurd (omega (arith, marked, h))
verdict_moved law limit more p (element.Refused r) marked low h = (
  omega (arith, marked),
  subst (λ (x : Verdict). Judged (more + p.at) p.bytes limit x) (grown_fits more p.at p.bytes limit (Refused r) r h.1 refl low) (judged-grown law limit more p.at p.bytes (Refused r) h.1),
)
verdict_moved law limit more p element.MayBeCut marked low h = (omega (arith, marked), unclosed_moved law limit more p h.1)
verdict_moved law limit more p element.Accepted marked low h = (omega (arith, marked), closed_moved law limit more p h.1)

pub element_moved : Verdicts → (limit more : ℕ) (p : Part) (e : JudgedElement) → 0 < p.at → more + (p.at + length p.bytes) < 2 ^ 64 → IsJudgedElement limit p e
    → IsJudgedElement limit (moved_part more p) (moved more e)
element_moved law limit more p e marked low h =
    let start : e.span.start ≡ p.at = ap (λ (s : Span). s.start) h.span_is in
    let end : e.span.end ≡ p.at + length p.bytes = ap (λ (s : Span). s.end) h.span_is in
    record {
      span_is = ap (λ (i : ℕ). span i (offset_at more e.span.end)) (let x : offset_at more e.span.start ≡ more + p.at = omega (arith, start, low) in x)
          ∙ ap (span (more + p.at)) (let x : offset_at more e.span.end ≡ more + p.at + length p.bytes = omega (arith, end, low) in x);
      verdict_is = verdict_moved law limit more p e.verdict marked low h.verdict_is;
    }

-- ---- the elements behind separators

pub before-short : (xs : List ℕ) → length (before_separator xs) ≤ length xs
before-short [] = omega arith
before-short (b ∷ xs) = pick (is_separator b) (before-short xs)
  where
    pick : (m : Bool) → length (before_separator xs) ≤ length xs → length (cond m [] (b ∷ before_separator xs)) ≤ length (b ∷ xs)
    pick true h = omega arith
    pick false h = omega (arith, h)

pub parts_moved : (more at : ℕ) (xs : List ℕ) → after_separators (more + at) xs ≡ map (moved_part more) (after_separators at xs)
parts_moved more at [] = refl
parts_moved more at (b ∷ xs) =
    ap (λ (i : ℕ). cond (is_separator b) (part i (before_separator xs) ∷ after_separators i xs) (after_separators i xs)) (sym (add-suc more at)) ∙ pick (is_separator b) (parts_moved more (suc at) xs)
  where
    pick : (m : Bool) → after_separators (more + suc at) xs ≡ map (moved_part more) (after_separators (suc at) xs)
        → cond m (part (more + suc at) (before_separator xs) ∷ after_separators (more + suc at) xs) (after_separators (more + suc at) xs)
        ≡ map (moved_part more) (cond m (part (suc at) (before_separator xs) ∷ after_separators (suc at) xs) (after_separators (suc at) xs))
    pick true h = ap (λ ps. part (more + suc at) (before_separator xs) ∷ ps) h
    pick false h = h

-- each element behind a separator is moved
pub moved_elements : Verdicts → (limit more at : ℕ) (xs : List ℕ) (es : List JudgedElement) → more + (at + length xs) < 2 ^ 64
    → AllZip (IsJudgedElement limit) (filled (after_separators at xs)) es → AllZip (IsJudgedElement limit) (filled (map (moved_part more) (after_separators at xs))) (map (moved more) es)
moved_elements law limit more at [] [] low z = tt
moved_elements law limit more at [] (e ∷ es) low z = absurd z
moved_elements law limit more at (b ∷ xs) es low z =
    pick (is_separator b) (λ es z. moved_elements law limit more (suc at) xs es (omega (arith, low)) z) (let h = before-short xs in omega (arith, h, low)) z
  where
    with_first : (f : Bool) (es : List JudgedElement) → ((es : List JudgedElement) → AllZip (IsJudgedElement limit) (filled (after_separators (suc at) xs)) es
        → AllZip (IsJudgedElement limit) (filled (map (moved_part more) (after_separators (suc at) xs))) (map (moved more) es)) → more + (suc at + length (before_separator xs)) < 2 ^ 64
        → AllZip (IsJudgedElement limit) (cond f (part (suc at) (before_separator xs) ∷ filled (after_separators (suc at) xs)) (filled (after_separators (suc at) xs))) es
        → AllZip (IsJudgedElement limit)
        (cond f (part (more + suc at) (before_separator xs) ∷ filled (map (moved_part more) (after_separators (suc at) xs))) (filled (map (moved_part more) (after_separators (suc at) xs)))) (map (moved more) es)
    with_first true [] rest fit z = absurd z
    with_first true (e ∷ es) rest fit z = (element_moved law limit more (part (suc at) (before_separator xs)) e (omega arith) fit z.0, rest es z.1)
    with_first false es rest fit z = rest es z

    pick : (m : Bool) → ((es : List JudgedElement) → AllZip (IsJudgedElement limit) (filled (after_separators (suc at) xs)) es
        → AllZip (IsJudgedElement limit) (filled (map (moved_part more) (after_separators (suc at) xs))) (map (moved more) es)) → more + (suc at + length (before_separator xs)) < 2 ^ 64
        → AllZip (IsJudgedElement limit) (filled (cond m (part (suc at) (before_separator xs) ∷ after_separators (suc at) xs) (after_separators (suc at) xs))) es
        → AllZip (IsJudgedElement limit) (filled (map (moved_part more) (cond m (part (suc at) (before_separator xs) ∷ after_separators (suc at) xs) (after_separators (suc at) xs)))) (map (moved more) es)
    pick true rest fit z = with_first (has_bytes (part (suc at) (before_separator xs))) es rest fit z
    pick false rest fit z = rest es z

-- the elements of what begins with a separator
pub behind_moved : Verdicts → (limit more : ℕ) (bytes : List ℕ) (es : List JudgedElement) → before_separator bytes ≡ [] → more + length bytes < 2 ^ 64
    → AllZip (IsJudgedElement limit) (elements 0 bytes) es → AllZip (IsJudgedElement limit) (elements more bytes) (map (moved more) es)
behind_moved law limit more bytes es starts low z =
    let R = IsJudgedElement limit in
    let at : more + 0 ≡ more = omega arith in
    let none : (n : ℕ) → elements n bytes ≡ filled (after_separators n bytes) = λ n. ap (λ (t : List ℕ). filled (part n t ∷ after_separators n bytes)) starts in
    subst (λ ps. AllZip R ps (map (moved more) es)) (ap filled (sym (parts_moved more 0 bytes) ∙ ap (λ (n : ℕ). after_separators n bytes) at) ∙ sym (none more))
    (moved_elements law limit more 0 bytes es (omega (arith, low)) (subst (λ ps. AllZip R ps es) (none 0) z))
