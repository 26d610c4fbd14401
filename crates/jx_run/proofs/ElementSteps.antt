-- What elements come to, and the elements of the bytes of a run.
use Rattle.std.proofs.Common.{◌≡◌, ℕ, ◌+◌, ◌-◌, ◌<◌, ◌≤◌, List, [], ◌∷◌, ◌++◌, length, Bool, true, false, cond, refl, sym, ap, subst, ◌∙◌, append-nil, arith, Option, Some, None}
use Rattle.std.proofs.lemmas.List.Elements.{filter-append}
use Rattle.std.specs.List.{AllZip}
use Rattle.std.specs.Prelude.{slice_get}
use Rattle.jx_summary.specs.declared.span.Span.{Span}
use Rattle.jx_run.specs.declared.sequences.element_verdict.ElementVerdict.{ElementVerdict}
use Rattle.jx_run.specs.declared.sequences.element_verdict.ElementVerdict.TheVariants as element
use Rattle.jx_run.specs.declared.sequences.element_verdict.JudgedElement.{JudgedElement}
use Rattle.jx_run.specs.declared.texts.verdict.Verdict.{Verdict}
use Rattle.jx_run.specs.declared.texts.verdict.Verdict.TheVariants.{Accepted, Refused}
use Rattle.jx_run.specs.Elements.{Part, part, before_separator, after_separators, filled, has_bytes, elements}
use Rattle.jx_run.specs.ElementVerdict.{IsVerdictOn, IsJudgedElement, told}
use Rattle.jx_run.specs.ElementsRun.{PartRunValue, MarkedElementsValue, IsPartRun}
use Rattle.jx_run.specs.inside.MarkedElements.{AreMarked, IsSummaryOf}
use Rattle.jx_run.specs.OutcomeRun.{outcome_span}
use Rattle.jx_run.specs.Text.{IsDocument}
use Rattle.jx_run.specs.Tree.{Tree, span}
use Rattle.jx_run.specs.Unclosed.{is_open, last_open, ends_open}
use Rattle.jx_run.specs.Verdict.{Judged}
use Rattle.jx_run.proofs.OpenEnds.{last_open-append, element_shows}
use Rattle.jx_run.proofs.Parts.{unmarked-before}
use Rattle.jx_run.proofs.PartedJoins.{AllZip-append}
use Rattle.jx_run.proofs.SeqReading.{one_reading, no_reading, has, has_not}
use Rattle.jx_run.proofs.VerdictLaws.{tree_in}

-- ---- the last byte

last_open-get : (o : Bool) (x : ℕ) (xs : List ℕ) → (b : ℕ) → slice_get (x ∷ xs) (length xs) ≡ Some b → last_open o (x ∷ xs) ≡ is_open b
last_open-get o x [] b h = let e : x ≡ b = cc in ap is_open e
last_open-get o x (y ∷ ys) b h = last_open-get (is_open x) y ys b h

pub last-open : (o : Bool) (xs : List ℕ) (b : ℕ) → slice_get xs (length xs - 1) ≡ Some b → last_open o xs ≡ is_open b
last-open o [] b h = absurd cc
last-open o (x ∷ xs) b h = last_open-get o x xs b (ap (slice_get (x ∷ xs)) (let e : length xs ≡ length (x ∷ xs) - 1 = omega arith in e) ∙ h)

pub ends-last : (xs : List ℕ) (b : ℕ) → slice_get xs (length xs - 1) ≡ Some b → ends_open xs ≡ is_open b
ends-last xs b h = last-open false xs b h

pub ends-right : (xs ys : List ℕ) → 0 < length ys → ends_open (xs ++ ys) ≡ ends_open ys
ends-right xs [] h = absurd (omega arith)
ends-right xs (y ∷ ys) h = last_open-append false xs (y ∷ ys)

pub ends-left : (xs ys : List ℕ) → length ys ≡ 0 → ends_open (xs ++ ys) ≡ ends_open xs
ends-left xs [] h = last_open-append false xs []
ends-left xs (y ∷ ys) h = absurd (omega arith)

-- ---- the verdict on an element

not_true : {A : Type 0} → false ≡ true → A
not_true h = absurd (cc)

text_told : (p : Part) (limit : ℕ) → 0 < p.at → Judged p.at p.bytes limit Accepted → (tree : Tree) → IsDocument p.at p.bytes limit tree → (open_ended : Bool) → open_ended ≡ ends_open p.bytes
    → IsVerdictOn p limit (told Accepted open_ended)
text_told p limit low j tree d true h =
    (low, record { tree = tree; accepted = record { judged = j; is_text = d }; unclosed = (element_shows p limit tree d).1 (sym h) })
text_told p limit low j tree d false h =
    (low, record { tree = tree; accepted = record { judged = j; is_text = d }; closed = λ u. not_true (h ∙ (element_shows p limit tree d).0 u) })

pub verdict_told : (p : Part) (limit : ℕ) (v : Verdict) (open_ended : Bool) → 0 < p.at → Judged p.at p.bytes limit v → open_ended ≡ ends_open p.bytes → IsVerdictOn p limit (told v open_ended)
verdict_told p limit Accepted open_ended low j h = let t = tree_in j in text_told p limit low j t.0 t.1 open_ended h
verdict_told p limit (Refused r) open_ended low j h = (low, j)

pub judged_element : (limit at : ℕ) (bytes : List ℕ) (start end : ℕ) (v : Verdict) (open_ended : Bool) (t : ElementVerdict) → start ≡ at → end ≡ at + length bytes → 0 < at
    → Judged at bytes limit v → open_ended ≡ ends_open bytes → t ≡ told v open_ended → IsJudgedElement limit (part at bytes) (record { span = record { start = start; end = end }; verdict = t })
judged_element limit at bytes start end v open_ended t s e low j is h =
    record {
      span_is = ap (λ n. span n end) s ∙ ap (span at) e;
      verdict_is = subst (IsVerdictOn (part at bytes) limit) (sym h) (verdict_told (part at bytes) limit v open_ended low j is);
    }

-- ---- two neighbouring parts

pub open_ended_right : (xs ys : List ℕ) (r : PartRunValue) (place : Span) → place ≡ outcome_span r.outcomes → place.start < place.end → IsPartRun ys r → r.open_ended ≡ ends_open (xs ++ ys)
open_ended_right xs ys r place e low k =
    let start : place.start ≡ r.outcomes.start = ap (λ (s : Span). s.start) e in
    let end : place.end ≡ r.outcomes.end = ap (λ (s : Span). s.end) e in
    let long = k.outcomes.long in
    k.open_ended ∙ sym (ends-right xs ys (omega (arith, start, end, long, low)))

pub open_ended_left : (xs ys : List ℕ) (l r : PartRunValue) (place : Span) → place ≡ outcome_span r.outcomes → place.end ≤ place.start → IsPartRun xs l → IsPartRun ys r
    → l.open_ended ≡ ends_open (xs ++ ys)
open_ended_left xs ys l r place e low h k =
    let start : place.start ≡ r.outcomes.start = ap (λ (s : Span). s.start) e in
    let end : place.end ≡ r.outcomes.end = ap (λ (s : Span). s.end) e in
    let long = k.outcomes.long in
    h.open_ended ∙ sym (ends-left xs ys (omega (arith, start, end, long, low)))

-- ---- what stands behind a mark

pub with_last : (limit : ℕ) (behind : List Part) (m : MarkedElementsValue) (h : AreMarked limit behind m) (more : List JudgedElement)
    → AllZip (IsJudgedElement limit) (filled (h.last ∷ [])) more → AllZip (IsJudgedElement limit) (filled behind) (m.done ++ more)
with_last limit behind m h more z =
    let R = IsJudgedElement limit in
    subst (λ ps. AllZip R ps (m.done ++ more)) (sym (ap filled h.parts ∙ filter-append has_bytes h.between (h.last ∷ [])))
    (AllZip-append R (filled h.between) (filled (h.last ∷ [])) m.done more h.done z)

-- the last part, where it is not empty
pub last_judged : (limit : ℕ) (behind : List Part) (m : MarkedElementsValue) (h : AreMarked limit behind m) (place : Span) (e : JudgedElement) → place ≡ outcome_span m.after.outcomes
    → place.start < place.end → ((bytes : List ℕ) → 0 < m.after.outcomes.start → IsPartRun bytes m.after → IsJudgedElement m.after.outcomes.depth (part m.after.outcomes.start bytes) e)
    → AllZip (IsJudgedElement limit) (filled behind) (m.done ++ e ∷ [])
last_judged limit behind m h place e is low judged =
    let start : place.start ≡ m.after.outcomes.start = ap (λ (s : Span). s.start) is in
    let end : place.end ≡ m.after.outcomes.end = ap (λ (s : Span). s.end) is in
    let long = h.after.outcomes.long in
    let one = judged h.last.bytes (subst (λ n. 0 < n) (sym h.start) h.marked) h.after in
    with_last limit behind m h (e ∷ [])
    (one_reading (IsJudgedElement limit) h.last e (omega (arith, start, end, long, low))
    (subst (λ n. IsJudgedElement limit (part n h.last.bytes) e) h.start (subst (λ n. IsJudgedElement n (part m.after.outcomes.start h.last.bytes) e) h.depth one)))

pub last_empty : (limit : ℕ) (behind : List Part) (m : MarkedElementsValue) (h : AreMarked limit behind m) (place : Span) → place ≡ outcome_span m.after.outcomes
    → place.end ≤ place.start → AllZip (IsJudgedElement limit) (filled behind) m.done
last_empty limit behind m h place is low =
    let start : place.start ≡ m.after.outcomes.start = ap (λ (s : Span). s.start) is in
    let end : place.end ≡ m.after.outcomes.end = ap (λ (s : Span). s.end) is in
    let long = h.after.outcomes.long in
    subst (AllZip (IsJudgedElement limit) (filled behind)) (append-nil m.done)
    (with_last limit behind m h [] (no_reading (IsJudgedElement limit) h.last (omega (arith, start, end, long, low))))

-- ---- the elements of a whole sequence

pub unmarked_rest : (bytes : List ℕ) (before : PartRunValue) (m : Option MarkedElementsValue) → m ≡ None → IsSummaryOf bytes before m → after_separators before.outcomes.start bytes ≡ []
unmarked_rest bytes before m e h = (subst (IsSummaryOf bytes before) e h).0

pub marked_rest : (bytes : List ℕ) (before : PartRunValue) (m : Option MarkedElementsValue) (x : MarkedElementsValue) → m ≡ Some x → IsSummaryOf bytes before m
    → AreMarked before.outcomes.depth (after_separators before.outcomes.start bytes) x
marked_rest bytes before m x e h = (subst (IsSummaryOf bytes before) e h).1

first_part : (bytes : List ℕ) (before : PartRunValue) (m : Option MarkedElementsValue) → IsSummaryOf bytes before m → IsPartRun (before_separator bytes) before
first_part bytes before None h = subst (λ t. IsPartRun t before) (sym (unmarked-before bytes before.outcomes.start h.0)) h.1
first_part bytes before (Some m) h = h.0

first_long : (bytes : List ℕ) (before : PartRunValue) (m : Option MarkedElementsValue) (place : Span) → place ≡ outcome_span before.outcomes → before.outcomes.start ≡ 0
    → IsSummaryOf bytes before m → place ≡ span 0 (length (before_separator bytes))
first_long bytes before m place is zero h =
    let long = (first_part bytes before m h).outcomes.long in
    is ∙ ap (λ n. span n before.outcomes.end) zero ∙ ap (span 0) (let e : before.outcomes.end ≡ length (before_separator bytes) = omega (arith, long, zero) in e)

module _ (bytes : List ℕ) (before : PartRunValue) (m : Option MarkedElementsValue) (place : Span) (is : place ≡ outcome_span before.outcomes) (starts : before.outcomes.start ≡ 0)
    (h : IsSummaryOf bytes before m) (limit : ℕ) (rest : List JudgedElement) (z : AllZip (IsJudgedElement limit) (filled (after_separators before.outcomes.start bytes)) rest) where
  abbrev first : Part
  first = part 0 (before_separator bytes)

  place_is : place ≡ span 0 (length (before_separator bytes))
  place_is = first_long bytes before m place is starts h

  behind : AllZip (IsJudgedElement limit) (filled (after_separators 0 bytes)) rest
  behind = subst (λ n. AllZip (IsJudgedElement limit) (filled (after_separators n bytes)) rest) starts z

  pub with_first : place.start < place.end → AllZip (IsJudgedElement limit) (elements 0 bytes) (record { span = place; verdict = element.Unmarked } ∷ rest)
  with_first low =
      let start : place.start ≡ 0 = ap (λ (s : Span). s.start) place_is in
      let end : place.end ≡ length (before_separator bytes) = ap (λ (s : Span). s.end) place_is in
      subst (λ b. AllZip (IsJudgedElement limit) (cond b (first ∷ filled (after_separators 0 bytes)) (filled (after_separators 0 bytes))) (record { span = place; verdict = element.Unmarked } ∷ rest))
      (sym (has first (omega (arith, start, end, low))))
      (record { span_is = place_is ∙ ap (span 0) (let e : length (before_separator bytes) ≡ 0 + length (before_separator bytes) = omega arith in e); verdict_is = refl }, behind)

  pub without_first : place.end ≤ place.start → AllZip (IsJudgedElement limit) (elements 0 bytes) rest
  without_first low =
      let start : place.start ≡ 0 = ap (λ (s : Span). s.start) place_is in
      let end : place.end ≡ length (before_separator bytes) = ap (λ (s : Span). s.end) place_is in
      subst (λ b. AllZip (IsJudgedElement limit) (cond b (first ∷ filled (after_separators 0 bytes)) (filled (after_separators 0 bytes))) rest)
      (sym (has_not first (omega (arith, start, end, low)))) behind
