-- A text sequence is read batch by batch.
use Rattle.std.proofs.Common.{◌≡◌, ℕ, ◌+◌, ◌-◌, ◌≤◌, List, [], ◌∷◌, ◌++◌, length, take, drop, Option, None, Some, Bool, true, false, cond, refl, sym, ap, subst, ◌∙◌, arith, append_assoc, append-nil}
use Rattle.std.specs.Prelude.{◌==◌, slice_range, All}
use Rattle.std.specs.List.{AllZip}
use lib.Seq.{take-add}
use Rattle.std.proofs.Math.Seq.{drop-append_seam, take-append_seam}
use Rattle.std.proofs.lemmas.List.{take_all}
use Rattle.std.proofs.lemmas.List.Elements.{All-head, All-tail}
use Rattle.jx_summary.specs.declared.span.Span.{Span}
use Rattle.jx_run.specs.declared.sequences.element_verdict.ElementVerdict.TheVariants as element
use Rattle.jx_run.specs.declared.sequences.element_verdict.JudgedElement.{JudgedElement}
use Rattle.jx_run.specs.declared.texts.settings.FrontMark.{FrontMark}
use Rattle.jx_run.specs.declared.texts.settings.Settings.{Settings}
use Rattle.jx_run.specs.declared.texts.verdict.Verdict.{Verdict}
use Rattle.jx_run.specs.Elements.{Part, part, part_span, elements}
use Rattle.jx_run.specs.ElementVerdict.{IsJudgedElement, told}
use Rattle.jx_run.specs.Front.{front_of}
use Rattle.jx_run.specs.MarkAlone.{part_of}
use Rattle.jx_run.specs.SequenceRead.{ended_there}
use Rattle.jx_run.proofs.ElementsLie.{LiesIn, elements_lie}
use Rattle.jx_index.specs.ByNames.{IsJudgedBy, judged_unless}
use Rattle.jx_answer.specs.Named.{IsNamed}

-- the part up to an offset, and what stands from there up to another
up_to : (bytes text : List ℕ) (done end : ℕ) → done ≤ end → (bytes ++ take done text) ++ slice_range text done end ≡ bytes ++ take end text
up_to bytes text done end h =
    let sum : done + (end - done) ≡ end = omega (arith, h) in
    append_assoc bytes (take done text) (take (end - done) (drop done text))
    ∙ ap (λ xs. bytes ++ xs) (sym (take-add done (end - done) text) ∙ ap (λ (n : ℕ). take n text) sum)

-- what stands before, between and behind two offsets
pub three_parts : (text bytes : List ℕ) (i j : ℕ) → i ≤ j → j ≤ length bytes
    → ((text ++ slice_range bytes 0 i) ++ slice_range bytes i j) ++ slice_range bytes j (length bytes) ≡ text ++ bytes
three_parts text bytes i j h k =
    ap (λ (xs : List ℕ). (xs ++ slice_range bytes i j) ++ slice_range bytes j (length bytes))
    (ap (λ (xs : List ℕ). xs ++ slice_range bytes 0 i) (sym (append-nil text)) ∙ up_to text bytes 0 i (omega arith))
    ∙ ap (λ (xs : List ℕ). xs ++ slice_range bytes j (length bytes)) (up_to text bytes i j h)
    ∙ up_to text bytes j (length bytes) k
    ∙ ap (λ (xs : List ℕ). text ++ xs) (take_all (length bytes) bytes (omega arith))

-- what stands in front of a text shows in its first three bytes
pub front_shows : ((m : FrontMark) (text more : List ℕ) → 3 ≤ length text → front_of m (text ++ more) ≡ front_of m text)
    → (m : FrontMark) (text : List ℕ) → front_of m (take 3 text) ≡ front_of m text
front_shows stays m [] = refl
front_shows stays m (a ∷ []) = refl
front_shows stays m (a ∷ b ∷ []) = refl
front_shows stays m (a ∷ b ∷ c ∷ more) = sym (stays m (a ∷ b ∷ c ∷ []) more (omega arith))

-- ---- verdicts by the rule on names

-- bytes that stand behind a front
pub slice_seam : (front last rest : List ℕ) (end : ℕ) → end ≡ length front + length last → slice_range ((front ++ last) ++ rest) (length front) end ≡ last
slice_seam front last rest end is =
    let long : end - length front ≡ length last = omega (arith, is) in
    ap (λ (xs : List ℕ). take (end - length front) (drop (length front) xs)) (append_assoc front last rest)
    ∙ ap (take (end - length front)) (drop-append_seam front (last ++ rest))
    ∙ ap (λ (n : ℕ). take n (last ++ rest)) long
    ∙ take-append_seam last rest

-- the element that ends has the span that was asked about
pub ended_span : (s : Span) (v : Verdict) (open_ended : Bool) (e : JudgedElement) → ended_there s v open_ended ≡ Some e → e.span ≡ s
ended_span s v open_ended e h = pick (s.start == s.end) (s.start == 0) h
  where
    pick : (a b : Bool) → cond a None (cond b (Some (record { span = s; verdict = element.Unmarked })) (Some (record { span = s; verdict = told v open_ended }))) ≡ Some e → e.span ≡ s
    pick true b h = absurd (cc)
    pick false true h = let same : record { span = s; verdict = element.Unmarked } ≡ e = cc in sym (ap (λ (j : JudgedElement). j.span) same)
    pick false false h = let same : record { span = s; verdict = told v open_ended } ≡ e = cc in sym (ap (λ (j : JudgedElement). j.span) same)

pub zip_both : {A B : Type 0} (R : A → B → Type 0) (xs us : List A) (ys vs : List B) → AllZip R xs ys → AllZip R us vs → AllZip R (xs ++ us) (ys ++ vs)
zip_both R [] us [] vs z w = w
zip_both R [] us (y ∷ ys) vs z w = absurd z
zip_both R (x ∷ xs) us [] vs z w = absurd z
zip_both R (x ∷ xs) us (y ∷ ys) vs z w = (z.0, zip_both R xs us ys vs z.1 w)

pub named_longer : (settings : Settings) (text more : List ℕ) (told js : List JudgedElement) → ((rest : List ℕ) → AllZip (IsNamed settings (text ++ rest)) told js)
    → (rest : List ℕ) → AllZip (IsNamed settings ((text ++ more) ++ rest)) told js
named_longer settings text more told js kept rest = subst (λ (xs : List ℕ). AllZip (IsNamed settings xs) told js) (sym (append_assoc text more rest)) (kept (more ++ rest))

named_parts : (settings : Settings) (text : List ℕ) (ps : List Part) (ts js : List JudgedElement) → All (LiesIn text) ps → AllZip (IsJudgedElement settings.depth) ps ts
    → AllZip (IsNamed settings text) ts js → AllZip (IsJudgedBy settings text) ps js
named_parts settings text [] [] [] l z n = tt
named_parts settings text [] [] (j ∷ js) l z n = absurd n
named_parts settings text [] (t ∷ ts) js l z n = absurd z
named_parts settings text (p ∷ ps) [] js l z n = absurd z
named_parts settings text (p ∷ ps) (t ∷ ts) [] l z n = absurd n
named_parts settings text (p ∷ ps) (t ∷ ts) (j ∷ js) l z n =
    let lies = All-head (LiesIn text) p ps l in
    let same : part_of text t.span ≡ p = ap (part_of text) z.0.span_is ∙ ap (part p.at) lies.bytes in (
      subst (λ (q : Part). IsJudgedBy settings text q j) same (n.0 (subst (λ (q : Part). IsJudgedElement settings.depth q t) (sym same) z.0)),
      named_parts settings text ps ts js (All-tail (LiesIn text) p ps l) z.1 n.1,
    )

-- the verdicts by settings on all elements of a text that has ended
pub all_by_names : (settings : Settings) (text : List ℕ) (ts js : List JudgedElement) → AllZip (IsJudgedElement settings.depth) (elements 0 text) ts
    → ((rest : List ℕ) → AllZip (IsNamed settings (text ++ rest)) ts js) → AllZip (IsJudgedBy settings text) (elements 0 text) js
all_by_names settings text ts js z kept =
    named_parts settings text (elements 0 text) ts js (elements_lie text) z (subst (λ (xs : List ℕ). AllZip (IsNamed settings xs) ts js) (append-nil text) (kept []))

-- such a verdict has its element's span
pub stands_in_place : (settings : Settings) (text : List ℕ) (p : Part) (e : JudgedElement) → IsJudgedBy settings text p e → e.span ≡ part_span p
stands_in_place settings text p e h = ap (λ (j : JudgedElement). j.span) h.by_names ∙ kept_span h.name h.told ∙ h.judged.span_is
  where
    kept_span : (name : Option ℕ) (j : JudgedElement) → (judged_unless name j).span ≡ j.span
    kept_span None j = refl
    kept_span (Some at) j = refl
