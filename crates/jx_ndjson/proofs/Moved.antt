-- Answers on lines that stand further on.
use Rattle.std.proofs.Common.{◌≡◌, ℕ, suc, ◌+◌, ◌^◌, ◌<◌, ◌≤◌, List, [], ◌∷◌, ◌++◌, length, map, Bool, true, false, cond, refl, sym, ap, subst, ◌∙◌, arith}
use Rattle.std.proofs.Math.Nat.{add-suc}
use Rattle.std.specs.List.{AllZip}
use Rattle.std.specs.Prelude.{not}
use Rattle.jx_summary.specs.declared.span.Span.{Span}
use Rattle.jx_run.specs.declared.texts.settings.FrontMark.{FrontMark}
use Rattle.jx_run.specs.declared.texts.settings.FrontMark.TheVariants as on_mark
use Rattle.jx_run.specs.declared.texts.settings.NameRule.TheVariants.{Any}
use Rattle.jx_run.specs.declared.texts.settings.Settings.{Settings}
use Rattle.jx_run.specs.declared.texts.verdict.Refusal.{Refusal}
use Rattle.jx_run.specs.declared.texts.verdict.Refusal.TheVariants as refusal
use Rattle.jx_run.specs.declared.texts.verdict.Verdict.{Verdict}
use Rattle.jx_run.specs.declared.texts.verdict.Verdict.TheVariants as verdict
use Rattle.jx_run.specs.Elements.{Part, part}
use Rattle.jx_run.specs.Laws.{verdict_of}
use Rattle.jx_run.specs.Reading.{read_text}
use Rattle.jx_run.specs.ReaderInside.{offset_at}
use Rattle.jx_run.specs.Settings.{JudgedBy}
use Rattle.jx_run.specs.Tree.{span}
use Rattle.jx_run.specs.Verdict as by
use Rattle.jx_run.specs.Verdict.{Judged, a_text, cut_short}
use Rattle.jx_run.proofs.Fronts.{refused_judged}
use Rattle.jx_run.proofs.LawProofs.{Verdicts}
use Rattle.jx_run.proofs.Moves.{moved_part, grown, judged-grown, fits}
use Rattle.jx_run.proofs.VerdictLaws.{one_verdict_by}
use Rattle.jx_ndjson.specs.declared.judged_line.JudgedLine.{JudgedLine}
use Rattle.jx_ndjson.specs.declared.judged_line.LineVerdict.{LineVerdict}
use Rattle.jx_ndjson.specs.declared.judged_line.LineVerdict.TheVariants.{Accepted, Refused, MayBeCut, Blank}
use Rattle.jx_ndjson.specs.Answers.{IsAnswer, IsVerdictOn, mark_at, settings_at}
use Rattle.jx_ndjson.specs.Lines.{Line, line}
use Rattle.jx_ndjson.specs.Parts.{before_first, behind_each, parts_by}
use Rattle.jx_ndjson.specs.Reading.{ended_from}
use Rattle.jx_ndjson.specs.Tally.{bad_of, is_accepted}
use Rattle.jx_ndjson.specs.WholeLines.{moved_line, moved_refusal, moved_verdict, unmarked}

-- ---- verdicts

-- no fault lies past the bytes
grown_fits : (more at : ℕ) (bytes : List ℕ) (limit : ℕ) (v : Verdict) (r : Refusal) → Judged at bytes limit v → v ≡ verdict.Refused r → more + (at + length bytes) < 2 ^ 64
    → grown more v ≡ verdict.Refused (moved_refusal more r)
grown_fits more at bytes limit _ r (a_text d) e low = absurd (cc)
grown_fits more at bytes limit _ r (cut_short n x) e low = let same : refusal.Truncated ≡ r = cc in ap (λ (z : Refusal). verdict.Refused (moved_refusal more z)) same
grown_fits more at bytes limit _ r (by.too_deep {k = k} n x lt b) e low =
    let same : refusal.TooDeep (at + k) ≡ r = cc in
    let small : more + (at + k) < 2 ^ 64 = omega (arith, lt, low) in
    ap (λ (i : ℕ). verdict.Refused (refusal.TooDeep i)) (sym (fits more (at + k) small)) ∙ ap (λ (z : Refusal). verdict.Refused (moved_refusal more z)) same
grown_fits more at bytes limit _ r (by.stopped {k = k} n x lt b) e low =
    let same : refusal.Stopped (at + k) ≡ r = cc in
    let small : more + (at + k) < 2 ^ 64 = omega (arith, lt, low) in
    ap (λ (i : ℕ). verdict.Refused (refusal.Stopped i)) (sym (fits more (at + k) small)) ∙ ap (λ (z : Refusal). verdict.Refused (moved_refusal more z)) same

-- ---- lines that a line feed ends

not_false : {A : Type 0} → true ≡ false → A
not_false h = absurd (cc)

-- where no byte order mark is ignored, the verdict by settings is that of the grammar
by_grammar : Verdicts → (s : Settings) (at : ℕ) (bytes : List ℕ) → s.mark ≡ on_mark.Refused → (v : Verdict) → JudgedBy s at bytes v → Judged at bytes s.depth v
by_grammar law s at bytes is v j =
    let w = verdict_of (read_text s.depth at bytes) in
    let k : Judged at bytes s.depth w = law s.depth at bytes in
    subst (Judged at bytes s.depth) (one_verdict_by s at bytes w v (refused_judged s at bytes is w k) j) k

verdict_moved : Verdicts → (settings : Settings) (n k more : ℕ) (p : Part) (v : LineVerdict) → more + (p.at + length p.bytes) < 2 ^ 64 → mark_at settings.mark (more + p.at) ≡ on_mark.Refused
    → IsVerdictOn (line k p true) (unmarked settings.depth) v → IsVerdictOn (line n (moved_part more p) true) (settings_at settings (more + p.at)) (moved_verdict more v)
verdict_moved law settings n k more p Blank low none h = h
verdict_moved law settings n k more p (Refused r) low none h =
    let d : ℕ = settings.depth in
    let j : Judged p.at p.bytes d (verdict.Refused r) = by_grammar law (unmarked d) p.at p.bytes refl (verdict.Refused r) h.1 in (
      h.0,
      refused_judged (settings_at settings (more + p.at)) (more + p.at) p.bytes none (verdict.Refused (moved_refusal more r))
          (subst (λ (x : Verdict). Judged (more + p.at) p.bytes d x) (grown_fits more p.at p.bytes d (verdict.Refused r) r j refl low) (judged-grown law d more p.at p.bytes (verdict.Refused r) j)),
    )
verdict_moved law settings n k more p MayBeCut low none h = not_false h.1.not_ended
verdict_moved law settings n k more p Accepted low none h =
    let d : ℕ = settings.depth in (
      h.0,
      refused_judged (settings_at settings (more + p.at)) (more + p.at) p.bytes none verdict.Accepted
          (judged-grown law d more p.at p.bytes verdict.Accepted (by_grammar law (unmarked d) p.at p.bytes refl verdict.Accepted h.1)),
      λ cut. not_false cut.not_ended,
    )

line_moved : Verdicts → (settings : Settings) (n k more : ℕ) (p : Part) (j : JudgedLine) → n + k < 2 ^ 64 → more + (p.at + length p.bytes) < 2 ^ 64 → mark_at settings.mark (more + p.at) ≡ on_mark.Refused
    → IsAnswer (unmarked settings.depth) (line k p true) j → IsAnswer settings (line (n + k) (moved_part more p) true) (moved_line n more j)
line_moved law settings n k more p j few low none h =
    let number = h.number_is in
    let start : j.span.start ≡ p.at = ap (λ (s : Span). s.start) h.span_is in
    let end : j.span.end ≡ p.at + length p.bytes = ap (λ (s : Span). s.end) h.span_is in
    record {
      number_is = (let x : offset_at n j.number ≡ n + k = omega (arith, number, few) in x);
      span_is = ap (λ (i : ℕ). span i (offset_at more j.span.end)) (let x : offset_at more j.span.start ≡ more + p.at = omega (arith, start, low) in x)
          ∙ ap (span (more + p.at)) (let x : offset_at more j.span.end ≡ more + p.at + length p.bytes = omega (arith, end, low) in x);
      verdict_is = verdict_moved law settings (n + k) k more p j.verdict low none h.verdict_is;
    }

-- where no byte order mark is ignored, the answers are those of whole lines
unmarked_answer : (settings : Settings) → settings.mark ≡ on_mark.Refused → (l : Line) (j : JudgedLine) → IsAnswer settings l j → IsAnswer (unmarked settings.depth) l j
unmarked_answer settings is l j h =
    record {
      number_is = h.number_is;
      span_is = h.span_is;
      verdict_is =
          subst (λ (m : FrontMark). IsVerdictOn l (record { depth = settings.depth; mark = mark_at m l.part.at; names = Any }) j.verdict) is h.verdict_is;
    }

pub unmarked_answers : (settings : Settings) → settings.mark ≡ on_mark.Refused → (ls : List Line) (js : List JudgedLine) → AllZip (IsAnswer settings) ls js → AllZip (IsAnswer (unmarked settings.depth)) ls js
unmarked_answers settings is [] [] z = tt
unmarked_answers settings is [] (j ∷ js) z = absurd z
unmarked_answers settings is (l ∷ ls) [] z = absurd z
unmarked_answers settings is (l ∷ ls) (j ∷ js) z = (unmarked_answer settings is l j z.0, unmarked_answers settings is ls js z.1)

-- ---- parts that end by an offset

abbrev pub AllEndBy : ℕ → List Part → Type 0
AllEndBy n [] = Unit {0}
AllEndBy n (p ∷ ps) = (p.at + length p.bytes ≤ n) × AllEndBy n ps

pub first_end : (n : ℕ) (ps qs : List Part) → AllEndBy n (ps ++ qs) → AllEndBy n ps
first_end n [] qs h = tt
first_end n (p ∷ ps) qs h = (h.0, first_end n ps qs h.1)

pub lines_moved : Verdicts → (settings : Settings) (n k more top : ℕ) (ps : List Part) (js : List JudgedLine) → n + (k + length ps) ≤ 2 ^ 64 → more + top < 2 ^ 64 → AllEndBy top ps
    → ((at : ℕ) → mark_at settings.mark (more + at) ≡ on_mark.Refused) → AllZip (IsAnswer (unmarked settings.depth)) (ended_from k ps) js
    → AllZip (IsAnswer settings) (ended_from (n + k) (map (moved_part more) ps)) (map (moved_line n more) js)
lines_moved law settings n k more top [] [] few low ends none z = tt
lines_moved law settings n k more top [] (j ∷ js) few low ends none z = absurd z
lines_moved law settings n k more top (p ∷ ps) [] few low ends none z = absurd z
lines_moved law settings n k more top (p ∷ ps) (j ∷ js) few low ends none z =
    let end = ends.0 in (
      line_moved law settings n k more p j (omega (arith, few)) (omega (arith, end, low)) (none p.at) z.0,
      subst (λ (m : ℕ). AllZip (IsAnswer settings) (ended_from m (map (moved_part more) ps)) (map (moved_line n more) js)) (let e : n + suc k ≡ suc (n + k) = omega arith in e)
          (lines_moved law settings n (suc k) more top ps js (omega (arith, few)) low ends.1 none z.1),
    )

module _ (separates : ℕ → Bool) where
  short : (xs : List ℕ) → length (before_first separates xs) ≤ length xs
  short [] = omega arith
  short (b ∷ xs) = pick (separates b) (short xs)
    where
      pick : (m : Bool) → length (before_first separates xs) ≤ length xs → length (cond m [] (b ∷ before_first separates xs)) ≤ length (b ∷ xs)
      pick true h = omega arith
      pick false h = omega (arith, h)

  behind_end : (at n : ℕ) (xs : List ℕ) → at + length xs ≤ n → AllEndBy n (behind_each separates at xs)
  behind_end at n [] low = tt
  behind_end at n (b ∷ xs) low = pick (separates b) (behind_end (suc at) n xs (omega (arith, low)))
    where
      pick : (m : Bool) → AllEndBy n (behind_each separates (suc at) xs)
          → AllEndBy n (cond m (part (suc at) (before_first separates xs) ∷ behind_each separates (suc at) xs) (behind_each separates (suc at) xs))
      pick true rest = ((let h = short xs in omega (arith, h, low)), rest)
      pick false rest = rest

  pub parts_end : (at : ℕ) (xs : List ℕ) → AllEndBy (at + length xs) (parts_by separates at xs)
  parts_end at xs = ((let h = short xs in omega (arith, h)), behind_end at (at + length xs) xs (omega arith))

  behind_few : (at : ℕ) (xs : List ℕ) → length (behind_each separates at xs) ≤ length xs
  behind_few at [] = omega arith
  behind_few at (b ∷ xs) = pick (separates b) (behind_few (suc at) xs)
    where
      pick : (m : Bool) → length (behind_each separates (suc at) xs) ≤ length xs
          → length (cond m (part (suc at) (before_first separates xs) ∷ behind_each separates (suc at) xs) (behind_each separates (suc at) xs)) ≤ length (b ∷ xs)
      pick true h = omega (arith, h)
      pick false h = omega (arith, h)

  -- no more separators than bytes
  pub parts_few : (at : ℕ) (xs : List ℕ) → length (parts_by separates at xs) ≤ suc (length xs)
  parts_few at xs = let h = behind_few at xs in omega (arith, h)

  behind_moved : (more at : ℕ) (xs : List ℕ) → behind_each separates (more + at) xs ≡ map (moved_part more) (behind_each separates at xs)
  behind_moved more at [] = refl
  behind_moved more at (b ∷ xs) =
      ap (λ (i : ℕ). cond (separates b) (part i (before_first separates xs) ∷ behind_each separates i xs) (behind_each separates i xs)) (sym (add-suc more at)) ∙ pick (separates b) (behind_moved more (suc at) xs)
    where
      pick : (m : Bool) → behind_each separates (more + suc at) xs ≡ map (moved_part more) (behind_each separates (suc at) xs)
          → cond m (part (more + suc at) (before_first separates xs) ∷ behind_each separates (more + suc at) xs) (behind_each separates (more + suc at) xs)
          ≡ map (moved_part more) (cond m (part (suc at) (before_first separates xs) ∷ behind_each separates (suc at) xs) (behind_each separates (suc at) xs))
      pick true h = ap (λ (ps : List Part). part (more + suc at) (before_first separates xs) ∷ ps) h
      pick false h = h

  pub parts_moved : (more at : ℕ) (xs : List ℕ) → parts_by separates (more + at) xs ≡ map (moved_part more) (parts_by separates at xs)
  parts_moved more at xs = ap (λ (ps : List Part). part (more + at) (before_first separates xs) ∷ ps) (behind_moved more at xs)

-- ---- those that are no texts

still_accepted : (more : ℕ) (v : LineVerdict) → is_accepted (moved_verdict more v) ≡ is_accepted v
still_accepted more Accepted = refl
still_accepted more (Refused r) = refl
still_accepted more MayBeCut = refl
still_accepted more Blank = refl

pub bad_moved : (n more : ℕ) (js : List JudgedLine) → bad_of (map (moved_line n more) js) ≡ map (moved_line n more) (bad_of js)
bad_moved n more [] = refl
bad_moved n more (j ∷ js) =
    ap (λ (b : Bool). cond (not b) (moved_line n more j ∷ bad_of (map (moved_line n more) js)) (bad_of (map (moved_line n more) js))) (still_accepted more j.verdict)
    ∙ pick (not (is_accepted j.verdict)) (bad_moved n more js)
  where
    pick : (b : Bool) → bad_of (map (moved_line n more) js) ≡ map (moved_line n more) (bad_of js)
        → cond b (moved_line n more j ∷ bad_of (map (moved_line n more) js)) (bad_of (map (moved_line n more) js)) ≡ map (moved_line n more) (cond b (j ∷ bad_of js) (bad_of js))
    pick true h = ap (λ (xs : List JudgedLine). moved_line n more j ∷ xs) h
    pick false h = h
