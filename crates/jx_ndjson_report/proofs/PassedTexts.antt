-- Whole lines that are texts pass with all their bytes.
use Rattle.std.proofs.Common.{◌≡◌, ℕ, suc, ◌+◌, ◌^◌, ◌<◌, List, [], ◌∷◌, ◌++◌, length, map, arith, Bool, true, false, cond, refl, sym, ap, ◌∙◌, append_assoc, length-append}
use Rattle.std.proofs.lemmas.Bool.{eqb-true}
use Rattle.std.specs.List.{AllZip}
use Rattle.std.specs.Prelude.{not}
use Rattle.jx_summary.specs.declared.span.Span.{Span}
use Rattle.jx_run.specs.Elements.{Part, part}
use Rattle.jx_run.specs.ReaderInside.{offset_at}
use Rattle.jx_ndjson.specs.declared.judged_line.JudgedLine.{JudgedLine}
use Rattle.jx_ndjson.specs.declared.judged_line.LineVerdict.{LineVerdict}
use Rattle.jx_ndjson.specs.declared.judged_line.LineVerdict.TheVariants.{Accepted, Refused, MayBeCut, Blank}
use Rattle.jx_ndjson.specs.Answers.{IsAnswer}
use Rattle.jx_ndjson.specs.Lines.{is_line_feed, line}
use Rattle.jx_ndjson.specs.Parts.{before_first, behind_each, parts_by}
use Rattle.jx_ndjson.specs.Reading.{ended_from}
use Rattle.jx_ndjson.specs.Tally.{bad_of as no_texts_of, is_accepted}
use Rattle.jx_ndjson.specs.WholeLines.{AreWhole, WholeLinesValue, moved_line, moved_verdict, unmarked}
use Rattle.jx_ndjson_report.specs.Output.{is_good}
use Rattle.jx_ndjson_report.specs.Passed.{passed_line, passed_lines}
use Rattle.jx_ndjson_report.specs.inside.LineTeller.{AllPass}
use Rattle.jx_ndjson_report.proofs.Passes.{line_there}

same_head : (p q : Part) (ps qs : List Part) → p ∷ ps ≡ q ∷ qs → p ≡ q
same_head p q ps qs h = cc

same_tail : (p q : Part) (ps qs : List Part) → p ∷ ps ≡ q ∷ qs → ps ≡ qs
same_tail p q ps qs h = cc

-- ---- the first line, its line feed, and what follows

record Cut (at : ℕ) (xs : List ℕ) (ps : List Part) : Type 0 where
  rest : List ℕ
  bytes : xs ≡ before_first is_line_feed xs ++ 0x0a ∷ rest
  parts : parts_by is_line_feed (suc (at + length (before_first is_line_feed xs))) rest ≡ ps

cut : (at : ℕ) (xs : List ℕ) (ps : List Part) (l : Part) → behind_each is_line_feed at xs ≡ ps ++ l ∷ [] → Cut at xs (ps ++ l ∷ [])
cut at [] [] l h = absurd (cc)
cut at [] (p ∷ ps) l h = absurd (cc)
cut at (b ∷ xs) ps l h = pick (is_line_feed b) refl h (cut (suc at) xs ps l)
  where
    front : List ℕ
    front = before_first is_line_feed xs

    pick : (m : Bool) → is_line_feed b ≡ m → cond m (part (suc at) front ∷ behind_each is_line_feed (suc at) xs) (behind_each is_line_feed (suc at) xs) ≡ ps ++ l ∷ []
        → (behind_each is_line_feed (suc at) xs ≡ ps ++ l ∷ [] → Cut (suc at) xs (ps ++ l ∷ [])) → Cut at (b ∷ xs) (ps ++ l ∷ [])
    pick true q k cuts =
        let none : before_first is_line_feed (b ∷ xs) ≡ [] = ap (λ (m : Bool). cond m [] (b ∷ front)) q in
        record {
          rest = xs;
          bytes = ap (λ (c : ℕ). c ∷ xs) (eqb-true b 0x0a q) ∙ ap (λ (ys : List ℕ). ys ++ 0x0a ∷ xs) (sym none);
          parts =
              ap (λ (ys : List ℕ). parts_by is_line_feed (suc (at + length ys)) xs) none
              ∙ ap (λ (n : ℕ). parts_by is_line_feed n xs) (let e : suc (at + 0) ≡ suc at = omega arith in e)
              ∙ k;
        }
    pick false q k cuts =
        let c = cuts k in
        let more : before_first is_line_feed (b ∷ xs) ≡ b ∷ front = ap (λ (m : Bool). cond m [] (b ∷ front)) q in
        record {
          rest = c.rest;
          bytes = ap (λ (ys : List ℕ). b ∷ ys) c.bytes ∙ ap (λ (ys : List ℕ). ys ++ 0x0a ∷ c.rest) (sym more);
          parts =
              ap (λ (ys : List ℕ). parts_by is_line_feed (suc (at + length ys)) c.rest) more
              ∙ ap (λ (n : ℕ). parts_by is_line_feed n c.rest) (let e : suc (at + suc (length front)) ≡ suc (suc at + length front) = omega arith in e)
              ∙ c.parts;
        }

-- ---- the verdicts

is_one : (v : LineVerdict) → is_good v ≡ is_accepted v
is_one Accepted = refl
is_one (Refused r) = refl
is_one MayBeCut = refl
is_one Blank = refl

still_good : (more : ℕ) (v : LineVerdict) → is_good (moved_verdict more v) ≡ is_good v
still_good more Accepted = refl
still_good more (Refused r) = refl
still_good more MayBeCut = refl
still_good more Blank = refl

first_good : (j : JudgedLine) (js : List JudgedLine) → no_texts_of (j ∷ js) ≡ [] → (is_good j.verdict ≡ true) × (no_texts_of js ≡ [])
first_good j js h = pick (is_accepted j.verdict) refl h
  where
    pick : (m : Bool) → is_accepted j.verdict ≡ m → cond (not m) (j ∷ no_texts_of js) (no_texts_of js) ≡ [] → (is_good j.verdict ≡ true) × (no_texts_of js ≡ [])
    pick true q k = (is_one j.verdict ∙ q, k)
    pick false q k = absurd (cc)

-- ---- all lines

nothing : (xs : List ℕ) → length xs ≡ 0 → [] ≡ xs
nothing [] e = refl
nothing (x ∷ xs) e = absurd (omega (arith, e))

-- the first one and the others
first_passes : (limit at base lines k : ℕ) (xs : List ℕ) (p : Part) (ended : List Part) (j : JudgedLine) (js : List JudgedLine) → parts_by is_line_feed at xs ≡ p ∷ (ended ++ part (at + length xs) [] ∷ [])
    → IsAnswer (unmarked limit) (line k p true) j → no_texts_of (j ∷ js) ≡ [] → base + (at + length xs) < 2 ^ 64 → (front more : List ℕ) → length front ≡ base + at
    → ((there : ℕ) (ys : List ℕ) → parts_by is_line_feed there ys ≡ ended ++ part (there + length ys) [] ∷ [] → no_texts_of js ≡ [] → base + (there + length ys) < 2 ^ 64
    → (before : List ℕ) → length before ≡ base + there → passed_lines (before ++ (ys ++ more)) (map (moved_line lines base) js) ≡ ys)
    → passed_lines (front ++ (xs ++ more)) (map (moved_line lines base) (j ∷ js)) ≡ xs
first_passes limit at base lines k xs p ended j js h z good low front more from rest_passes =
    ap (λ (ys : List ℕ). passed_line ys moved ++ passed_lines ys (map (moved_line lines base) js)) all
    ∙ ap (λ (ys : List ℕ). ys ++ passed_lines (front ++ (mid ++ (c.rest ++ more))) (map (moved_line lines base) js)) one
    ∙ ap (λ (ys : List ℕ). mid ++ passed_lines ys (map (moved_line lines base) js)) (sym (append_assoc front mid (c.rest ++ more)))
    ∙ ap (λ (ys : List ℕ). mid ++ ys) others
    ∙ append_assoc text (0x0a ∷ []) c.rest
    ∙ sym c.bytes
  where
    text : List ℕ
    text = before_first is_line_feed xs

    mid : List ℕ
    mid = text ++ 0x0a ∷ []

    moved : JudgedLine
    moved = moved_line lines base j

    same : part at text ≡ p
    same = same_head (part at text) p (behind_each is_line_feed at xs) (ended ++ part (at + length xs) [] ∷ []) h

    behind : behind_each is_line_feed at xs ≡ ended ++ part (at + length xs) [] ∷ []
    behind = same_tail (part at text) p (behind_each is_line_feed at xs) (ended ++ part (at + length xs) [] ∷ []) h

    c : Cut at xs (ended ++ part (at + length xs) [] ∷ [])
    c = cut at xs ended (part (at + length xs) []) behind

    long : length xs ≡ suc (length text + length c.rest)
    long =
        let a : length xs ≡ length (text ++ 0x0a ∷ c.rest) = ap length c.bytes in
        let b : length (text ++ 0x0a ∷ c.rest) ≡ length text + suc (length c.rest) = length-append text (0x0a ∷ c.rest) in
        omega (arith, a, b)

    mid_long : length mid ≡ suc (length text)
    mid_long = let a : length mid ≡ length text + 1 = length-append text (0x0a ∷ []) in omega (arith, a)

    ok : (is_good j.verdict ≡ true) × (no_texts_of js ≡ [])
    ok = first_good j js good

    start : j.span.start ≡ at
    start = ap (λ (s : Span). s.start) z.span_is ∙ sym (ap (λ (q : Part). q.at) same)

    end : j.span.end ≡ at + length text
    end = ap (λ (s : Span). s.end) z.span_is ∙ sym (ap (λ (q : Part). q.at + length q.bytes) same)

    from_there : length front ≡ moved.span.start
    from_there = let a = start in let b = long in from ∙ (let e : base + at ≡ offset_at base j.span.start = omega (arith, a, b, low) in e)

    to_there : suc moved.span.end ≡ moved.span.start + length mid
    to_there =
        let a = start in
        let b = end in
        let l = long in
        let m = mid_long in
        let x : offset_at base j.span.start ≡ base + at = omega (arith, a, l, low) in
        let y : offset_at base j.span.end ≡ base + (at + length text) = omega (arith, b, l, low) in
        let e : suc (offset_at base j.span.end) ≡ offset_at base j.span.start + length mid = omega (arith, x, y, m) in
        e

    all : front ++ (xs ++ more) ≡ front ++ (mid ++ (c.rest ++ more))
    all =
        ap (λ (ys : List ℕ). front ++ (ys ++ more)) c.bytes
        ∙ ap (λ (ys : List ℕ). front ++ (ys ++ more)) (sym (append_assoc text (0x0a ∷ []) c.rest))
        ∙ ap (λ (ys : List ℕ). front ++ ys) (append_assoc mid c.rest more)

    one : passed_line (front ++ (mid ++ (c.rest ++ more))) moved ≡ mid
    one = line_there front mid (c.rest ++ more) moved from_there to_there ∙ ap (λ (m : Bool). cond m mid []) (still_good base j.verdict ∙ ok.0)

    others : passed_lines ((front ++ mid) ++ (c.rest ++ more)) (map (moved_line lines base) js) ≡ c.rest
    others =
        let l = long in
        let m = mid_long in
        let n : length (front ++ mid) ≡ length front + length mid = length-append front mid in
        let last : at + length xs ≡ suc (at + length text) + length c.rest = omega (arith, l) in
        rest_passes (suc (at + length text)) c.rest (c.parts ∙ ap (λ (i : ℕ). ended ++ part i [] ∷ []) last) ok.1 (omega (arith, l, low)) (front ++ mid) (omega (arith, m, n, from))

texts_pass : (limit at base lines k : ℕ) (xs : List ℕ) (ended : List Part) (js : List JudgedLine) → parts_by is_line_feed at xs ≡ ended ++ part (at + length xs) [] ∷ []
    → AllZip (IsAnswer (unmarked limit)) (ended_from k ended) js → no_texts_of js ≡ [] → base + (at + length xs) < 2 ^ 64
    → (front more : List ℕ) → length front ≡ base + at → passed_lines (front ++ (xs ++ more)) (map (moved_line lines base) js) ≡ xs
texts_pass limit at base lines k xs [] [] h z good low front more from =
    let first : part at (before_first is_line_feed xs) ≡ part (at + length xs) [] = same_head (part at (before_first is_line_feed xs)) (part (at + length xs) []) (behind_each is_line_feed at xs) [] h in
    let here : at ≡ at + length xs = ap (λ (p : Part). p.at) first in
    nothing xs (omega (arith, here))
texts_pass limit at base lines k xs [] (j ∷ js) h z good low front more from = absurd z
texts_pass limit at base lines k xs (p ∷ ended) [] h z good low front more from = absurd z
texts_pass limit at base lines k xs (p ∷ ended) (j ∷ js) h z good low front more from =
    first_passes limit at base lines k xs p ended j js h z.0 good low front more from
    (λ there ys parts texts within before starts. texts_pass limit there base lines (suc k) ys ended js parts z.1 texts within before more starts)

-- whole lines each of which is a text
pub whole_pass : (limit base lines : ℕ) (xs : List ℕ) (answers : List JudgedLine) (w : WholeLinesValue) → AreWhole limit xs answers w → w.bad ≡ [] → base + length xs < 2 ^ 64
    → AllPass base xs (map (moved_line lines base) answers)
whole_pass limit base lines xs answers w h none low = λ front more from.
    texts_pass limit 0 base lines 1 xs h.ended answers (h.parts ∙ ap (λ (n : ℕ). h.ended ++ part n [] ∷ []) (let e : length xs ≡ 0 + length xs = omega arith in e)) h.are_answers (sym h.bad_are ∙ none)
    (omega (arith, low)) front more (omega (arith, from))
