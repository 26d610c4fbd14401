-- What holds of all lines.
use Rattle.std.proofs.Common.{◌≡◌, ℕ, zero, suc, ◌+◌, ◌≤◌, List, [], ◌∷◌, ◌++◌, length, drop, Bool, true, false, cond, Some, refl, sym, ap, subst, ◌∙◌, append-nil, arith}
use Rattle.std.specs.Prelude.{◌==◌, filter, slice_get}
use Rattle.std.specs.List.{AllZip}
use Rattle.std.proofs.lemmas.Bool.Decides.{nat_tests}
use Rattle.std.proofs.lemmas.List.{drop-append-le}
use Rattle.std.proofs.lemmas.List.Elements.{filter-append}
use Rattle.jx_summary.specs.declared.span.Span.{Span}
use Rattle.jx_run.specs.declared.texts.settings.FrontMark.{FrontMark}
use Rattle.jx_run.specs.declared.texts.settings.FrontMark.TheVariants.{Refused, Ignored}
use Rattle.jx_run.specs.declared.texts.settings.Settings.{Settings}
use Rattle.jx_run.specs.declared.texts.verdict.Refusal.{Refusal}
use Rattle.jx_run.specs.declared.texts.verdict.Verdict.{Verdict}
use Rattle.jx_run.specs.declared.texts.verdict.Verdict.TheVariants as verdict
use Rattle.jx_run.specs.Elements.{Part, part, has_bytes}
use Rattle.jx_run.specs.Front.{agreed}
use Rattle.jx_run.specs.Settings.{JudgedBy, a_text, byte_order_mark}
use Rattle.jx_ndjson.specs.declared.judged_line.JudgedLine.{JudgedLine}
use Rattle.jx_ndjson.specs.declared.judged_line.LineVerdict.{LineVerdict}
use Rattle.jx_ndjson.specs.declared.judged_line.LineVerdict.TheVariants as on_line
use Rattle.jx_ndjson.specs.Answers.{AreAnswers, IsAnswer, IsVerdictOn, settings_at}
use Rattle.jx_ndjson.specs.Lines.{Line, line, ended_lines, is_line_feed, lines, lines_from, lines_of, mark_length}
use Rattle.jx_ndjson.specs.Parts.{before_first, behind_each, parts_by}
use Rattle.jx_ndjson.specs.Reading.{HasTold, LineReaderValue, ended_from}
use Rattle.jx_ndjson.proofs.Cuts.{longer, parts-append}
use Rattle.jx_ndjson.proofs.Steps.{lines-split}

-- ---- the answers are one

abbrev pub VerdictsAreOne : Type 0
VerdictsAreOne = (settings : Settings) (at : ℕ) (bytes : List ℕ) (x y : Verdict) → JudgedBy settings at bytes x → JudgedBy settings at bytes y → x ≡ y

not_blank : {A : Type 0} (b : Bool) → b ≡ true → b ≡ false → A
not_blank b x y = absurd (cc)

refusal_in : Refusal → Verdict → Refusal
refusal_in r verdict.Accepted = r
refusal_in r (verdict.Refused s) = s

one_on_line : VerdictsAreOne → (l : Line) (settings : Settings) (x y : LineVerdict) → IsVerdictOn l settings x → IsVerdictOn l settings y → x ≡ y
unfolding refusal_in
one_on_line law l settings on_line.Blank on_line.Blank h k = refl
one_on_line law l settings on_line.Blank (on_line.Refused r) h k = not_blank _ h k.0
one_on_line law l settings on_line.Blank on_line.MayBeCut h k = not_blank _ h k.0
one_on_line law l settings on_line.Blank on_line.Accepted h k = not_blank _ h k.0
one_on_line law l settings (on_line.Refused r) on_line.Blank h k = not_blank _ k h.0
one_on_line law l settings (on_line.Refused r) (on_line.Refused s) h k =
    ap (λ (v : Verdict). on_line.Refused (refusal_in r v)) (law settings l.part.at l.part.bytes (verdict.Refused r) (verdict.Refused s) h.1 k.1)
one_on_line law l settings (on_line.Refused r) on_line.MayBeCut h k = absurd (let e = law settings l.part.at l.part.bytes (verdict.Refused r) verdict.Accepted h.1 (a_text k.1.is_text) in cc)
one_on_line law l settings (on_line.Refused r) on_line.Accepted h k = absurd (let e = law settings l.part.at l.part.bytes (verdict.Refused r) verdict.Accepted h.1 k.1 in cc)
one_on_line law l settings on_line.MayBeCut on_line.Blank h k = not_blank _ k h.0
one_on_line law l settings on_line.MayBeCut (on_line.Refused s) h k = absurd (let e = law settings l.part.at l.part.bytes (verdict.Refused s) verdict.Accepted k.1 (a_text h.1.is_text) in cc)
one_on_line law l settings on_line.MayBeCut on_line.MayBeCut h k = refl
one_on_line law l settings on_line.MayBeCut on_line.Accepted h k = absurd (k.2 h.1)
one_on_line law l settings on_line.Accepted on_line.Blank h k = not_blank _ k h.0
one_on_line law l settings on_line.Accepted (on_line.Refused s) h k = absurd (let e = law settings l.part.at l.part.bytes (verdict.Refused s) verdict.Accepted k.1 h.1 in cc)
one_on_line law l settings on_line.Accepted on_line.MayBeCut h k = absurd (h.2 k.1)
one_on_line law l settings on_line.Accepted on_line.Accepted h k = refl

one_answer : VerdictsAreOne → (settings : Settings) (l : Line) (x y : JudgedLine) → IsAnswer settings l x → IsAnswer settings l y → x ≡ y
one_answer law settings l x y h k =
    let number : x.number ≡ y.number = h.number_is ∙ sym k.number_is in
    let span : x.span ≡ y.span = h.span_is ∙ sym k.span_is in
    let on : x.verdict ≡ y.verdict = one_on_line law l (settings_at settings l.part.at) x.verdict y.verdict h.verdict_is k.verdict_is in
    ap (λ (n : ℕ). let j : JudgedLine = record { number = n; span = x.span; verdict = x.verdict } in j) number
    ∙ ap (λ (s : Span). let j : JudgedLine = record { number = y.number; span = s; verdict = x.verdict } in j) span
    ∙ ap (λ (v : LineVerdict). let j : JudgedLine = record { number = y.number; span = y.span; verdict = v } in j) on

one_each : VerdictsAreOne → (settings : Settings) (ls : List Line) (xs ys : List JudgedLine) → AllZip (IsAnswer settings) ls xs → AllZip (IsAnswer settings) ls ys → xs ≡ ys
one_each law settings [] [] [] h k = refl
one_each law settings [] [] (y ∷ ys) h k = absurd k
one_each law settings [] (x ∷ xs) ys h k = absurd h
one_each law settings (l ∷ ls) [] ys h k = absurd h
one_each law settings (l ∷ ls) (x ∷ xs) [] h k = absurd k
one_each law settings (l ∷ ls) (x ∷ xs) (y ∷ ys) h k =
    ap (λ (j : JudgedLine). j ∷ xs) (one_answer law settings l x y h.0 k.0) ∙ ap (λ (js : List JudgedLine). y ∷ js) (one_each law settings ls xs ys h.1 k.1)

pub one_answers : VerdictsAreOne → (settings : Settings) (input : List ℕ) (x y : List JudgedLine) → AreAnswers settings input x → AreAnswers settings input y → x ≡ y
one_answers law settings input x y h k = one_each law settings (lines settings.mark input) x y h k

-- ---- lines that have ended

abbrev is_ended : Line → Bool
is_ended l = l.is_ended

ended_alone : (n : ℕ) (ps : List Part) → filter is_ended (ended_from n ps) ≡ ended_from n ps
ended_alone n [] = refl
ended_alone n (p ∷ ps) = ap (λ (ls : List Line). line n p true ∷ ls) (ended_alone (suc n) ps)

last_alone : (n : ℕ) (p : Part) → filter is_ended (lines_of n (p ∷ [])) ≡ []
last_alone n p = pick (has_bytes p)
  where
    pick : (b : Bool) → filter is_ended (cond b (line n p false ∷ []) []) ≡ []
    pick true = refl
    pick false = refl

abbrev ended_at : ℕ → List ℕ → List Line
ended_at at bytes = filter is_ended (lines_from at bytes)

ended_behind : (ps : List Part) (p : Part) (qs : List Part) → filter is_ended (lines_of 1 (ps ++ p ∷ qs)) ≡ ended_from 1 ps ++ filter is_ended (lines_of (1 + length ps) (p ∷ qs))
ended_behind ps p qs =
    ap (filter is_ended) (lines-split 1 ps p qs)
    ∙ filter-append is_ended (ended_from 1 ps) (lines_of (1 + length ps) (p ∷ qs))
    ∙ ap (λ (ls : List Line). ls ++ filter is_ended (lines_of (1 + length ps) (p ∷ qs))) (ended_alone 1 ps)

ended_is : (at : ℕ) (bytes : List ℕ) (ps : List Part) (p : Part) → parts_by is_line_feed at bytes ≡ ps ++ p ∷ [] → ended_at at bytes ≡ ended_from 1 ps
ended_is at bytes ps p h =
    ap (λ (qs : List Part). filter is_ended (lines_of 1 qs)) h
    ∙ ended_behind ps p []
    ∙ ap (λ (ls : List Line). ended_from 1 ps ++ ls) (last_alone (1 + length ps) p)
    ∙ append-nil (ended_from 1 ps)

pub told_are_ended : (settings : Settings) (input : List ℕ) (told : List JudgedLine) (r : LineReaderValue) → HasTold settings input told r → AllZip (IsAnswer settings) (ended_lines settings.mark input) told
told_are_ended settings input told r h =
    let k = mark_length settings.mark input in
    subst (λ (ls : List Line). AllZip (IsAnswer settings) ls told) (sym (ended_is k (drop k input) h.reads.ended h.reads.last h.reads.parts)) h.reads.answers

-- ---- they stay

pub record IsSplit (ps : List Part) : Type 0 where
  pub ended : List Part
  pub last : Part
  pub split : ps ≡ ended ++ last ∷ []

pub split_last : (p : Part) (ps : List Part) → IsSplit (p ∷ ps)
split_last p [] = record { ended = []; last = p; split = refl }
split_last p (q ∷ ps) = let h = split_last q ps in record { ended = p ∷ h.ended; last = h.last; split = ap (λ (rs : List Part). p ∷ rs) h.split }

abbrev GoesOn : List Line → List Line → Type 0
GoesOn xs ys = (rest : List Line) × (ys ≡ xs ++ rest)

stay_at : (at : ℕ) (xs ys : List ℕ) → GoesOn (ended_at at xs) (ended_at at (xs ++ ys))
stay_at at xs ys =
    let h = split_last (part at (before_first is_line_feed xs)) (behind_each is_line_feed at xs) in
    let q : Part = longer h.last (before_first is_line_feed ys) in
    let qs : List Part = behind_each is_line_feed (at + length xs) ys in
    let all : ended_at at (xs ++ ys) ≡ ended_from 1 h.ended ++ filter is_ended (lines_of (1 + length h.ended) (q ∷ qs)) =
    ap (λ (ps : List Part). filter is_ended (lines_of 1 ps)) (parts-append is_line_feed xs ys at h.ended h.last h.split) ∙ ended_behind h.ended q qs in
    (filter is_ended (lines_of (1 + length h.ended) (q ∷ qs)), all ∙ ap (λ (ls : List Line). ls ++ filter is_ended (lines_of (1 + length h.ended) (q ∷ qs))) (sym (ended_is at xs h.ended h.last h.split)))

-- with more bytes the mark takes as many, or it had not ended and no line had
data Stays (mark : FrontMark) (input more : List ℕ) : Type 0 where
  same : mark_length mark input ≤ length input → mark_length mark (input ++ more) ≡ mark_length mark input → Stays mark input more
  begun : ended_lines mark input ≡ [] → Stays mark input more

-- by the first bytes that differ
stays_by : (input more : List ℕ) → Stays Ignored input more
stays_by [] more = begun refl
stays_by (a ∷ []) more = first (a == 0xef) refl
  where
    first : (t : Bool) → (a == 0xef) ≡ t → Stays Ignored (a ∷ []) more
    first true e = begun (let is : a ≡ 0xef = grind (arith, nat_tests) in ap (λ (x : ℕ). ended_lines Ignored (x ∷ [])) is)
    first false e =
        let here : mark_length Ignored (a ∷ []) ≡ 0 = ap (λ (t : Bool). cond (cond t 1 0 == 3) 3 0) e in
        same (omega (arith, here)) (ap (λ (t : Bool). cond (cond t (suc (agreed more (0xbb ∷ 0xbf ∷ []))) 0 == 3) 3 0) e ∙ sym here)
stays_by (a ∷ b ∷ []) more = first (a == 0xef) (b == 0xbb) refl refl
  where
    first : (t u : Bool) → (a == 0xef) ≡ t → (b == 0xbb) ≡ u → Stays Ignored (a ∷ b ∷ []) more
    first true true e f =
        begun (let is : a ≡ 0xef = grind (arith, nat_tests) in
        let also : b ≡ 0xbb = grind (arith, nat_tests) in
        ap (λ (x : ℕ). ended_lines Ignored (x ∷ b ∷ [])) is ∙ ap (λ (x : ℕ). ended_lines Ignored (0xef ∷ x ∷ [])) also)
    first true false e f =
        let here : mark_length Ignored (a ∷ b ∷ []) ≡ 0 = ap (λ (t : Bool). cond (cond t (suc (cond (b == 0xbb) 1 0)) 0 == 3) 3 0) e ∙ ap (λ (t : Bool). cond (suc (cond t 1 0) == 3) 3 0) f in
        same (omega (arith, here))
        (ap (λ (t : Bool). cond (cond t (suc (cond (b == 0xbb) (suc (agreed more (0xbf ∷ []))) 0)) 0 == 3) 3 0) e ∙ ap (λ (t : Bool). cond (suc (cond t (suc (agreed more (0xbf ∷ []))) 0) == 3) 3 0) f ∙ sym here)
    first false u e f =
        let here : mark_length Ignored (a ∷ b ∷ []) ≡ 0 = ap (λ (t : Bool). cond (cond t (suc (cond (b == 0xbb) 1 0)) 0 == 3) 3 0) e in
        same (omega (arith, here)) (ap (λ (t : Bool). cond (cond t (suc (cond (b == 0xbb) (suc (agreed more (0xbf ∷ []))) 0)) 0 == 3) 3 0) e ∙ sym here)
stays_by (a ∷ b ∷ c ∷ xs) more =
    same (low (agreed (a ∷ b ∷ c ∷ xs) byte_order_mark == 3)) (ap (λ (n : ℕ). cond (n == 3) 3 0) alike)
  where
    low : (t : Bool) → cond t 3 0 ≤ length (a ∷ b ∷ c ∷ xs)
    low true = omega arith
    low false = omega arith

    nil : (ys zs : List ℕ) → agreed ys [] ≡ agreed zs []
    nil [] [] = refl
    nil [] (z ∷ zs) = refl
    nil (y ∷ ys) [] = refl
    nil (y ∷ ys) (z ∷ zs) = refl

    alike : agreed ((a ∷ b ∷ c ∷ xs) ++ more) byte_order_mark ≡ agreed (a ∷ b ∷ c ∷ xs) byte_order_mark
    alike = ap (λ (n : ℕ). cond (a == 0xef) (suc (cond (b == 0xbb) (suc (cond (c == 0xbf) (suc n) 0)) 0)) 0) (nil (xs ++ more) xs)

stays : (mark : FrontMark) (input more : List ℕ) → Stays mark input more
stays Refused input more = same (omega arith) refl
stays Ignored input more = stays_by input more

pub ended_stay : (mark : FrontMark) (input more : List ℕ) → GoesOn (ended_lines mark input) (ended_lines mark (input ++ more))
ended_stay mark input more = pick (stays mark input more)
  where
    pick : Stays mark input more → GoesOn (ended_lines mark input) (ended_lines mark (input ++ more))
    pick (begun e) = (ended_lines mark (input ++ more), ap (λ (ls : List Line). ls ++ ended_lines mark (input ++ more)) (sym e))
    pick (same low e) =
        let k = mark_length mark input in
        subst (λ (ls : List Line). GoesOn (ended_lines mark input) ls)
        (sym (ap (λ (n : ℕ). ended_at n (drop n (input ++ more))) e ∙ ap (ended_at k) (drop-append-le k input more low)))
        (stay_at k (drop k input) more)

-- ---- how many there are

ended_long : (n : ℕ) (p : Part) (ps : List Part) → length (filter is_ended (lines_of n (p ∷ ps))) ≡ length ps
ended_long n p [] = ap length (last_alone n p)
ended_long n p (q ∷ ps) = ap suc (ended_long (suc n) q ps)

behind_long : (at : ℕ) (bytes : List ℕ) → length (behind_each is_line_feed at bytes) ≡ length (filter is_line_feed bytes)
behind_long at [] = refl
behind_long at (b ∷ bytes) = pick (is_line_feed b) (behind_long (suc at) bytes)
  where
    pick : (m : Bool) → length (behind_each is_line_feed (suc at) bytes) ≡ length (filter is_line_feed bytes)
        → length (cond m (part (suc at) (before_first is_line_feed bytes) ∷ behind_each is_line_feed (suc at) bytes) (behind_each is_line_feed (suc at) bytes))
        ≡ length (cond m (b ∷ filter is_line_feed bytes) (filter is_line_feed bytes))
    pick true h = ap suc h
    pick false h = h

count_at : (at : ℕ) (bytes : List ℕ) → length (ended_at at bytes) ≡ length (filter is_line_feed bytes)
count_at at bytes = ended_long 1 (part at (before_first is_line_feed bytes)) (behind_each is_line_feed at bytes) ∙ behind_long at bytes

-- a byte order mark has no line feed
feeds_behind : (input : List ℕ) (k : ℕ) → mark_length Ignored input ≡ k → length (filter is_line_feed (drop k input)) ≡ length (filter is_line_feed input)
feeds_behind [] k e = ap (λ (n : ℕ). length (filter is_line_feed (drop n []))) (sym e)
feeds_behind (a ∷ xs) k e = pick (agreed (a ∷ xs) byte_order_mark == 3) refl
  where
    pick : (t : Bool) → (agreed (a ∷ xs) byte_order_mark == 3) ≡ t → length (filter is_line_feed (drop k (a ∷ xs))) ≡ length (filter is_line_feed (a ∷ xs))
    pick false f = ap (λ (n : ℕ). length (filter is_line_feed (drop n (a ∷ xs)))) (sym e ∙ ap (λ (t : Bool). cond t 3 0) f)
    pick true f = ap (λ (n : ℕ). length (filter is_line_feed (drop n (a ∷ xs)))) (sym e ∙ ap (λ (t : Bool). cond t 3 0) f) ∙ skip a xs f
      where
        third : (a b c : ℕ) (ys : List ℕ) (t u v : Bool) → (a == 0xef) ≡ t → (b == 0xbb) ≡ u → (c == 0xbf) ≡ v → (cond t (suc (cond u (suc (cond v (suc (agreed ys [])) 0)) 0)) 0 == 3) ≡ true
            → length (filter is_line_feed ys) ≡ length (filter is_line_feed (a ∷ b ∷ c ∷ ys))
        third a b c ys true true true e f g h =
            let x : a ≡ 0xef = grind (arith, nat_tests) in
            let y : b ≡ 0xbb = grind (arith, nat_tests) in
            let z : c ≡ 0xbf = grind (arith, nat_tests) in
            sym (ap (λ (n : ℕ). length (filter is_line_feed (n ∷ b ∷ c ∷ ys))) x ∙ ap (λ (n : ℕ). length (filter is_line_feed (0xef ∷ n ∷ c ∷ ys))) y ∙ ap (λ (n : ℕ). length (filter is_line_feed (0xef ∷ 0xbb ∷ n ∷ ys))) z)
        third a b c ys true true false e f g h = absurd (cc)
        third a b c ys true false v e f g h = absurd (cc)
        third a b c ys false u v e f g h = absurd (cc)

        two_at_most : (t u : Bool) → (cond t (suc (cond u 1 0)) 0 == 3) ≡ true → ⊥
        two_at_most true true h = absurd (cc)
        two_at_most true false h = absurd (cc)
        two_at_most false u h = absurd (cc)

        skip : (a : ℕ) (xs : List ℕ) → (agreed (a ∷ xs) byte_order_mark == 3) ≡ true → length (filter is_line_feed (drop 3 (a ∷ xs))) ≡ length (filter is_line_feed (a ∷ xs))
        skip a [] h = absurd (two_at_most (a == 0xef) false h)
        skip a (b ∷ []) h = absurd (two_at_most (a == 0xef) (b == 0xbb) h)
        skip a (b ∷ c ∷ ys) h = third a b c ys (a == 0xef) (b == 0xbb) (c == 0xbf) refl refl refl h

pub count_is : (mark : FrontMark) (input : List ℕ) → length (ended_lines mark input) ≡ length (filter is_line_feed input)
count_is Refused input = count_at 0 input
count_is Ignored input = let k = mark_length Ignored input in count_at k (drop k input) ∙ feeds_behind input k refl

-- ---- numbers

number_at : (n : ℕ) (ps : List Part) (i : ℕ) (l : Line) → slice_get (lines_of n ps) i ≡ Some l → l.number ≡ n + i
number_at n [] i l h = absurd (cc)
number_at n (p ∷ []) i l h = pick (has_bytes p) i h
  where
    pick : (b : Bool) (i : ℕ) → slice_get (cond b (line n p false ∷ []) []) i ≡ Some l → l.number ≡ n + i
    pick true zero h = let e : line n p false ≡ l = cc in sym (ap (λ (x : Line). x.number) e) ∙ (let z : n ≡ n + 0 = omega arith in z)
    pick true (suc i) h = absurd (cc)
    pick false i h = absurd (cc)
number_at n (p ∷ q ∷ ps) zero l h = let e : line n p true ≡ l = cc in sym (ap (λ (x : Line). x.number) e) ∙ (let z : n ≡ n + 0 = omega arith in z)
number_at n (p ∷ q ∷ ps) (suc i) l h = number_at (suc n) (q ∷ ps) i l h ∙ (let z : suc n + i ≡ n + suc i = omega arith in z)

pub number_is : (mark : FrontMark) (input : List ℕ) (i : ℕ) (l : Line) → slice_get (lines mark input) i ≡ Some l → l.number ≡ suc i
number_is mark input i l h =
    let k = mark_length mark input in
    number_at 1 (parts_by is_line_feed k (drop k input)) i l h ∙ (let z : 1 + i ≡ suc i = omega arith in z)
