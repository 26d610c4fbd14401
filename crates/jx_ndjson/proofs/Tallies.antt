-- A tally takes lines, and tells the end.
use Rattle.std.proofs.Common.{◌≡◌, ℕ, zero, suc, ◌+◌, ◌-◌, ◌<◌, ◌≤◌, map, List, [], ◌∷◌, ◌++◌, length, take, drop, arith, Bool, true, false, cond, refl, sym, ap, subst, ◌∙◌, append_assoc, append-nil, length-append}
use Rattle.std.specs.Prelude.{slice_range, filter, not}
use Rattle.std.proofs.Math.ListN.{length-map}
use Rattle.std.proofs.lemmas.List.{take-take}
use Rattle.std.proofs.lemmas.List.Elements.{filter-append}
use Rattle.jx_run.specs.declared.texts.settings.Settings.{Settings}
use Rattle.jx_ndjson.specs.declared.judged_line.JudgedLine.{JudgedLine}
use Rattle.jx_ndjson.specs.declared.judged_line.LineVerdict.{LineVerdict}
use Rattle.jx_ndjson.specs.declared.judged_line.LineVerdict.TheVariants.{Accepted, Refused, MayBeCut, Blank}
use Rattle.jx_ndjson.specs.declared.line_tally.LineCounts.{LineCounts}
use Rattle.jx_ndjson.specs.Answers.{AreAnswers}
use Rattle.jx_ndjson.specs.Reading.{HasTold}
use Rattle.jx_ndjson.specs.Tally.{HasTaken, IsTallied, TallyValue, bad_of, count_of, counted, counts_of, is_accepted, is_blank_line, is_refused, one_if}
use Rattle.jx_ndjson.specs.WholeLines.{AreWhole, WholeLinesValue, moved_line, moved_verdict}
use Rattle.jx_ndjson.proofs.Moved.{bad_moved}

-- ---- bytes one after another

take_on : (xs : List ℕ) (i n : ℕ) → take (i + n) xs ≡ take i xs ++ take n (drop i xs)
take_on xs zero n = ap (λ (k : ℕ). take k xs) (let e : 0 + n ≡ n = omega arith in e)
take_on [] (suc i) n = take_nil (suc i + n) ∙ sym (take_nil n)
  where
    take_nil : (k : ℕ) → take {A = ℕ} k [] ≡ []
    take_nil zero = refl
    take_nil (suc k) = refl
take_on (x ∷ xs) (suc i) n = ap (λ (k : ℕ). take k (x ∷ xs)) (let e : suc i + n ≡ suc (i + n) = omega arith in e) ∙ ap (λ (ys : List ℕ). x ∷ ys) (take_on xs i n)

-- with a step from an offset on
pub one_step : (bytes slice : List ℕ) (at n : ℕ) → at ≤ length slice → n ≤ length slice - at → (bytes ++ take at slice) ++ take n (slice_range slice at (length slice)) ≡ bytes ++ take (at + n) slice
one_step bytes slice at n within low =
    append_assoc bytes (take at slice) (take n (slice_range slice at (length slice)))
    ∙ ap (λ (xs : List ℕ). bytes ++ (take at slice ++ xs)) (take-take n (length slice - at) (drop at slice) low)
    ∙ ap (λ (xs : List ℕ). bytes ++ xs) (sym (take_on slice at n))

-- ---- one line more

one_length : (j : JudgedLine) (b : Bool) → length (cond b (j ∷ []) []) ≡ one_if b
one_length j true = refl
one_length j false = refl

one_more : (is : LineVerdict → Bool) (answers : List JudgedLine) (j : JudgedLine) → count_of is (answers ++ j ∷ []) ≡ count_of is answers + one_if (is j.verdict)
one_more is answers j =
    ap length (filter-append (λ (x : JudgedLine). is x.verdict) answers (j ∷ []))
    ∙ length-append (count-list answers) (cond (is j.verdict) (j ∷ []) [])
    ∙ ap (λ (n : ℕ). count_of is answers + n) (one_length j (is j.verdict))
  where
    count-list : List JudgedLine → List JudgedLine
    count-list = filter (λ (x : JudgedLine). is x.verdict)

pub more_counts : (answers : List JudgedLine) (j : JudgedLine) → counts_of (answers ++ j ∷ []) ≡ counted (counts_of answers) j.verdict
more_counts answers j =
    ap (λ (n : ℕ). record { accepted = n; refused = count_of is_refused (answers ++ j ∷ []); blank = count_of is_blank_line (answers ++ j ∷ []) }) (one_more is_accepted answers j)
    ∙ ap (λ (n : ℕ). record { accepted = a; refused = n; blank = count_of is_blank_line (answers ++ j ∷ []) }) (one_more is_refused answers j)
    ∙ ap (λ (n : ℕ). record { accepted = a; refused = r; blank = n }) (one_more is_blank_line answers j)
  where
    a : ℕ
    a = count_of is_accepted answers + one_if (is_accepted j.verdict)

    r : ℕ
    r = count_of is_refused answers + one_if (is_refused j.verdict)

pub more_bad : (answers : List JudgedLine) (j : JudgedLine) → bad_of (answers ++ j ∷ []) ≡ bad_of answers ++ bad_of (j ∷ [])
more_bad answers j = filter-append (λ (x : JudgedLine). not (is_accepted x.verdict)) answers (j ∷ [])

-- ---- what a tally takes

-- bytes that end no line
pub takes_none : (settings : Settings) (bytes more : List ℕ) (given : List JudgedLine) (old new : TallyValue) → HasTaken settings bytes given old → new.counts ≡ old.counts → new.waiting ≡ old.waiting
    → ((s : Settings) (input : List ℕ) (told : List JudgedLine) → HasTold s input told old.lines → HasTold s (input ++ more) (told ++ []) new.lines)
    → HasTaken settings (bytes ++ more) given new
takes_none settings bytes more given old new h counts waiting reads =
    record {
      answers = h.answers;
      told = subst (λ (js : List JudgedLine). HasTold settings (bytes ++ more) js new.lines) (append-nil h.answers) (reads settings bytes h.answers h.told);
      counts_are = counts ∙ h.counts_are;
      bad_are = ap (λ (js : List JudgedLine). given ++ js) waiting ∙ h.bad_are;
    }

-- bytes that end one
pub takes_line : (settings : Settings) (bytes more : List ℕ) (given : List JudgedLine) (j : JudgedLine) (old new : TallyValue) → HasTaken settings bytes given old
    → new.counts ≡ counted old.counts j.verdict → new.waiting ≡ old.waiting ++ bad_of (j ∷ [])
    → ((s : Settings) (input : List ℕ) (told : List JudgedLine) → HasTold s input told old.lines → HasTold s (input ++ more) (told ++ j ∷ []) new.lines)
    → HasTaken settings (bytes ++ more) given new
takes_line settings bytes more given j old new h counts waiting reads =
    record {
      answers = h.answers ++ j ∷ [];
      told = reads settings bytes h.answers h.told;
      counts_are = counts ∙ ap (λ (c : LineCounts). counted c j.verdict) h.counts_are ∙ sym (more_counts h.answers j);
      bad_are =
          ap (λ (js : List JudgedLine). given ++ js) waiting
          ∙ sym (append_assoc given old.waiting (bad_of (j ∷ [])))
          ∙ ap (λ (js : List JudgedLine). js ++ bad_of (j ∷ [])) h.bad_are
          ∙ sym (more_bad h.answers j);
    }

-- ---- the end

-- without a last line
pub ends_so : (settings : Settings) (bytes : List ℕ) (given : List JudgedLine) (t : TallyValue) → HasTaken settings bytes given t
    → ((s : Settings) (input : List ℕ) (told : List JudgedLine) → HasTold s input told t.lines → AreAnswers s input (told ++ []))
    → IsTallied settings bytes ((given ++ t.waiting) ++ []) t.counts
ends_so settings bytes given t h last =
    record {
      answers = h.answers;
      are_answers = subst (λ (js : List JudgedLine). AreAnswers settings bytes js) (append-nil h.answers) (last settings bytes h.answers h.told);
      bad_are = append-nil (given ++ t.waiting) ∙ h.bad_are;
      counts_are = h.counts_are;
    }

-- with one
pub ends_with : (settings : Settings) (bytes : List ℕ) (given bad : List JudgedLine) (j : JudgedLine) (t : TallyValue) (counts : LineCounts) → HasTaken settings bytes given t
    → ((s : Settings) (input : List ℕ) (told : List JudgedLine) → HasTold s input told t.lines → AreAnswers s input (told ++ j ∷ []))
    → bad ≡ bad_of (j ∷ []) → counts ≡ counted t.counts j.verdict → IsTallied settings bytes ((given ++ t.waiting) ++ bad) counts
ends_with settings bytes given bad j t counts h last is are =
    record {
      answers = h.answers ++ j ∷ [];
      are_answers = last settings bytes h.answers h.told;
      bad_are =
          ap (λ (js : List JudgedLine). js ++ bad) h.bad_are
          ∙ ap (λ (js : List JudgedLine). bad_of h.answers ++ js) is
          ∙ sym (more_bad h.answers j);
      counts_are = are ∙ ap (λ (c : LineCounts). counted c j.verdict) h.counts_are ∙ sym (more_counts h.answers j);
    }

-- ---- whole lines that are texts

-- where no line is bad, all are accepted
all_accepted : (js : List JudgedLine) → bad_of js ≡ [] → (count_of is_accepted js ≡ length js) × (count_of is_refused js ≡ 0) × (count_of is_blank_line js ≡ 0)
all_accepted [] h = (refl, refl, refl)
all_accepted (j ∷ js) h = pick j.verdict h (all_accepted js)
  where
    among : (LineVerdict → Bool) → Bool → List JudgedLine
    among is first = cond first (j ∷ filter (λ (x : JudgedLine). is x.verdict) js) (filter (λ (x : JudgedLine). is x.verdict) js)

    pick : (v : LineVerdict) → cond (not (is_accepted v)) (j ∷ bad_of js) (bad_of js) ≡ []
        → (bad_of js ≡ [] → (count_of is_accepted js ≡ length js) × (count_of is_refused js ≡ 0) × (count_of is_blank_line js ≡ 0))
        → (length (among is_accepted (is_accepted v)) ≡ suc (length js)) × (length (among is_refused (is_refused v)) ≡ 0) × (length (among is_blank_line (is_blank_line v)) ≡ 0)
    pick Accepted e more = let rest = more e in (ap suc rest.0, rest.1, rest.2)
    pick (Refused refusal) e more = absurd (cc)
    pick MayBeCut e more = absurd (cc)
    pick Blank e more = absurd (cc)

count-append : (is : LineVerdict → Bool) (xs ys : List JudgedLine) → count_of is (xs ++ ys) ≡ count_of is xs + count_of is ys
count-append is xs ys =
    ap length (filter-append (λ (x : JudgedLine). is x.verdict) xs ys)
    ∙ length-append (filter (λ (x : JudgedLine). is x.verdict) xs) (filter (λ (x : JudgedLine). is x.verdict) ys)

-- counts with so many accepted lines more
abbrev with_accepted : LineCounts → ℕ → LineCounts
with_accepted counts more = record { accepted = counts.accepted + more; refused = counts.refused; blank = counts.blank }

counts_with : (xs js : List JudgedLine) → bad_of js ≡ [] → counts_of (xs ++ js) ≡ with_accepted (counts_of xs) (length js)
counts_with xs js none =
    let all = all_accepted js none in
    let a : count_of is_accepted (xs ++ js) ≡ count_of is_accepted xs + length js = count-append is_accepted xs js ∙ ap (λ (n : ℕ). count_of is_accepted xs + n) all.0 in
    let r : count_of is_refused (xs ++ js) ≡ count_of is_refused xs = count-append is_refused xs js ∙ (let z = all.1 in let e : count_of is_refused xs + count_of is_refused js ≡ count_of is_refused xs = omega (arith, z) in e) in
    let b : count_of is_blank_line (xs ++ js) ≡ count_of is_blank_line xs =
    count-append is_blank_line xs js ∙ (let z = all.2 in let e : count_of is_blank_line xs + count_of is_blank_line js ≡ count_of is_blank_line xs = omega (arith, z) in e) in
    ap (λ (n : ℕ). record { accepted = n; refused = count_of is_refused (xs ++ js); blank = count_of is_blank_line (xs ++ js) }) a
    ∙ ap (λ (n : ℕ). record { accepted = count_of is_accepted xs + length js; refused = n; blank = count_of is_blank_line (xs ++ js) }) r
    ∙ ap (λ (n : ℕ). record { accepted = count_of is_accepted xs + length js; refused = count_of is_refused xs; blank = n }) b

pub takes_texts : (settings : Settings) (bytes more : List ℕ) (given answers : List JudgedLine) (whole : WholeLinesValue) (lines at : ℕ) (old new : TallyValue) → HasTaken settings bytes given old
    → AreWhole settings.depth more answers whole → whole.bad ≡ [] → new.counts ≡ record { accepted = old.counts.accepted + whole.count; refused = old.counts.refused; blank = old.counts.blank }
    → new.waiting ≡ old.waiting
    → ((told : List JudgedLine) → HasTold settings bytes told old.lines → HasTold settings (bytes ++ more) (told ++ map (moved_line lines at) answers) new.lines)
    → HasTaken settings (bytes ++ more) given new
takes_texts settings bytes more given answers whole lines at old new h k none counts waiting reads =
    let moved : List JudgedLine = map (moved_line lines at) answers in
    let empty : bad_of moved ≡ [] = bad_moved lines at answers ∙ ap (map (moved_line lines at)) (sym k.bad_are ∙ none) in
    let many : whole.count ≡ length moved = k.count_is ∙ sym (length-map answers (moved_line lines at)) in
    record {
      answers = h.answers ++ moved;
      told = reads h.answers h.told;
      counts_are =
          counts
          ∙ ap (λ (c : LineCounts). with_accepted c whole.count) h.counts_are
          ∙ ap (with_accepted (counts_of h.answers)) many
          ∙ sym (counts_with h.answers moved empty);
      bad_are =
          ap (λ (js : List JudgedLine). given ++ js) waiting
          ∙ h.bad_are
          ∙ sym (append-nil (bad_of h.answers))
          ∙ ap (λ (js : List JudgedLine). bad_of h.answers ++ js) (sym empty)
          ∙ sym (filter-append (λ (x : JudgedLine). not (is_accepted x.verdict)) h.answers moved);
    }

-- ---- whole lines that were judged apart

pub one_counted : (is : LineVerdict → Bool) (j : JudgedLine) (js : List JudgedLine) (b : Bool) → is j.verdict ≡ b → count_of is (j ∷ js) ≡ one_if b + count_of is js
one_counted is j js true e =
    ap (λ (t : Bool). length (cond t (j ∷ filter (λ (x : JudgedLine). is x.verdict) js) (filter (λ (x : JudgedLine). is x.verdict) js))) e
    ∙ (let q : suc (count_of is js) ≡ 1 + count_of is js = omega arith in q)
one_counted is j js false e =
    ap (λ (t : Bool). length (cond t (j ∷ filter (λ (x : JudgedLine). is x.verdict) js) (filter (λ (x : JudgedLine). is x.verdict) js))) e
    ∙ (let q : count_of is js ≡ 0 + count_of is js = omega arith in q)

one_bad : (j : JudgedLine) (js : List JudgedLine) (b : Bool) → is_accepted j.verdict ≡ b → bad_of (j ∷ js) ≡ cond (not b) (j ∷ bad_of js) (bad_of js)
one_bad j js b e = ap (λ (t : Bool). cond (not t) (j ∷ bad_of js) (bad_of js)) e

-- lines are accepted or not, and the others refused or blank
pub record Kinds (js : List JudgedLine) : Type 0 where
  pub all : count_of is_accepted js + length (bad_of js) ≡ length js
  pub others : count_of is_refused js + count_of is_blank_line js ≡ length (bad_of js)
  pub blanks : count_of is_blank_line (bad_of js) ≡ count_of is_blank_line js

one_kind : (j : JudgedLine) (js : List JudgedLine) → Kinds js → Kinds (j ∷ js)
one_kind j js k = pick j.verdict refl
  where
    accepted : is_accepted j.verdict ≡ true → is_refused j.verdict ≡ false → is_blank_line j.verdict ≡ false → Kinds (j ∷ js)
    accepted a r b =
        let all = k.all in
        let others = k.others in
        let blanks = k.blanks in
        let out : bad_of (j ∷ js) ≡ bad_of js = one_bad j js true a in
        let x = one_counted is_accepted j js true a in
        let y = one_counted is_refused j js false r in
        let z = one_counted is_blank_line j js false b in
        let long : length (bad_of (j ∷ js)) ≡ length (bad_of js) = ap length out in
        let among : count_of is_blank_line (bad_of (j ∷ js)) ≡ count_of is_blank_line (bad_of js) = ap (count_of is_blank_line) out in
        record { all = omega (arith, all, x, long); others = omega (arith, others, y, z, long); blanks = omega (arith, blanks, z, among) }

    refused : is_accepted j.verdict ≡ false → is_refused j.verdict ≡ true → is_blank_line j.verdict ≡ false → Kinds (j ∷ js)
    refused a r b =
        let all = k.all in
        let others = k.others in
        let blanks = k.blanks in
        let in_front : bad_of (j ∷ js) ≡ j ∷ bad_of js = one_bad j js false a in
        let x = one_counted is_accepted j js false a in
        let y = one_counted is_refused j js true r in
        let z = one_counted is_blank_line j js false b in
        let long : length (bad_of (j ∷ js)) ≡ suc (length (bad_of js)) = ap length in_front in
        let among : count_of is_blank_line (bad_of (j ∷ js)) ≡ 0 + count_of is_blank_line (bad_of js) = ap (count_of is_blank_line) in_front ∙ one_counted is_blank_line j (bad_of js) false b in
        record { all = omega (arith, all, x, long); others = omega (arith, others, y, z, long); blanks = omega (arith, blanks, z, among) }

    blank : is_accepted j.verdict ≡ false → is_refused j.verdict ≡ false → is_blank_line j.verdict ≡ true → Kinds (j ∷ js)
    blank a r b =
        let all = k.all in
        let others = k.others in
        let blanks = k.blanks in
        let in_front : bad_of (j ∷ js) ≡ j ∷ bad_of js = one_bad j js false a in
        let x = one_counted is_accepted j js false a in
        let y = one_counted is_refused j js false r in
        let z = one_counted is_blank_line j js true b in
        let long : length (bad_of (j ∷ js)) ≡ suc (length (bad_of js)) = ap length in_front in
        let among : count_of is_blank_line (bad_of (j ∷ js)) ≡ 1 + count_of is_blank_line (bad_of js) = ap (count_of is_blank_line) in_front ∙ one_counted is_blank_line j (bad_of js) true b in
        record { all = omega (arith, all, x, long); others = omega (arith, others, y, z, long); blanks = omega (arith, blanks, z, among) }

    pick : (v : LineVerdict) → j.verdict ≡ v → Kinds (j ∷ js)
    pick Accepted e = accepted (ap is_accepted e) (ap is_refused e) (ap is_blank_line e)
    pick (Refused refusal) e = refused (ap is_accepted e) (ap is_refused e) (ap is_blank_line e)
    pick MayBeCut e = refused (ap is_accepted e) (ap is_refused e) (ap is_blank_line e)
    pick Blank e = blank (ap is_accepted e) (ap is_refused e) (ap is_blank_line e)

pub kinds : (js : List JudgedLine) → Kinds js
kinds [] = record { all = omega arith; others = omega arith; blanks = refl }
kinds (j ∷ js) = one_kind j js (kinds js)

-- as many are blank further on
blanks_moved : (lines at : ℕ) (js : List JudgedLine) → count_of is_blank_line (map (moved_line lines at) js) ≡ count_of is_blank_line js
blanks_moved lines at [] = refl
blanks_moved lines at (j ∷ js) =
    one_counted is_blank_line (moved_line lines at j) (map (moved_line lines at) js) (is_blank_line j.verdict) (same j.verdict)
    ∙ ap (λ (n : ℕ). one_if (is_blank_line j.verdict) + n) (blanks_moved lines at js)
    ∙ sym (one_counted is_blank_line j js (is_blank_line j.verdict) refl)
  where
    same : (v : LineVerdict) → is_blank_line (moved_verdict at v) ≡ is_blank_line v
    same Accepted = refl
    same (Refused refusal) = refl
    same MayBeCut = refl
    same Blank = refl

-- counts with so many lines more of each kind
abbrev pub with_counts : LineCounts → ℕ → ℕ → ℕ → LineCounts
with_counts counts accepted refused blank = record { accepted = counts.accepted + accepted; refused = counts.refused + refused; blank = counts.blank + blank }

counts_both : (xs js : List JudgedLine) → counts_of (xs ++ js) ≡ with_counts (counts_of xs) (count_of is_accepted js) (count_of is_refused js) (count_of is_blank_line js)
counts_both xs js =
    ap (λ (n : ℕ). record { accepted = n; refused = count_of is_refused (xs ++ js); blank = count_of is_blank_line (xs ++ js) }) (count-append is_accepted xs js)
    ∙ ap (λ (n : ℕ). record { accepted = count_of is_accepted xs + count_of is_accepted js; refused = n; blank = count_of is_blank_line (xs ++ js) }) (count-append is_refused xs js)
    ∙ ap (λ (n : ℕ). record { accepted = count_of is_accepted xs + count_of is_accepted js; refused = count_of is_refused xs + count_of is_refused js; blank = n }) (count-append is_blank_line xs js)

pub takes_whole : (settings : Settings) (bytes more : List ℕ) (given answers : List JudgedLine) (whole : WholeLinesValue) (lines at : ℕ) (old new : TallyValue) → HasTaken settings bytes given old
    → AreWhole settings.depth more answers whole
    → new.counts ≡ with_counts old.counts (whole.count - length whole.bad) (length whole.bad - count_of is_blank_line whole.bad) (count_of is_blank_line whole.bad)
    → new.waiting ≡ old.waiting ++ map (moved_line lines at) whole.bad
    → ((told : List JudgedLine) → HasTold settings bytes told old.lines → HasTold settings (bytes ++ more) (told ++ map (moved_line lines at) answers) new.lines)
    → HasTaken settings (bytes ++ more) given new
takes_whole settings bytes more given answers whole lines at old new h k counts waiting reads =
    let moved : List JudgedLine = map (moved_line lines at) answers in
    let same : bad_of moved ≡ map (moved_line lines at) whole.bad = bad_moved lines at answers ∙ ap (map (moved_line lines at)) (sym k.bad_are) in
    let less : length (bad_of moved) ≡ length whole.bad = ap length same ∙ length-map whole.bad (moved_line lines at) in
    let count = k.count_is in
    let long : length moved ≡ length answers = length-map answers (moved_line lines at) in
    let all = (kinds moved).all in
    let others = (kinds moved).others in
    let x : whole.count - length whole.bad ≡ count_of is_accepted moved = omega (arith, all, less, long, count) in
    let z : count_of is_blank_line whole.bad ≡ count_of is_blank_line moved = ap (count_of is_blank_line) k.bad_are ∙ (kinds answers).blanks ∙ sym (blanks_moved lines at answers) in
    let y : length whole.bad - count_of is_blank_line whole.bad ≡ count_of is_refused moved = omega (arith, others, less, z) in
    record {
      answers = h.answers ++ moved;
      told = reads h.answers h.told;
      counts_are =
          counts
          ∙ ap (λ (c : LineCounts). with_counts c (whole.count - length whole.bad) (length whole.bad - count_of is_blank_line whole.bad) (count_of is_blank_line whole.bad)) h.counts_are
          ∙ ap (λ (n : ℕ). with_counts (counts_of h.answers) n (length whole.bad - count_of is_blank_line whole.bad) (count_of is_blank_line whole.bad)) x
          ∙ ap (λ (n : ℕ). with_counts (counts_of h.answers) (count_of is_accepted moved) n (count_of is_blank_line whole.bad)) y
          ∙ ap (λ (n : ℕ). with_counts (counts_of h.answers) (count_of is_accepted moved) (count_of is_refused moved) n) z
          ∙ sym (counts_both h.answers moved);
      bad_are =
          ap (λ (js : List JudgedLine). given ++ js) waiting
          ∙ sym (append_assoc given old.waiting (map (moved_line lines at) whole.bad))
          ∙ ap (λ (js : List JudgedLine). js ++ map (moved_line lines at) whole.bad) h.bad_are
          ∙ ap (λ (js : List JudgedLine). bad_of h.answers ++ js) (sym same)
          ∙ sym (filter-append (λ (x : JudgedLine). not (is_accepted x.verdict)) h.answers moved);
    }

-- one of two steps takes a byte where there is one
pub goes_some : (n m all : ℕ) → (0 < all - n → 0 < m) → 0 < all → 0 < n + m
goes_some zero m all h some = let e = h (omega (arith, some)) in omega (arith, e)
goes_some (suc n) m all h some = omega arith
