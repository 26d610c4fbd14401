-- What is written and counted for one line more.
use Rattle.std.proofs.Common.{◌≡◌, ℕ, suc, ◌+◌, List, [], ◌∷◌, ◌++◌, length, Bool, true, false, cond, refl, sym, ap, ◌∙◌, append-nil, length-append, arith}
use Rattle.std.specs.Prelude.{flat_map, not}
use Rattle.std.proofs.lemmas.List.Elements.{filter-append}
use Rattle.std.proofs.lemmas.Grind.{flat_map-append}
use Rattle.jx_ndjson.specs.declared.judged_line.JudgedLine.{JudgedLine}
use Rattle.jx_ndjson.specs.declared.judged_line.LineVerdict.{LineVerdict}
use Rattle.jx_ndjson.specs.declared.judged_line.LineVerdict.TheVariants.{Accepted, Refused, MayBeCut, Blank}
use Rattle.jx_ndjson.specs.Tally.{is_accepted, bad_of as no_texts_of}
use Rattle.jx_words.specs.Verdicts.{shown_output}
use Rattle.jx_ndjson_report.specs.declared.task.BlankRule.{BlankRule}
use Rattle.jx_ndjson_report.specs.declared.task.LinesTask.{LinesTask}
use Rattle.jx_ndjson_report.specs.Output.{bad_lines, bad_of, exit_of, good_of, is_bad, is_good, told_line}
use Rattle.jx_ndjson_report.specs.inside.LineSteps.{bad_line, exit_by}

-- ---- lines

one_line : (f : JudgedLine → List ℕ) (j : JudgedLine) (b : Bool) → flat_map f (cond b (j ∷ []) []) ≡ cond b (f j) []
one_line f j true = append-nil (f j)
one_line f j false = refl

pub one_more_line : (task : LinesTask) (answers : List JudgedLine) (j : JudgedLine) → bad_lines task (answers ++ j ∷ []) ≡ bad_lines task answers ++ bad_line task j
one_more_line task answers j = pick task.is_quiet
  where
    pick : (q : Bool) → shown_output q (flat_map (told_line task.form task.front.items) (bad_of task.blanks (answers ++ j ∷ [])))
        ≡ shown_output q (flat_map (told_line task.form task.front.items) (bad_of task.blanks answers)) ++ shown_output q (cond (is_bad task.blanks j.verdict) (told_line task.form task.front.items j) [])
    pick true = refl
    pick false =
        ap (flat_map (told_line task.form task.front.items)) (filter-append (λ (x : JudgedLine). is_bad task.blanks x.verdict) answers (j ∷ []))
        ∙ flat_map-append (told_line task.form task.front.items) (bad_of task.blanks answers) (cond (is_bad task.blanks j.verdict) (j ∷ []) [])
        ∙ ap (λ (xs : List ℕ). flat_map (told_line task.form task.front.items) (bad_of task.blanks answers) ++ xs) (one_line (told_line task.form task.front.items) j (is_bad task.blanks j.verdict))

-- ---- counts

one_length : (j : JudgedLine) (b : Bool) → length (cond b (j ∷ []) []) ≡ cond b 1 0
one_length j true = refl
one_length j false = refl

pub one_more_good : (answers : List JudgedLine) (j : JudgedLine) → length (good_of (answers ++ j ∷ [])) ≡ length (good_of answers) + cond (is_good j.verdict) 1 0
one_more_good answers j =
    ap length (filter-append (λ (x : JudgedLine). is_good x.verdict) answers (j ∷ []))
    ∙ length-append (good_of answers) (cond (is_good j.verdict) (j ∷ []) [])
    ∙ ap (λ (n : ℕ). length (good_of answers) + n) (one_length j (is_good j.verdict))

pub one_more_bad : (task : LinesTask) (answers : List JudgedLine) (j : JudgedLine) → length (bad_of task.blanks (answers ++ j ∷ [])) ≡ length (bad_of task.blanks answers) + cond (is_bad task.blanks j.verdict) 1 0
one_more_bad task answers j =
    ap length (filter-append (λ (x : JudgedLine). is_bad task.blanks x.verdict) answers (j ∷ []))
    ∙ length-append (bad_of task.blanks answers) (cond (is_bad task.blanks j.verdict) (j ∷ []) [])
    ∙ ap (λ (n : ℕ). length (bad_of task.blanks answers) + n) (one_length j (is_bad task.blanks j.verdict))

pub same_exit : (bad : List JudgedLine) → exit_of bad ≡ exit_by (length bad)
same_exit [] = refl
same_exit (j ∷ bad) = refl

-- ---- many lines more

pub nothing_told : (task : LinesTask) → bad_lines task [] ≡ []
nothing_told task = pick task.is_quiet
  where
    pick : (q : Bool) → shown_output q [] ≡ []
    pick true = refl
    pick false = refl

pub more_lines : (task : LinesTask) (answers more : List JudgedLine) → bad_lines task (answers ++ more) ≡ bad_lines task answers ++ bad_lines task more
more_lines task answers more = pick task.is_quiet
  where
    front : List ℕ
    front = task.front.items

    pick : (q : Bool) → shown_output q (flat_map (told_line task.form front) (bad_of task.blanks (answers ++ more)))
        ≡ shown_output q (flat_map (told_line task.form front) (bad_of task.blanks answers)) ++ shown_output q (flat_map (told_line task.form front) (bad_of task.blanks more))
    pick true = refl
    pick false =
        ap (flat_map (told_line task.form front)) (filter-append (λ (x : JudgedLine). is_bad task.blanks x.verdict) answers more)
        ∙ flat_map-append (told_line task.form front) (bad_of task.blanks answers) (bad_of task.blanks more)

pub more_good : (answers more : List JudgedLine) → length (good_of (answers ++ more)) ≡ length (good_of answers) + length (good_of more)
more_good answers more = ap length (filter-append (λ (x : JudgedLine). is_good x.verdict) answers more) ∙ length-append (good_of answers) (good_of more)

pub more_bad : (task : LinesTask) (answers more : List JudgedLine) → length (bad_of task.blanks (answers ++ more)) ≡ length (bad_of task.blanks answers) + length (bad_of task.blanks more)
more_bad task answers more = ap length (filter-append (λ (x : JudgedLine). is_bad task.blanks x.verdict) answers more) ∙ length-append (bad_of task.blanks answers) (bad_of task.blanks more)

-- ---- among those that are no texts

-- an accepted line is good, and told by no rule
data Kind : BlankRule → JudgedLine → Type 0 where
  a_text : {rule : BlankRule} {j : JudgedLine} → is_accepted j.verdict ≡ true → is_good j.verdict ≡ true → is_bad rule j.verdict ≡ false → Kind rule j
  no_text : {rule : BlankRule} {j : JudgedLine} → is_accepted j.verdict ≡ false → is_good j.verdict ≡ false → Kind rule j

kind_by : (rule : BlankRule) (j : JudgedLine) (v : LineVerdict) → j.verdict ≡ v → Kind rule j
kind_by rule j Accepted e = a_text (ap is_accepted e) (ap is_good e) (ap (is_bad rule) e)
kind_by rule j (Refused r) e = no_text (ap is_accepted e) (ap is_good e)
kind_by rule j MayBeCut e = no_text (ap is_accepted e) (ap is_good e)
kind_by rule j Blank e = no_text (ap is_accepted e) (ap is_good e)

pub told_among : (rule : BlankRule) (js : List JudgedLine) → bad_of rule (no_texts_of js) ≡ bad_of rule js
told_among rule [] = refl
told_among rule (j ∷ js) = pick (kind_by rule j j.verdict refl) (told_among rule js)
  where
    pick : Kind rule j → bad_of rule (no_texts_of js) ≡ bad_of rule js → bad_of rule (no_texts_of (j ∷ js)) ≡ bad_of rule (j ∷ js)
    pick (a_text a g b) h =
        ap (λ (t : Bool). bad_of rule (cond (not t) (j ∷ no_texts_of js) (no_texts_of js))) a
        ∙ h
        ∙ ap (λ (t : Bool). cond t (j ∷ bad_of rule js) (bad_of rule js)) (sym b)
    pick (no_text a g) h =
        ap (λ (t : Bool). bad_of rule (cond (not t) (j ∷ no_texts_of js) (no_texts_of js))) a
        ∙ ap (λ (xs : List JudgedLine). cond (is_bad rule j.verdict) (j ∷ xs) xs) h

-- all others are good
pub others_good : (rule : BlankRule) (js : List JudgedLine) → length (good_of js) + length (no_texts_of js) ≡ length js
others_good rule [] = omega arith
others_good rule (j ∷ js) = pick (kind_by rule j j.verdict refl) (others_good rule js)
  where
    pick : Kind rule j → length (good_of js) + length (no_texts_of js) ≡ length js → length (good_of (j ∷ js)) + length (no_texts_of (j ∷ js)) ≡ length (j ∷ js)
    pick (a_text a g b) h =
        let x : length (good_of (j ∷ js)) ≡ suc (length (good_of js)) = ap (λ (t : Bool). length (cond t (j ∷ good_of js) (good_of js))) g in
        let y : length (no_texts_of (j ∷ js)) ≡ length (no_texts_of js) = ap (λ (t : Bool). length (cond (not t) (j ∷ no_texts_of js) (no_texts_of js))) a in
        omega (arith, h, x, y)
    pick (no_text a g) h =
        let x : length (good_of (j ∷ js)) ≡ length (good_of js) = ap (λ (t : Bool). length (cond t (j ∷ good_of js) (good_of js))) g in
        let y : length (no_texts_of (j ∷ js)) ≡ suc (length (no_texts_of js)) = ap (λ (t : Bool). length (cond (not t) (j ∷ no_texts_of js) (no_texts_of js))) a in
        omega (arith, h, x, y)

pub lines_among : (task : LinesTask) (js : List JudgedLine) → bad_lines task (no_texts_of js) ≡ bad_lines task js
lines_among task js = ap (λ (xs : List JudgedLine). shown_output task.is_quiet (flat_map (told_line task.form task.front.items) xs)) (told_among task.blanks js)
