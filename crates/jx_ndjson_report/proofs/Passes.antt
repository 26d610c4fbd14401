-- A passer takes bytes, and passes the accepted lines.
use Rattle.std.proofs.Common.{◌≡◌, ℕ, zero, suc, ◌+◌, ◌-◌, ◌<◌, List, [], ◌∷◌, ◌++◌, length, take, drop, arith, cond, refl, sym, ap, ◌∙◌, append_assoc, append-nil}
use Rattle.std.specs.List.{AllZip}
use Rattle.std.specs.Prelude.{None, Option, Some, slice_range, IfSome}
use Rattle.std.proofs.Math.Seq.{drop-append_seam, take-append_seam}
use Rattle.std.proofs.lemmas.Grind.{flat_map-append}
use Rattle.std.proofs.lemmas.List.{length-append, take_all}
use Rattle.jx_summary.specs.declared.span.Span.{Span}
use Rattle.jx_run.specs.declared.texts.settings.Settings.{Settings}
use Rattle.jx_run.specs.Tree.{span}
use Rattle.jx_ndjson.specs.declared.judged_line.JudgedLine.{JudgedLine}
use Rattle.jx_ndjson.specs.Answers.{AreAnswers, IsAnswer}
use Rattle.jx_ndjson.specs.Lines.{ended_lines}
use Rattle.jx_ndjson.specs.Reading.{HasTold, LineReaderValue, listed}
use Rattle.jx_ends.specs.declared.exit.Exit.{Exit}
use Rattle.jx_ndjson_report.specs.declared.task.LinesTask.{LinesTask}
use Rattle.jx_ndjson_report.specs.Output.{LinesOutput, is_good}
use Rattle.jx_ndjson_report.specs.Passed.{IsPassDue, PassOutput, passed_line, passed_lines}
use Rattle.jx_ndjson_report.specs.inside.LinePasser.{HasPassed, LinePasserValue, kept_of, passed_bytes}
use Rattle.jx_ndjson_report.specs.inside.LineTeller.{HasTakenAs, HasTakenTexts}
use Rattle.jx_ndjson_report.proofs.Takes.{gives_as, taken_none_as}

-- ---- the bytes of one line

-- what stands between two others
slice_there : (before mid more : List ℕ) (a b : ℕ) → length before ≡ a → b ≡ a + length mid → slice_range (before ++ (mid ++ more)) a b ≡ mid
slice_there before mid more a b from to =
    let long : b - a ≡ length mid = omega (arith, to) in
    ap (λ (n : ℕ). take n (drop a (before ++ (mid ++ more)))) long
    ∙ ap (λ (n : ℕ). take (length mid) (drop n (before ++ (mid ++ more)))) (sym from)
    ∙ ap (take (length mid)) (drop-append_seam before (mid ++ more))
    ∙ take-append_seam mid more

-- what stands in the end, and no byte behind it
last_there : (bytes before kept : List ℕ) (a b : ℕ) → bytes ≡ before ++ kept → length before ≡ a → b ≡ a + length kept → slice_range bytes a (suc b) ≡ kept ++ []
last_there bytes before kept a b is from to =
    let long : suc b - a ≡ suc (length kept) = omega (arith, to) in
    ap (λ (n : ℕ). take n (drop a bytes)) long
    ∙ ap (λ (n : ℕ). take (suc (length kept)) (drop n bytes)) (sym from)
    ∙ ap (λ (xs : List ℕ). take (suc (length kept)) (drop (length before) xs)) is
    ∙ ap (take (suc (length kept))) (drop-append_seam before kept)
    ∙ take_all (suc (length kept)) kept (omega arith)
    ∙ sym (append-nil kept)

-- a line that ended passes with its bytes, whatever follows
pub line_there : (before mid more : List ℕ) (j : JudgedLine) → length before ≡ j.span.start → suc j.span.end ≡ j.span.start + length mid → passed_line (before ++ (mid ++ more)) j ≡ cond (is_good j.verdict) mid []
line_there before mid more j from to = ap (λ (xs : List ℕ). cond (is_good j.verdict) xs []) (slice_there before mid more j.span.start (suc j.span.end) from to)

one_line : (input : List ℕ) (j : JudgedLine) → passed_lines input (j ∷ []) ≡ passed_line input j
one_line input j = append-nil (passed_line input j)

one_more : (input : List ℕ) (answers : List JudgedLine) (j : JudgedLine) → passed_lines input (answers ++ j ∷ []) ≡ passed_lines input answers ++ passed_line input j
one_more input answers j = flat_map-append (passed_line input) answers (j ∷ []) ∙ ap (λ (xs : List ℕ). passed_lines input answers ++ xs) (one_line input j)

-- with what passes of a line, if one ended
passes_on : (before kept chunk more given ready : List ℕ) (line : Option JudgedLine) (answers : List JudgedLine)
    → given ++ ready ≡ passed_lines (before ++ ((kept ++ chunk) ++ more)) answers
    → IfSome line (λ j. (length before ≡ j.span.start) × (suc j.span.end ≡ j.span.start + length (kept ++ chunk)))
    → given ++ (ready ++ passed_bytes line (kept ++ chunk)) ≡ passed_lines (before ++ ((kept ++ chunk) ++ more)) (answers ++ listed line)
passes_on before kept chunk more given ready None answers h there =
    ap (λ (xs : List ℕ). given ++ xs) (append-nil ready) ∙ h ∙ ap (passed_lines (before ++ ((kept ++ chunk) ++ more))) (sym (append-nil answers))
passes_on before kept chunk more given ready (Some j) answers h there =
    let input : List ℕ = before ++ ((kept ++ chunk) ++ more) in
    sym (append_assoc given ready (cond (is_good j.verdict) (kept ++ chunk) []))
    ∙ ap (λ (xs : List ℕ). xs ++ cond (is_good j.verdict) (kept ++ chunk) []) h
    ∙ ap (λ (xs : List ℕ). passed_lines input answers ++ xs) (sym (line_there before (kept ++ chunk) more j there.0 there.1))
    ∙ sym (one_more input answers j)

-- ---- a passer takes bytes

-- before the first
pub passed_none : (task : LinesTask) (p : LinePasserValue) → HasTold task.settings [] [] p.teller.lines → p.teller.lines.reader.start + p.teller.lines.reader.count ≡ 0
    → p.teller.good ≡ 0 → p.teller.bad ≡ 0 → p.teller.ready ≡ [] → p.kept ≡ [] → p.ready ≡ [] → HasPassed task [] [] [] p
passed_none task p told start good bad none kept ready =
    let t : HasTakenAs task [] [] [] p.teller = taken_none_as task p.teller told good bad none in
    record {
      taken = t.0;
      before = [];
      kept_is = sym kept;
      start_is = omega (arith, start);
      count_is = let e : length p.kept ≡ 0 = ap length kept in omega (arith, e, start);
      passes = λ more. ready ∙ ap (passed_lines more) (sym t.1);
    }

-- a step
pub passes_step : (task : LinesTask) (bytes chunk given said : List ℕ) (line : Option JudgedLine) (old new : LinePasserValue) (h : HasPassed task bytes given said old)
    → HasTakenAs task (bytes ++ chunk) said (h.taken.answers ++ listed line) new.teller
    → new.ready ≡ old.ready ++ passed_bytes line (old.kept ++ chunk)
    → new.kept ≡ kept_of new.teller.lines.reader.count (old.kept ++ chunk)
    → new.teller.lines.reader.start + new.teller.lines.reader.count ≡ old.teller.lines.reader.start + old.teller.lines.reader.count + length chunk
    → (0 < new.teller.lines.reader.count → new.teller.lines.reader.start ≡ old.teller.lines.reader.start)
    → IfSome line (λ j. (j.span.start ≡ old.teller.lines.reader.start) × (j.span.end + 1 ≡ old.teller.lines.reader.start + old.teller.lines.reader.count + length chunk))
    → HasPassed task (bytes ++ chunk) given said new
passes_step task bytes chunk given said line old new h takes ready kept count goes_on spans = pick new.teller.lines.reader.count refl
  where
    all : bytes ++ chunk ≡ h.before ++ (old.kept ++ chunk)
    all = ap (λ (xs : List ℕ). xs ++ chunk) h.kept_is ∙ append_assoc h.before old.kept chunk

    longer : length (old.kept ++ chunk) ≡ old.teller.lines.reader.count + length chunk
    longer = length-append old.kept chunk ∙ ap (λ (n : ℕ). n + length chunk) h.count_is

    whole : (more : List ℕ) → (bytes ++ chunk) ++ more ≡ h.before ++ ((old.kept ++ chunk) ++ more)
    whole more = ap (λ (xs : List ℕ). xs ++ more) all ∙ append_assoc h.before (old.kept ++ chunk) more

    there : (l : Option JudgedLine) → IfSome l (λ j. (j.span.start ≡ old.teller.lines.reader.start) × (j.span.end + 1 ≡ old.teller.lines.reader.start + old.teller.lines.reader.count + length chunk))
        → IfSome l (λ j. (length h.before ≡ j.span.start) × (suc j.span.end ≡ j.span.start + length (old.kept ++ chunk)))
    there None k = tt
    there (Some j) k =
        let s = h.start_is in
        let a = k.0 in
        let b = k.1 in
        let l = longer in
        (s ∙ sym a, omega (arith, a, b, l))

    passes : (more : List ℕ) → given ++ new.ready ≡ passed_lines ((bytes ++ chunk) ++ more) takes.0.answers
    passes more =
        ap (λ (xs : List ℕ). given ++ xs) ready
        ∙ passes_on h.before old.kept chunk more given old.ready line h.taken.answers
        (h.passes (chunk ++ more) ∙ ap (λ (xs : List ℕ). passed_lines xs h.taken.answers) (sym (append_assoc bytes chunk more) ∙ whole more))
        (there line spans)
        ∙ ap (λ (xs : List ℕ). passed_lines xs (h.taken.answers ++ listed line)) (sym (whole more))
        ∙ ap (passed_lines ((bytes ++ chunk) ++ more)) (sym takes.1)

    total : length (bytes ++ chunk) ≡ old.teller.lines.reader.start + old.teller.lines.reader.count + length chunk
    total =
        let a : length (bytes ++ chunk) ≡ length h.before + length (old.kept ++ chunk) = ap length all ∙ length-append h.before (old.kept ++ chunk) in
        let l = longer in
        let s = h.start_is in
        omega (arith, a, l, s)

    pick : (n : ℕ) → new.teller.lines.reader.count ≡ n → HasPassed task (bytes ++ chunk) given said new
    pick zero e =
        let none : new.kept ≡ [] = kept ∙ ap (λ (n : ℕ). kept_of n (old.kept ++ chunk)) e in
        let t = total in
        let c = count in
        let z = e in
        record {
          taken = takes.0;
          before = bytes ++ chunk;
          kept_is = sym (append-nil (bytes ++ chunk)) ∙ ap (λ (xs : List ℕ). (bytes ++ chunk) ++ xs) (sym none);
          start_is = omega (arith, t, c, z);
          count_is = ap length none ∙ sym e;
          passes = passes;
        }
    pick (suc n) e =
        let same : new.kept ≡ old.kept ++ chunk = kept ∙ ap (λ (n : ℕ). kept_of n (old.kept ++ chunk)) e in
        let some : 0 < new.teller.lines.reader.count = omega (arith, e) in
        let stays = goes_on some in
        let long : length new.kept ≡ old.teller.lines.reader.count + length chunk = ap length same ∙ longer in
        let c = count in
        record {
          taken = takes.0;
          before = h.before;
          kept_is = all ∙ ap (λ (xs : List ℕ). h.before ++ xs) (sym same);
          start_is = h.start_is ∙ sym stays;
          count_is = omega (arith, long, c, stays);
          passes = passes;
        }

-- lines in front of a slice that are texts
pub passes_texts : (task : LinesTask) (bytes chunk given said : List ℕ) (old new : LinePasserValue) (h : HasPassed task bytes given said old)
    → HasTakenTexts task bytes said chunk h.taken.answers old.teller.lines.reader.start new.teller
    → new.ready ≡ old.ready ++ chunk
    → new.kept ≡ old.kept
    → new.teller.lines.reader.start ≡ old.teller.lines.reader.start + length chunk
    → new.teller.lines.reader.count ≡ old.teller.lines.reader.count
    → (0 < length chunk → old.teller.lines.reader.count ≡ 0)
    → HasPassed task (bytes ++ chunk) given said new
passes_texts task bytes chunk given said old new h takes ready kept start count between = pick chunk refl
  where
    nil : (xs : List ℕ) → length xs ≡ 0 → xs ≡ []
    nil [] e = refl
    nil (x ∷ xs) e = absurd (omega (arith, e))

    -- of the line that goes on no byte was read, where there are such lines
    none : 0 < length chunk → old.kept ≡ []
    none some = let a = h.count_is in let b = between some in nil old.kept (omega (arith, a, b))

    -- so they stand behind what was read
    from : 0 < length chunk → length bytes ≡ old.teller.lines.reader.start
    from some = ap length (h.kept_is ∙ ap (λ (xs : List ℕ). h.before ++ xs) (none some) ∙ append-nil h.before) ∙ h.start_is

    more_passes : (xs : List ℕ) → chunk ≡ xs → (more : List ℕ) → passed_lines (bytes ++ (chunk ++ more)) takes.texts ≡ chunk
    more_passes [] e more =
        ap (λ (xs : List ℕ). passed_lines (bytes ++ (xs ++ more)) takes.texts) e
        ∙ ap (λ (xs : List ℕ). passed_lines (xs ++ more) takes.texts) h.kept_is
        ∙ ap (λ (xs : List ℕ). passed_lines xs takes.texts) (append_assoc h.before old.kept more)
        ∙ ap (λ (xs : List ℕ). passed_lines (h.before ++ (xs ++ (old.kept ++ more))) takes.texts) (sym e)
        ∙ takes.pass h.before (old.kept ++ more) h.start_is
    more_passes (x ∷ xs) e more = takes.pass bytes more (from (let a : length chunk ≡ suc (length xs) = ap length e in omega (arith, a)))

    passes : (more : List ℕ) → given ++ new.ready ≡ passed_lines ((bytes ++ chunk) ++ more) takes.taken.0.answers
    passes more =
        ap (λ (xs : List ℕ). given ++ xs) ready
        ∙ sym (append_assoc given old.ready chunk)
        ∙ ap (λ (xs : List ℕ). xs ++ chunk) (h.passes (chunk ++ more))
        ∙ ap (λ (xs : List ℕ). passed_lines (bytes ++ (chunk ++ more)) h.taken.answers ++ xs) (sym (more_passes chunk refl more))
        ∙ sym (flat_map-append (passed_line (bytes ++ (chunk ++ more))) h.taken.answers takes.texts)
        ∙ ap (λ (xs : List ℕ). passed_lines xs (h.taken.answers ++ takes.texts)) (sym (append_assoc bytes chunk more))
        ∙ ap (passed_lines ((bytes ++ chunk) ++ more)) (sym takes.taken.1)

    pick : (xs : List ℕ) → chunk ≡ xs → HasPassed task (bytes ++ chunk) given said new
    pick [] e =
        let n : length chunk ≡ 0 = ap length e in
        let s = start in
        let a = h.start_is in
        record {
          taken = takes.taken.0;
          before = h.before;
          kept_is = ap (λ (xs : List ℕ). bytes ++ xs) e ∙ append-nil bytes ∙ h.kept_is ∙ ap (λ (xs : List ℕ). h.before ++ xs) (sym kept);
          start_is = omega (arith, a, s, n);
          count_is = ap length kept ∙ h.count_is ∙ sym count;
          passes = passes;
        }
    pick (x ∷ xs) e =
        let some : 0 < length chunk = let a : length chunk ≡ suc (length xs) = ap length e in omega (arith, a) in
        let a : length (bytes ++ chunk) ≡ length bytes + length chunk = length-append bytes chunk in
        let b = from some in
        let s = start in
        record {
          taken = takes.taken.0;
          before = bytes ++ chunk;
          kept_is = sym (append-nil (bytes ++ chunk)) ∙ ap (λ (xs : List ℕ). (bytes ++ chunk) ++ xs) (sym (kept ∙ none some));
          start_is = omega (arith, a, b, s);
          count_is = ap length kept ∙ h.count_is ∙ sym count;
          passes = passes;
        }

-- what waits was written
pub passes_gives : (task : LinesTask) (bytes given said : List ℕ) (old new : LinePasserValue) (h : HasPassed task bytes given said old) → new.teller.lines ≡ old.teller.lines → new.teller.good ≡ old.teller.good
    → new.teller.bad ≡ old.teller.bad → new.teller.ready ≡ [] → new.kept ≡ old.kept → new.ready ≡ [] → HasPassed task bytes (given ++ old.ready) (said ++ old.teller.ready) new
passes_gives task bytes given said old new h lines good bad told kept ready =
    let t = gives_as task bytes said old.teller new.teller h.taken lines good bad told in
    record {
      taken = t.0;
      before = h.before;
      kept_is = h.kept_is ∙ ap (λ (xs : List ℕ). h.before ++ xs) (sym kept);
      start_is = h.start_is ∙ ap (λ (r : LineReaderValue). r.reader.start) (sym lines);
      count_is = ap length kept ∙ h.count_is ∙ ap (λ (r : LineReaderValue). r.reader.count) (sym lines);
      passes = λ more. ap (λ (xs : List ℕ). (given ++ old.ready) ++ xs) ready ∙ append-nil (given ++ old.ready) ∙ h.passes more ∙ ap (passed_lines (bytes ++ more)) (sym t.1);
    }

-- ---- what is due

pub pass_due : ((settings : Settings) (input : List ℕ) (told : List JudgedLine) (r : LineReaderValue) → HasTold settings input told r → AllZip (IsAnswer settings) (ended_lines settings.mark input) told)
    → (task : LinesTask) (bytes given said : List ℕ) (p : LinePasserValue) → HasPassed task bytes given said p → IsPassDue task bytes (given ++ p.ready) (said ++ p.teller.ready)
pass_due law task bytes given said p h =
    record {
      answers = h.taken.answers;
      are_answers = law task.settings bytes h.taken.answers p.teller.lines h.taken.told;
      passes = h.passes [] ∙ ap (λ (xs : List ℕ). passed_lines xs h.taken.answers) (append-nil bytes);
      reports = h.taken.written;
    }

-- ---- the end

pub spans_of : (line : Option JudgedLine) (a b : ℕ) → IfSome line (λ j. j.span ≡ span a b) → IfSome line (λ j. (j.span.start ≡ a) × (j.span.end ≡ b))
spans_of None a b h = tt
spans_of (Some j) a b h = (ap (λ (s : Span). s.start) h, ap (λ (s : Span). s.end) h)

pub pass_ends : ((settings : Settings) (input : List ℕ) (x y : List JudgedLine) → AreAnswers settings input x → AreAnswers settings input y → x ≡ y)
    → (task : LinesTask) (bytes given said report ready : List ℕ) (line : Option JudgedLine) (old : LinePasserValue) (exit : Exit) (h : HasPassed task bytes given said old)
    → ((settings : Settings) (input : List ℕ) (told : List JudgedLine) → HasTold settings input told old.teller.lines → AreAnswers settings input (told ++ listed line))
    → IfSome line (λ j. (j.span.start ≡ old.teller.lines.reader.start) × (j.span.end ≡ old.teller.lines.reader.start + old.teller.lines.reader.count))
    → ready ≡ old.ready ++ passed_bytes line (old.kept ++ [])
    → LinesOutput task bytes (said ++ report) exit
    → PassOutput task bytes (given ++ ready) (said ++ report) exit
pass_ends unique task bytes given said report ready line old exit h last spans is o =
    let answers : List JudgedLine = h.taken.answers ++ listed line in
    let are : AreAnswers task.settings bytes answers = last task.settings bytes h.taken.answers h.taken.told in
    let same : o.answers ≡ answers = unique task.settings bytes o.answers answers o.are_answers are in
    record {
      answers = o.answers;
      are_answers = o.are_answers;
      passes = ap (λ (xs : List ℕ). given ++ xs) is ∙ pick line spans ∙ ap (passed_lines bytes) (sym same);
      reports = o.written;
      ends = o.ends;
    }
  where
    so_far : given ++ old.ready ≡ passed_lines bytes h.taken.answers
    so_far = h.passes [] ∙ ap (λ (xs : List ℕ). passed_lines xs h.taken.answers) (append-nil bytes)

    -- the last line ends with the input
    to_end : (j : JudgedLine) → j.span.start ≡ old.teller.lines.reader.start → j.span.end ≡ old.teller.lines.reader.start + old.teller.lines.reader.count → passed_line bytes j ≡ cond (is_good j.verdict) (old.kept ++ []) []
    to_end j from to = ap (λ (xs : List ℕ). cond (is_good j.verdict) xs []) (last_there bytes h.before old.kept j.span.start j.span.end h.kept_is (h.start_is ∙ sym from) (let c = h.count_is in omega (arith, from, to, c)))

    pick : (l : Option JudgedLine) → IfSome l (λ j. (j.span.start ≡ old.teller.lines.reader.start) × (j.span.end ≡ old.teller.lines.reader.start + old.teller.lines.reader.count))
        → given ++ (old.ready ++ passed_bytes l (old.kept ++ [])) ≡ passed_lines bytes (h.taken.answers ++ listed l)
    pick None k = ap (λ (xs : List ℕ). given ++ xs) (append-nil old.ready) ∙ so_far ∙ ap (passed_lines bytes) (sym (append-nil h.taken.answers))
    pick (Some j) k =
        sym (append_assoc given old.ready (cond (is_good j.verdict) (old.kept ++ []) []))
        ∙ ap (λ (xs : List ℕ). xs ++ cond (is_good j.verdict) (old.kept ++ []) []) so_far
        ∙ ap (λ (xs : List ℕ). passed_lines bytes h.taken.answers ++ xs) (sym (to_end j k.0 k.1))
        ∙ sym (one_more bytes h.taken.answers j)
