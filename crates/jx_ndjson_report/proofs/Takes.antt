-- A teller takes bytes, and tells the end.
use Rattle.std.proofs.Common.{◌≡◌, ℕ, zero, suc, ◌+◌, ◌-◌, ◌≤◌, List, [], ◌∷◌, ◌++◌, length, map, take, drop, arith, Bool, true, false, cond, refl, sym, ap, subst, ◌∙◌, append_assoc, append-nil}
use Rattle.std.specs.List.{AllZip}
use Rattle.std.specs.Prelude.{Ok, Err, Result, IfOk, IfSome, None, OnOk, Option, Some, slice_range}
use Rattle.std.proofs.Math.ListN.{length-map}
use lib.Seq.{take-add}
use Rattle.std.proofs.lemmas.List.{take-take, take_all}
use Rattle.jx_summary.specs.declared.span.Span.{Span}
use Rattle.jx_run.specs.declared.texts.settings.Settings.{Settings}
use Rattle.jx_run.specs.Tree.{span}
use Rattle.jx_run.proofs.ReaderSteps.{slice_all}
use Rattle.jx_ndjson.specs.declared.judged_line.JudgedLine.{JudgedLine}
use Rattle.jx_ndjson.specs.Answers.{AreAnswers, IsAnswer}
use Rattle.jx_ndjson.specs.Lines.{ended_lines}
use Rattle.jx_ndjson.specs.Reading.{HasTold, LineReaderValue}
use Rattle.jx_ndjson.specs.Tally.{bad_of as no_texts_of}
use Rattle.jx_ndjson.specs.LinesRun.{HoldLines}
use Rattle.jx_ndjson.specs.WholeLines.{AreWhole, WholeLinesValue, moved_line}
use Rattle.jx_ndjson.proofs.Moved.{bad_moved}
use Rattle.jx_ends.specs.declared.exit.Exit.{Exit}
use Rattle.jx_words.specs.Verdicts.{shown_output}
use Rattle.jx_ndjson_report.specs.declared.task.LinesTask.{LinesTask}
use Rattle.jx_ndjson_report.specs.Output.{IsDue, LinesOutput, bad_lines, bad_of, good_of, is_bad, is_good, total_words}
use Rattle.jx_ndjson_report.specs.inside.LineSteps.{bad_line, exit_by}
use Rattle.jx_ndjson_report.specs.inside.LineTeller.{HasTaken, HasTakenAs, HasTakenTexts, LineTellerValue}
use Rattle.jx_ndjson_report.proofs.Told.{lines_among, more_bad, more_good, more_lines, one_more_bad, one_more_good, one_more_line, others_good, same_exit, told_among}

-- ---- results

pub ok_with : {A E : Type 0} {P S : A → Type 0} {T : Type 0} (r : Result A E) → ((a : A) → P a → T → S a) → IfOk r P → OnOk r T → IfOk r S
ok_with (Ok a) f p t = f a p t
ok_with (Err e) f p t = tt

-- the part up to an offset, and what stands from there up to another
up_to : (bytes text : List ℕ) (done end : ℕ) → done ≤ end → (bytes ++ take done text) ++ slice_range text done end ≡ bytes ++ take end text
up_to bytes text done end h =
    let sum : done + (end - done) ≡ end = omega (arith, h) in
    append_assoc bytes (take done text) (take (end - done) (drop done text))
    ∙ ap (λ (xs : List ℕ). bytes ++ xs) (sym (take-add done (end - done) text) ∙ ap (λ (n : ℕ). take n text) sum)

-- what stands before, between and behind two offsets
pub three_parts : (bytes text : List ℕ) (i j : ℕ) → i ≤ j → j ≤ length text
    → ((bytes ++ slice_range text 0 i) ++ slice_range text i j) ++ slice_range text j (length text) ≡ bytes ++ text
three_parts bytes text i j h k =
    ap (λ (xs : List ℕ). (xs ++ slice_range text i j) ++ slice_range text j (length text))
    (ap (λ (xs : List ℕ). xs ++ slice_range text 0 i) (sym (append-nil bytes)) ∙ up_to bytes text 0 i (omega arith))
    ∙ ap (λ (xs : List ℕ). xs ++ slice_range text j (length text)) (up_to bytes text i j h)
    ∙ up_to bytes text j (length text) k
    ∙ ap (λ (xs : List ℕ). bytes ++ xs) (take_all (length text) text (omega arith))

-- what covers a text from its first byte on is over the whole text
pub covers_all : (held text : List ℕ) (s : Span) (front : ℕ) → held ≡ text → s ≡ span front (length text) → front ≡ 0 → slice_range held s.start s.end ≡ text
covers_all held text s front same covers from =
    ap (λ (t : List ℕ). slice_range t s.start s.end) same
    ∙ ap (λ (p : Span). slice_range text p.start p.end) covers
    ∙ ap (λ (n : ℕ). slice_range text n (length text)) from
    ∙ slice_all text

-- where there are lines, they are whole
pub some_held : (limit : ℕ) (bytes : List ℕ) (lines : Option WholeLinesValue) → HoldLines limit bytes lines → IfSome lines (λ (w : WholeLinesValue). (answers : List JudgedLine) × AreWhole limit bytes answers w)
some_held limit bytes None h = tt
some_held limit bytes (Some w) h = h

pub held_len : (limit : ℕ) (bytes : List ℕ) (lines : Option WholeLinesValue) → HoldLines limit bytes lines → IfSome lines (λ (w : WholeLinesValue). w.len ≡ length bytes)
held_len limit bytes None h = tt
held_len limit bytes (Some w) h = h.1.len_is

-- ---- bytes one after another

take_on : (xs : List ℕ) (i n : ℕ) → take (i + n) xs ≡ take i xs ++ take n (drop i xs)
take_on xs zero n = ap (λ (k : ℕ). take k xs) (let e : 0 + n ≡ n = omega arith in e)
take_on [] (suc i) n = take_nil (suc i + n) ∙ sym (take_nil n)
  where
    take_nil : (k : ℕ) → take {A = ℕ} k [] ≡ []
    take_nil zero = refl
    take_nil (suc k) = refl
take_on (x ∷ xs) (suc i) n = ap (λ (k : ℕ). take k (x ∷ xs)) (let e : suc i + n ≡ suc (i + n) = omega arith in e) ∙ ap (λ (ys : List ℕ). x ∷ ys) (take_on xs i n)

-- with a step from an offset on
pub one_step : (bytes slice : List ℕ) (at n : ℕ) → at ≤ length slice → n ≤ length slice - at → (bytes ++ take at slice) ++ take n (slice_range slice at (length slice)) ≡ bytes ++ take (at + n) slice
one_step bytes slice at n within low =
    append_assoc bytes (take at slice) (take n (slice_range slice at (length slice)))
    ∙ ap (λ (xs : List ℕ). bytes ++ (take at slice ++ xs)) (take-take n (length slice - at) (drop at slice) low)
    ∙ ap (λ (xs : List ℕ). bytes ++ xs) (sym (take_on slice at n))

-- ---- bytes that end no line
pub takes_none : (task : LinesTask) (bytes more given : List ℕ) (old new : LineTellerValue) → HasTaken task bytes given old → new.good ≡ old.good → new.bad ≡ old.bad → new.ready ≡ old.ready
    → ((settings : Settings) (input : List ℕ) (told : List JudgedLine) → HasTold settings input told old.lines → HasTold settings (input ++ more) (told ++ []) new.lines)
    → HasTaken task (bytes ++ more) given new
takes_none task bytes more given old new h good bad ready reads =
    record {
      answers = h.answers;
      told = subst (λ (js : List JudgedLine). HasTold task.settings (bytes ++ more) js new.lines) (append-nil h.answers) (reads task.settings bytes h.answers h.told);
      good_are = good ∙ h.good_are;
      bad_are = bad ∙ h.bad_are;
      written = ap (λ (xs : List ℕ). given ++ xs) ready ∙ h.written;
    }

-- bytes that end one
pub takes_line : (task : LinesTask) (bytes more given : List ℕ) (j : JudgedLine) (old new : LineTellerValue) → HasTaken task bytes given old → new.good ≡ old.good + cond (is_good j.verdict) 1 0
    → new.bad ≡ old.bad + cond (is_bad task.blanks j.verdict) 1 0 → new.ready ≡ old.ready ++ bad_line task j
    → ((settings : Settings) (input : List ℕ) (told : List JudgedLine) → HasTold settings input told old.lines → HasTold settings (input ++ more) (told ++ j ∷ []) new.lines)
    → HasTaken task (bytes ++ more) given new
takes_line task bytes more given j old new h good bad ready reads =
    record {
      answers = h.answers ++ j ∷ [];
      told = reads task.settings bytes h.answers h.told;
      good_are = good ∙ ap (λ (n : ℕ). n + cond (is_good j.verdict) 1 0) h.good_are ∙ sym (one_more_good h.answers j);
      bad_are = bad ∙ ap (λ (n : ℕ). n + cond (is_bad task.blanks j.verdict) 1 0) h.bad_are ∙ sym (one_more_bad task h.answers j);
      written =
          ap (λ (xs : List ℕ). given ++ xs) ready
          ∙ sym (append_assoc given old.ready (bad_line task j))
          ∙ ap (λ (xs : List ℕ). xs ++ bad_line task j) h.written
          ∙ sym (one_more_line task h.answers j);
    }

-- the answers then
pub takes_none_as : (task : LinesTask) (bytes more given : List ℕ) (old new : LineTellerValue) (h : HasTaken task bytes given old) → new.good ≡ old.good → new.bad ≡ old.bad → new.ready ≡ old.ready
    → ((settings : Settings) (input : List ℕ) (told : List JudgedLine) → HasTold settings input told old.lines → HasTold settings (input ++ more) (told ++ []) new.lines)
    → HasTakenAs task (bytes ++ more) given (h.answers ++ []) new
unfolding takes_none
takes_none_as task bytes more given old new h good bad ready reads = (takes_none task bytes more given old new h good bad ready reads, sym (append-nil h.answers))

pub takes_line_as : (task : LinesTask) (bytes more given : List ℕ) (j : JudgedLine) (old new : LineTellerValue) (h : HasTaken task bytes given old) → new.good ≡ old.good + cond (is_good j.verdict) 1 0
    → new.bad ≡ old.bad + cond (is_bad task.blanks j.verdict) 1 0 → new.ready ≡ old.ready ++ bad_line task j
    → ((settings : Settings) (input : List ℕ) (told : List JudgedLine) → HasTold settings input told old.lines → HasTold settings (input ++ more) (told ++ j ∷ []) new.lines)
    → HasTakenAs task (bytes ++ more) given (h.answers ++ j ∷ []) new
unfolding takes_line
takes_line_as task bytes more given j old new h good bad ready reads = (takes_line task bytes more given j old new h good bad ready reads, refl)

-- whole lines that were judged apart
pub takes_whole : (task : LinesTask) (bytes more given : List ℕ) (answers : List JudgedLine) (whole : WholeLinesValue) (old new : LineTellerValue) → HasTaken task bytes given old
    → AreWhole task.settings.depth more answers whole → length whole.bad ≤ whole.count → (lines at : ℕ)
    → new.good ≡ old.good + (whole.count - length whole.bad)
    → new.bad ≡ old.bad + length (bad_of task.blanks (map (moved_line lines at) whole.bad))
    → new.ready ≡ old.ready ++ bad_lines task (map (moved_line lines at) whole.bad)
    → ((told : List JudgedLine) → HasTold task.settings bytes told old.lines → HasTold task.settings (bytes ++ more) (told ++ map (moved_line lines at) answers) new.lines)
    → HasTaken task (bytes ++ more) given new
takes_whole task bytes more given answers whole old new h k few lines at good bad ready reads =
    let moved : List JudgedLine = map (moved_line lines at) answers in
    let same : map (moved_line lines at) whole.bad ≡ no_texts_of moved = ap (map (moved_line lines at)) k.bad_are ∙ sym (bad_moved lines at answers) in
    let others = others_good task.blanks moved in
    let long : length moved ≡ length answers = length-map answers (moved_line lines at) in
    let less : length (no_texts_of moved) ≡ length whole.bad = ap length (sym same) ∙ length-map whole.bad (moved_line lines at) in
    let count = k.count_is in
    let all_good : whole.count - length whole.bad ≡ length (good_of moved) = omega (arith, others, long, less, count) in
    record {
      answers = h.answers ++ moved;
      told = reads h.answers h.told;
      good_are = good ∙ ap (λ (n : ℕ). old.good + n) all_good ∙ ap (λ (n : ℕ). n + length (good_of moved)) h.good_are ∙ sym (more_good h.answers moved);
      bad_are =
          bad
          ∙ ap (λ (js : List JudgedLine). old.bad + length (bad_of task.blanks js)) same
          ∙ ap (λ (js : List JudgedLine). old.bad + length js) (told_among task.blanks moved)
          ∙ ap (λ (n : ℕ). n + length (bad_of task.blanks moved)) h.bad_are
          ∙ sym (more_bad task h.answers moved);
      written =
          ap (λ (xs : List ℕ). given ++ xs) ready
          ∙ sym (append_assoc given old.ready (bad_lines task (map (moved_line lines at) whole.bad)))
          ∙ ap (λ (xs : List ℕ). xs ++ bad_lines task (map (moved_line lines at) whole.bad)) h.written
          ∙ ap (λ (js : List JudgedLine). bad_lines task h.answers ++ bad_lines task js) same
          ∙ ap (λ (xs : List ℕ). bad_lines task h.answers ++ xs) (lines_among task moved)
          ∙ sym (more_lines task h.answers moved);
    }

pub takes_whole_as : (task : LinesTask) (bytes more given : List ℕ) (answers : List JudgedLine) (whole : WholeLinesValue) (old new : LineTellerValue) (h : HasTaken task bytes given old)
    → AreWhole task.settings.depth more answers whole → length whole.bad ≤ whole.count → (lines at : ℕ)
    → new.good ≡ old.good + (whole.count - length whole.bad)
    → new.bad ≡ old.bad + length (bad_of task.blanks (map (moved_line lines at) whole.bad))
    → new.ready ≡ old.ready ++ bad_lines task (map (moved_line lines at) whole.bad)
    → ((told : List JudgedLine) → HasTold task.settings bytes told old.lines → HasTold task.settings (bytes ++ more) (told ++ map (moved_line lines at) answers) new.lines)
    → HasTakenAs task (bytes ++ more) given (h.answers ++ map (moved_line lines at) answers) new
unfolding takes_whole
takes_whole_as task bytes more given answers whole old new h k few lines at good bad ready reads = (takes_whole task bytes more given answers whole old new h k few lines at good bad ready reads, refl)

-- what waits was written
pub gives : (task : LinesTask) (bytes given : List ℕ) (old new : LineTellerValue) → HasTaken task bytes given old → new.lines ≡ old.lines → new.good ≡ old.good → new.bad ≡ old.bad → new.ready ≡ []
    → HasTaken task bytes (given ++ old.ready) new
gives task bytes given old new h lines good bad none =
    record {
      answers = h.answers;
      told = subst (λ (r : LineReaderValue). HasTold task.settings bytes h.answers r) (sym lines) h.told;
      good_are = good ∙ h.good_are;
      bad_are = bad ∙ h.bad_are;
      written = ap (λ (xs : List ℕ). (given ++ old.ready) ++ xs) none ∙ append-nil (given ++ old.ready) ∙ h.written;
    }

pub gives_as : (task : LinesTask) (bytes given : List ℕ) (old new : LineTellerValue) (h : HasTaken task bytes given old) → new.lines ≡ old.lines → new.good ≡ old.good → new.bad ≡ old.bad → new.ready ≡ []
    → HasTakenAs task bytes (given ++ old.ready) h.answers new
unfolding gives
gives_as task bytes given old new h lines good bad none = (gives task bytes given old new h lines good bad none, refl)

-- no more bytes
pub no_texts_taken : (task : LinesTask) (bytes given : List ℕ) (at : ℕ) (t : LineTellerValue) (h : HasTaken task bytes given t) → HasTakenTexts task bytes given [] h.answers at t
no_texts_taken task bytes given at t h =
    record {
      texts = [];
      taken = (
        record {
          answers = h.answers;
          told = subst (λ (xs : List ℕ). HasTold task.settings xs h.answers t.lines) (sym (append-nil bytes)) h.told;
          good_are = h.good_are;
          bad_are = h.bad_are;
          written = h.written;
        },
        sym (append-nil h.answers),
      );
      pass = λ front more from. refl;
    }

-- before the first byte
pub taken_none : (task : LinesTask) (t : LineTellerValue) → HasTold task.settings [] [] t.lines → t.good ≡ 0 → t.bad ≡ 0 → t.ready ≡ [] → HasTaken task [] [] t
taken_none task t told good bad none = record { answers = []; told = told; good_are = good; bad_are = bad; written = none ∙ sym (nothing task.is_quiet) }
  where
    nothing : (q : Bool) → shown_output q [] ≡ []
    nothing true = refl
    nothing false = refl

pub taken_none_as : (task : LinesTask) (t : LineTellerValue) → HasTold task.settings [] [] t.lines → t.good ≡ 0 → t.bad ≡ 0 → t.ready ≡ [] → HasTakenAs task [] [] [] t
unfolding taken_none
taken_none_as task t told good bad none = (taken_none task t told good bad none, refl)

-- ---- what is due

pub due : ((settings : Settings) (input : List ℕ) (told : List JudgedLine) (r : LineReaderValue) → HasTold settings input told r → AllZip (IsAnswer settings) (ended_lines settings.mark input) told)
    → (task : LinesTask) (bytes given : List ℕ) (t : LineTellerValue) → HasTaken task bytes given t → IsDue task bytes (given ++ t.ready)
due law task bytes given t h = record { answers = h.answers; are_answers = law task.settings bytes h.answers t.lines h.told; written = h.written }

-- ---- the end

ends : (task : LinesTask) (bytes given ready : List ℕ) (answers : List JudgedLine) (good bad : ℕ) (exit : Exit) → AreAnswers task.settings bytes answers → good ≡ length (good_of answers)
    → bad ≡ length (bad_of task.blanks answers) → given ++ ready ≡ bad_lines task answers → exit ≡ exit_by bad
    → LinesOutput task bytes (given ++ (ready ++ shown_output task.is_quiet (total_words task.form task.front.items good bad))) exit
ends task bytes given ready answers good bad exit are g b written e =
    record {
      answers = answers;
      are_answers = are;
      written =
          sym (append_assoc given ready (shown_output task.is_quiet (total_words task.form task.front.items good bad)))
          ∙ ap (λ (xs : List ℕ). xs ++ shown_output task.is_quiet (total_words task.form task.front.items good bad)) written
          ∙ ap (λ (n : ℕ). bad_lines task answers ++ shown_output task.is_quiet (total_words task.form task.front.items n bad)) g
          ∙ ap (λ (n : ℕ). bad_lines task answers ++ shown_output task.is_quiet (total_words task.form task.front.items (length (good_of answers)) n)) b;
      ends = e ∙ ap exit_by b ∙ sym (same_exit (bad_of task.blanks answers));
    }

-- without a last line
pub ends_so : (task : LinesTask) (bytes given ready : List ℕ) (old : LineTellerValue) (exit : Exit) → HasTaken task bytes given old
    → ((settings : Settings) (input : List ℕ) (told : List JudgedLine) → HasTold settings input told old.lines → AreAnswers settings input (told ++ []))
    → ready ≡ old.ready ++ shown_output task.is_quiet (total_words task.form task.front.items old.good old.bad) → exit ≡ exit_by old.bad → LinesOutput task bytes (given ++ ready) exit
ends_so task bytes given ready old exit h last is e =
    subst (λ (xs : List ℕ). LinesOutput task bytes (given ++ xs) exit) (sym is)
    (ends task bytes given old.ready h.answers old.good old.bad exit
    (subst (λ (js : List JudgedLine). AreAnswers task.settings bytes js) (append-nil h.answers) (last task.settings bytes h.answers h.told))
    h.good_are h.bad_are h.written e)

-- with one
pub ends_with : (task : LinesTask) (bytes given mid ready : List ℕ) (j : JudgedLine) (old : LineTellerValue) (good bad : ℕ) (exit : Exit) → HasTaken task bytes given old
    → ((settings : Settings) (input : List ℕ) (told : List JudgedLine) → HasTold settings input told old.lines → AreAnswers settings input (told ++ j ∷ []))
    → good ≡ old.good + cond (is_good j.verdict) 1 0 → bad ≡ old.bad + cond (is_bad task.blanks j.verdict) 1 0
    → mid ≡ old.ready ++ bad_line task j → ready ≡ mid ++ shown_output task.is_quiet (total_words task.form task.front.items good bad) → exit ≡ exit_by bad → LinesOutput task bytes (given ++ ready) exit
ends_with task bytes given mid ready j old good bad exit h last g b told is e =
    subst (λ (xs : List ℕ). LinesOutput task bytes (given ++ xs) exit) (sym is)
    (ends task bytes given mid (h.answers ++ j ∷ []) good bad exit (last task.settings bytes h.answers h.told)
    (g ∙ ap (λ (n : ℕ). n + cond (is_good j.verdict) 1 0) h.good_are ∙ sym (one_more_good h.answers j))
    (b ∙ ap (λ (n : ℕ). n + cond (is_bad task.blanks j.verdict) 1 0) h.bad_are ∙ sym (one_more_bad task h.answers j))
    (ap (λ (xs : List ℕ). given ++ xs) told
    ∙ sym (append_assoc given old.ready (bad_line task j))
    ∙ ap (λ (xs : List ℕ). xs ++ bad_line task j) h.written
    ∙ sym (one_more_line task h.answers j))
    e)
