-- Lines that are told round by round, and the end.
use Rattle.std.proofs.Common.{◌≡◌, ◌≤◌, ◌<◌, ◌+◌, ◌-◌, ℕ, suc, List, [], ◌∷◌, ◌++◌, Bool, true, false, cond, refl, sym, ap, subst, ◌∙◌, inl, inr, append-nil, append_assoc, arith, drop, drop-cons, get_or, length}
use Rattle.std.specs.Prelude.{Option, None, Some, Result, Ok, Err, IfErr, ◌==◌, not}
use Rattle.std.specs.List.{AllZip}
use Rattle.std.specs.Io.KnownBytes.{Appends}
use Rattle.std.proofs.KnownBytes.{Appends-trans}
use Rattle.std.proofs.Math.ListN.{drop_of_length-le}
use Rattle.std.proofs.lemmas.Bool.Decides.{nat_tests}
use Rattle.std.proofs.lemmas.List.{length-drop}
use Rattle.jx_ends.specs.declared.exit.Exit.{Exit}
use Rattle.jx_ends.specs.Ends.{AppendsBeginning}
use Rattle.jx_ends.proofs.Beginnings.{beginning_behind}
use Rattle.jx_run.specs.declared.texts.settings.FrontMark.{FrontMark}
use Rattle.jx_run.specs.declared.texts.settings.FrontMark.TheVariants as on_mark
use Rattle.jx_run.specs.declared.texts.settings.Settings.{Settings}
use Rattle.jx_run.specs.Front.{agreed}
use Rattle.jx_run.specs.Settings.{byte_order_mark}
use Rattle.jx_run.proofs.Fronts.{agreed_short}
use Rattle.jx_ndjson.specs.declared.judged_line.JudgedLine.{JudgedLine}
use Rattle.jx_ndjson.specs.declared.judged_line.LineVerdict.{LineVerdict}
use Rattle.jx_ndjson.specs.declared.judged_line.LineVerdict.TheVariants as of_line
use Rattle.jx_ndjson.specs.declared.line_tally.LineCounts.{LineCounts}
use Rattle.jx_ndjson.specs.Answers.{IsAnswer}
use Rattle.jx_ndjson.specs.Lines.{ended_lines, mark_length}
use Rattle.jx_ndjson.specs.Reading.{HasTold, LineReaderValue}
use Rattle.jx_ndjson.specs.Tally.{HasTaken, IsTallied, TallyValue, bad_of as no_texts_of, count_of, counts_of, is_accepted, is_blank_line, is_refused, one_if}
use Rattle.jx_ndjson.specs.WholeLines.{AreWhole, WholeLinesValue}
use Rattle.jx_ndjson.proofs.Steps.{reached}
use Rattle.jx_ndjson.proofs.Tallies.{kinds, one_counted}
use Rattle.jx_words.specs.Verdicts.{shown_output}
use Rattle.jx_ndjson_report.specs.declared.task.BlankRule.{BlankRule}
use Rattle.jx_ndjson_report.specs.declared.task.BlankRule.TheVariants.{Refused, Passed}
use Rattle.jx_ndjson_report.specs.declared.task.LinesTask.{LinesTask}
use Rattle.jx_ndjson_report.specs.Output.{IsDue, LinesOutput, bad_lines, bad_of, good_of, is_bad, is_good, total_words}
use Rattle.jx_ndjson_report.specs.inside.LineSteps.{bad_line, exit_by}
use Rattle.jx_ndjson_report.proofs.Told.{lines_among, more_lines, nothing_told, one_more_line, same_exit}
use Rattle.jx_parallel.specs.declared.part_reader.PartRule.{PartRule}
use Rattle.jx_parallel.specs.Offsets.{EndsBefore, IsContent, StandThere}
use Rattle.jx_parallel.proofs.There.{is_whole}
use Rattle.jx_drive_at.specs.declared.report_at_fault.ReportAtFault.{ReportAtFault}
use Rattle.jx_drive_at.specs.declared.report_at_fault.ReportAtFault.TheVariants.{Memory, Read, Write}
use Rattle.jx_drive_at.specs.ReportsAt.{FailsBy}
use Rattle.jx_parallel_report.specs.LinesAt.{ReportsLines, WroteLines, WroteLinesInPart}
use Rattle.jx_parallel_report.specs.inside.Lines.{AfterFault, HasRead, IsPart, IsTold, Telling, reported}

abbrev pub EndedLaw : Type 0
EndedLaw = (settings : Settings) (input : List ℕ) (told : List JudgedLine) (r : LineReaderValue) → HasTold settings input told r → AllZip (IsAnswer settings) (ended_lines settings.mark input) told

-- ---- before the first byte

none_ended : (settings : Settings) (told : List JudgedLine) (m : FrontMark) → AllZip (IsAnswer settings) (ended_lines m []) told → told ≡ []
none_ended settings [] m h = refl
none_ended settings (j ∷ js) on_mark.Refused h = absurd h
none_ended settings (j ∷ js) on_mark.Ignored h = absurd h

pub none_wait : EndedLaw → (settings : Settings) (t : TallyValue) → HasTaken settings [] [] t → t.waiting ≡ []
none_wait law settings t h =
    let none : h.answers ≡ [] = none_ended settings h.answers settings.mark (law settings [] h.answers t.lines h.told) in
    h.bad_are ∙ ap no_texts_of none

none_there : (known : Option (List ℕ)) → StandThere known 0 []
none_there None = tt
none_there (Some ks) = refl

appends_none : (w : Option (List ℕ)) → Appends w w []
appends_none None = tt
appends_none (Some xs) = sym (append-nil xs)

pub begun : (settings : Settings) (told : Telling) (rule : PartRule) (known w : Option (List ℕ)) (t : TallyValue) → HasRead settings told rule [] [] t → IsTold settings told rule known w w t
begun settings told rule known w t h = record { text = []; output = []; there = none_there known; read = h; wrote = appends_none w }

-- ---- how far was read

mark_within : (m : FrontMark) (input : List ℕ) → mark_length m input ≤ length input
mark_within on_mark.Refused input = omega arith
mark_within on_mark.Ignored input = pick (agreed input byte_order_mark == 3) refl
  where
    pick : (b : Bool) → (agreed input byte_order_mark == 3) ≡ b → cond (agreed input byte_order_mark == 3) 3 0 ≤ length input
    pick true e =
        let low : agreed input byte_order_mark ≤ length input = agreed_short input byte_order_mark in
        let is : agreed input byte_order_mark ≡ 3 = grind (arith, nat_tests) in
        subst (λ (t : Bool). cond t 3 0 ≤ length input) (sym e) (omega (arith, low, is))
    pick false e = subst (λ (t : Bool). cond t 3 0 ≤ length input) (sym e) (omega arith)

pub reached_by : (settings : Settings) (told : Telling) (rule : PartRule) (xs written : List ℕ) (t : TallyValue) → HasRead settings told rule xs written t → t.lines.reader.start + t.lines.reader.count ≡ length xs
reached_by settings told rule xs written t h =
    let k : ℕ = mark_length settings.mark xs in
    let low : k ≤ length xs = mark_within settings.mark xs in
    let e = reached settings k (drop k xs) h.taken.answers t.lines h.taken.told.reads in
    let d : length (drop k xs) ≡ length xs - k = length-drop k xs in
    omega (arith, e, low, d)

-- ---- how a reading goes on

module _ (settings : Settings) (told : Telling) where
  pub reads_on : (rule : PartRule) (old new : TallyValue) (more : List ℕ)
      → ((s : Settings) (input : List ℕ) (given : List JudgedLine) → HasTaken s input given old → HasTaken s (input ++ more) given new)
      → (xs written : List ℕ) → HasRead settings told rule xs written old → HasRead settings told rule (xs ++ more) written new
  reads_on rule old new more takes xs written h = record { depth = h.depth; given = h.given; taken = takes settings xs h.given h.taken; written_is = h.written_is }

  pub takes_part : (rule : PartRule) (old new : TallyValue) (part : WholeLinesValue)
      → ((s : Settings) (input bytes : List ℕ) (given answers : List JudgedLine) → HasTaken s input given old → AreWhole s.depth bytes answers part → HasTaken s (input ++ bytes) given new)
      → (xs ys written : List ℕ) → HasRead settings told rule xs written old → IsPart rule (length xs) ys part → HasRead settings told rule (xs ++ ys) written new
  takes_part rule old new part takes xs ys written h p = record {
    depth = h.depth;
    given = h.given;
    taken = takes settings xs ys h.given p.0 h.taken (subst (λ (n : ℕ). AreWhole n ys p.0 part) h.depth p.1);
    written_is = h.written_is;
  }

  pub clears : ((given more : List JudgedLine) → told (given ++ more) ≡ told given ++ told more) → (rule : PartRule) (old new : TallyValue)
      → ((s : Settings) (input : List ℕ) (given : List JudgedLine) → HasTaken s input given old → HasTaken s input (given ++ old.waiting) new)
      → (xs written : List ℕ) → HasRead settings told rule xs written old → HasRead settings told rule xs (written ++ told old.waiting) new
  clears both rule old new gives xs written h = record {
    depth = h.depth;
    given = h.given ++ old.waiting;
    taken = gives settings xs h.given h.taken;
    written_is = ap (λ (l : List ℕ). l ++ told old.waiting) h.written_is ∙ sym (both h.given old.waiting);
  }

  module _ (rule : PartRule) (known : Option (List ℕ)) where
    pub told_on : (w x : Option (List ℕ)) (old new : TallyValue) → IsTold settings told rule known w x old
        → ((xs given : List ℕ) → StandThere known 0 xs → HasRead settings told rule xs given old → (more : List ℕ) × StandThere known 0 (xs ++ more) × HasRead settings told rule (xs ++ more) given new)
        → IsTold settings told rule known w x new
    told_on w x old new h goes =
        let f = goes h.text h.output h.there h.read in
        record { text = h.text ++ f.0; output = h.output; there = f.1; read = f.2; wrote = h.wrote }

    pub told_written : (w x y : Option (List ℕ)) (old new : TallyValue) → IsTold settings told rule known w x old → Appends x y (told old.waiting)
        → ((r : PartRule) (xs written : List ℕ) → HasRead settings told r xs written old → HasRead settings told r xs (written ++ told old.waiting) new)
        → IsTold settings told rule known w y new
    told_written w x y old new h a goes = record {
      text = h.text;
      output = h.output ++ told old.waiting;
      there = h.there;
      read = goes rule h.text h.output h.read;
      wrote = Appends-trans w x y h.output (told old.waiting) h.wrote a;
    }

    -- ---- what is due

    module _ (law : EndedLaw) (task : LinesTask) (same : settings ≡ task.settings) (by : told ≡ bad_lines task) where
      due_with : (w x : Option (List ℕ)) (t : TallyValue) (h : IsTold settings told rule known w x t) → IsDue task h.text (h.output ++ told t.waiting)
      due_with w x t h =
          let k = h.read.taken in
          let given : List JudgedLine = h.read.given in
          record {
            answers = k.answers;
            are_answers = subst (λ (s : Settings). AllZip (IsAnswer s) (ended_lines s.mark h.text) k.answers) same (law settings h.text k.answers t.lines k.told);
            written =
                ap (λ (l : List ℕ). l ++ told t.waiting) h.read.written_is
                ∙ ap (λ (f : Telling). f given ++ f t.waiting) by
                ∙ sym (more_lines task given t.waiting)
                ∙ ap (bad_lines task) k.bad_are
                ∙ lines_among task k.answers;
          }

      pub due : (w x : Option (List ℕ)) (t : TallyValue) → IsTold settings told rule known w x t → t.waiting ≡ [] → WroteLines task known w x
      due w x t h none =
          let nothing : h.output ++ told t.waiting ≡ h.output =
          ap (λ (js : List JudgedLine). h.output ++ told js) none ∙ ap (λ (f : Telling). h.output ++ f []) by ∙ ap (λ (l : List ℕ). h.output ++ l) (nothing_told task) ∙ append-nil h.output in
          record { text = h.text; output = h.output; there = h.there; due = subst (λ (l : List ℕ). IsDue task h.text l) nothing (due_with w x t h); wrote = h.wrote }

      pub in_part : (w x y : Option (List ℕ)) (t : TallyValue) → IsTold settings told rule known w x t → AppendsBeginning x y (told t.waiting) → WroteLinesInPart task known w y
      in_part w x y t h b = record {
        text = h.text;
        output = h.output ++ told t.waiting;
        of = inl (h.there, due_with w x t h);
        wrote = beginning_behind w x y h.output (told t.waiting) h.wrote b;
      }

      -- ---- the end

      module _ (w x : Option (List ℕ)) (t : TallyValue) (h : IsTold settings told rule known w x t) (none : t.waiting ≡ []) (end : EndsBefore known (t.lines.reader.start + t.lines.reader.count))
          (words : List ℕ) (bad : List JudgedLine) (counts : LineCounts) (exit : Exit)
          (tallied : (s : Settings) (input : List ℕ) (given : List JudgedLine) → HasTaken s input given t → IsTallied s input ((given ++ t.waiting) ++ bad) counts)
          (output : (input : List ℕ) (given : List JudgedLine) → IsTallied task.settings input (given ++ bad) counts → LinesOutput task input (bad_lines task given ++ words) exit) where
        whole : IsContent known h.text
        whole = is_whole known h.text h.there (subst (λ (n : ℕ). EndsBefore known n) (reached_by settings told rule h.text h.output t h.read) end)

        all_output : LinesOutput task h.text (h.output ++ words) exit
        all_output =
            let given : List JudgedLine = h.read.given in
            let no_more : given ++ t.waiting ≡ given = ap (λ (js : List JudgedLine). given ++ js) none ∙ append-nil given in
            let all : IsTallied settings h.text (given ++ bad) counts =
            subst (λ (js : List JudgedLine). IsTallied settings h.text (js ++ bad) counts) no_more (tallied settings h.text given h.read.taken) in
            subst (λ (l : List ℕ). LinesOutput task h.text (l ++ words) exit) (sym (h.read.written_is ∙ ap (λ (f : Telling). f given) by))
            (output h.text given (subst (λ (s : Settings). IsTallied s h.text (given ++ bad) counts) same all))

        pub ends : (y : Option (List ℕ)) → Appends x y words → ReportsLines task known w y exit
        ends y a = record { text = h.text; output = h.output ++ words; whole = whole; answer = all_output; wrote = Appends-trans w x y h.output words h.wrote a }

        pub ends_in_part : (y : Option (List ℕ)) → AppendsBeginning x y words → WroteLinesInPart task known w y
        ends_in_part y b = record {
          text = h.text;
          output = h.output ++ words;
          of = inr (exit, (whole, all_output));
          wrote = beginning_behind w x y h.output words h.wrote b;
        }

-- ---- a tally and the output

alike : (f g : LineVerdict → Bool) → ((v : LineVerdict) → f v ≡ g v) → (js : List JudgedLine) → count_of f js ≡ count_of g js
alike f g same [] = refl
alike f g same (j ∷ js) =
    one_counted f j js (f j.verdict) refl
    ∙ ap (λ (n : ℕ). one_if (f j.verdict) + n) (alike f g same js)
    ∙ sym (one_counted g j js (f j.verdict) (sym (same j.verdict)))

goods : (js : List JudgedLine) → count_of is_accepted js ≡ length (good_of js)
goods js = alike is_accepted is_good same js
  where
    same : (v : LineVerdict) → is_accepted v ≡ is_good v
    same of_line.Accepted = refl
    same (of_line.Refused refusal) = refl
    same of_line.MayBeCut = refl
    same of_line.Blank = refl

bads : (rule : BlankRule) (js : List JudgedLine) → reported rule (counts_of js) ≡ length (bad_of rule js)
bads Refused js = (kinds js).others ∙ alike (λ (v : LineVerdict). not (is_accepted v)) (is_bad Refused) same js
  where
    same : (v : LineVerdict) → not (is_accepted v) ≡ is_bad Refused v
    same of_line.Accepted = refl
    same (of_line.Refused refusal) = refl
    same of_line.MayBeCut = refl
    same of_line.Blank = refl
bads Passed js = alike is_refused (is_bad Passed) same js
  where
    same : (v : LineVerdict) → is_refused v ≡ is_bad Passed v
    same of_line.Accepted = refl
    same (of_line.Refused refusal) = refl
    same of_line.MayBeCut = refl
    same of_line.Blank = refl

pub tallied_output : (task : LinesTask) (input words : List ℕ) (given extra : List JudgedLine) (counts : LineCounts) (bad : ℕ) (exit : Exit) → bad ≡ reported task.blanks counts
    → words ≡ bad_lines task extra ++ shown_output task.is_quiet (total_words task.form task.front.items counts.accepted bad) → exit ≡ exit_by bad
    → IsTallied task.settings input (given ++ extra) counts → LinesOutput task input (bad_lines task given ++ words) exit
tallied_output task input words given extra counts bad exit bad_is words_are exit_is h =
    let total : ℕ → ℕ → List ℕ = λ good n. shown_output task.is_quiet (total_words task.form task.front.items good n) in
    let good : counts.accepted ≡ length (good_of h.answers) = ap (λ (c : LineCounts). c.accepted) h.counts_are ∙ goods h.answers in
    let all : bad ≡ length (bad_of task.blanks h.answers) = bad_is ∙ ap (reported task.blanks) h.counts_are ∙ bads task.blanks h.answers in
    record {
      answers = h.answers;
      are_answers = h.are_answers;
      written =
          ap (λ (l : List ℕ). bad_lines task given ++ l) words_are
          ∙ sym (append_assoc (bad_lines task given) (bad_lines task extra) (total counts.accepted bad))
          ∙ ap (λ (l : List ℕ). l ++ total counts.accepted bad) (sym (more_lines task given extra) ∙ ap (bad_lines task) h.bad_are ∙ lines_among task h.answers)
          ∙ ap (λ (n : ℕ). bad_lines task h.answers ++ total n bad) good
          ∙ ap (λ (n : ℕ). bad_lines task h.answers ++ total (length (good_of h.answers)) n) all;
      ends = exit_is ∙ ap exit_by all ∙ sym (same_exit (bad_of task.blanks h.answers));
    }

-- ---- loops over lines

pub one_told : (task : LinesTask) (j : JudgedLine) → bad_line task j ≡ bad_lines task (j ∷ [])
one_told task j = ap (λ (l : List ℕ). l ++ bad_line task j) (sym (nothing_told task)) ∙ sym (one_more_line task [] j)

module _ (task : LinesTask) (i : ℕ) (js : List JudgedLine) where
  pub lines_step : (j d : JudgedLine) (out next : List ℕ) → i < length js → j ≡ get_or js i d → next ≡ out ++ bad_line task j
      → next ++ bad_lines task (drop (i + 1) js) ≡ out ++ bad_lines task (drop i js)
  lines_step j d out next h is e =
      let rest : List JudgedLine = drop (suc i) js in
      ap (λ (n : ℕ). next ++ bad_lines task (drop n js)) (let s : i + 1 ≡ suc i = omega arith in s)
      ∙ ap (λ (x : List ℕ). x ++ bad_lines task rest) (e ∙ ap (λ (l : List ℕ). out ++ l) (one_told task j))
      ∙ append_assoc out (bad_lines task (j ∷ [])) (bad_lines task rest)
      ∙ ap (λ (x : List ℕ). out ++ x) (sym (more_lines task (j ∷ []) rest))
      ∙ ap (λ (x : JudgedLine). out ++ bad_lines task (x ∷ rest)) is
      ∙ sym (ap (λ (x : List JudgedLine). out ++ bad_lines task x) (drop-cons js i d h))

  pub lines_done : (out : List ℕ) → length js ≤ i → out ++ bad_lines task (drop i js) ≡ out
  lines_done out h =
      ap (λ (x : List JudgedLine). out ++ bad_lines task x) (drop_of_length-le js h) ∙ ap (λ (x : List ℕ). out ++ x) (nothing_told task) ∙ append-nil out

-- ---- faults

-- a fault that is handed on
pub handed : {T U E : Type 0} (P Q : E → Type 0) (q : Result T E) (r : Result U E) (x y : E) → ((e : E) → P e → Q e) → IfErr q P → q ≡ Err x → r ≡ Err y → y ≡ x → IfErr r Q
handed P Q q r x y further h was is same = subst (λ s. IfErr s Q) (sym is) (subst Q (sym same) (further x (subst (λ s. IfErr s P) was h)))

-- or made of refused memory
pub of_memory : {T E : Type 0} (Q : ReportAtFault E → Type 0) (r : Result T (ReportAtFault E)) (f : ReportAtFault E) → r ≡ Err f → f ≡ Memory → Q Memory → IfErr r Q
of_memory Q r f is same h = subst (λ s. IfErr s Q) (sym is) (subst Q (sym same) h)

module _ {E : Type 0} (task : LinesTask) (known : Option (List ℕ)) (may_fail : E → Type 0) (w y : Option (List ℕ)) where
  pub never_read : (fault : ReportAtFault E) → AfterFault task known (λ _. ⊥) w y fault → AfterFault task known may_fail w y fault
  never_read Memory h = h
  never_read (Read reason) h = absurd h.0
  never_read Write h = h

  pub for_reason : (reason : E) → may_fail reason → (fault : ReportAtFault E) → AfterFault task known (λ why. why ≡ reason) w y fault → AfterFault task known may_fail w y fault
  for_reason reason may Memory h = h
  for_reason reason may (Read why) h = (subst may_fail (sym h.0) may, h.1)
  for_reason reason may Write h = h

  -- what a caller is told
  pub due_after : {T : Type 0} (result : Result T (ReportAtFault E)) → IfErr result (AfterFault task known may_fail w y)
      → IfErr result (λ fault. (fault ≡ Write → ⊥) → WroteLines task known w y)
  due_after (Ok x) h = tt
  due_after (Err Memory) h = λ _. h
  due_after (Err (Read reason)) h = λ _. h.1
  due_after (Err Write) h = λ never. absurd (never refl)

  pub reason_after : {T : Type 0} (result : Result T (ReportAtFault E)) → IfErr result (AfterFault task known may_fail w y) → IfErr result (FailsBy may_fail)
  reason_after (Ok x) h = tt
  reason_after (Err Memory) h = tt
  reason_after (Err (Read reason)) h = h.0
  reason_after (Err Write) h = tt

  pub beginning_after : {T : Type 0} (result : Result T (ReportAtFault E)) → IfErr result (AfterFault task known may_fail w y) → result ≡ Err Write → WroteLinesInPart task known w y
  beginning_after result h is = subst (λ (r : Result _ (ReportAtFault E)). IfErr r (AfterFault task known may_fail w y)) is h
