-- A teller takes the lines up to the last one of so many bad ones, and what is due then is written.
use Rattle.std.specs.Prelude.{Option, ◌⊎◌}
use Rattle.std.proofs.Common.{◌≡◌, ◌+◌, ◌<◌, ◌≤◌, ◌++◌, ◌∙◌, ℕ, List, [], Bool, true, false, cond, length, take, drop, arith, ap, append_assoc, sym, subst, refl, inl, inr}
use Rattle.std.specs.List.{AllZip}
use Rattle.std.specs.Io.KnownBytes.{Appends}
use Rattle.std.proofs.Math.Nat.{eq-or-lt_of_le}
use Rattle.std.proofs.lemmas.List.{append-nil, take-append-drop, take_all}
use Rattle.jx_run.specs.declared.texts.settings.Settings.{Settings}
use Rattle.jx_ndjson.specs.declared.judged_line.JudgedLine.{JudgedLine}
use Rattle.jx_ndjson.specs.Answers.{IsAnswer}
use Rattle.jx_ndjson.specs.Lines.{ended_lines}
use Rattle.jx_ndjson.specs.Reading.{HasTold, LineReaderValue}
use Rattle.jx_drive.specs.Reports.{WroteDue}
use Rattle.jx_drive.specs.inside.Steps.{IsWritten}
use Rattle.jx_ndjson_report.specs.declared.task.LinesTask.{LinesTask}
use Rattle.jx_ndjson_report.specs.First.{IsDueBelow, IsDueOfMost, IsFirstDue}
use Rattle.jx_ndjson_report.specs.inside.FirstSteps.{HasTakenBelow, HasTakenMost, WritesFirst, none_of, ready_of}
use Rattle.jx_ndjson_report.specs.inside.LineTeller.{HasTaken, LineTellerValue}
use Rattle.jx_ndjson_report.proofs.Takes.{gives}

abbrev Known : Type 0
Known = Option (List ℕ)

-- one line is one more bad one at most
pub one_at_most : (old new : ℕ) (b : Bool) → new ≡ old + cond b 1 0 → new ≤ old + 1
one_at_most old new true is = omega (arith, is)
one_at_most old new false is = omega (arith, is)

-- ---- what was taken

module _ (task : LinesTask) (most : ℕ) where
  -- all of a batch, where fewer lines are bad
  pub all_below : (taken : ℕ) (bytes batch given : List ℕ) (t : LineTellerValue) → HasTaken task (bytes ++ take taken batch) given t → t.bad < most → taken ≡ length batch
      → HasTakenBelow task most (bytes ++ batch) given t
  all_below taken bytes batch given t h few all = (subst (λ (l : List ℕ). HasTaken task (bytes ++ l) given t) (take_all taken batch (omega (arith, all))) h, few)

  -- a beginning of it, where as many are
  pub up_to_most : (taken : ℕ) (bytes batch given : List ℕ) (t : LineTellerValue) → HasTaken task (bytes ++ take taken batch) given t → t.bad ≡ most → HasTakenMost task most (bytes ++ batch) given t
  up_to_most taken bytes batch given t h full = record {
    front = bytes ++ take taken batch;
    rest = drop taken batch;
    cut = ap (λ (l : List ℕ). bytes ++ l) (sym (take-append-drop taken batch)) ∙ sym (append_assoc bytes (take taken batch) (drop taken batch));
    taken = h;
    full = full;
  }

  -- and what waited was written
  abbrev pub Takes : ℕ → List ℕ → (old mid : LineTellerValue) → Type 0
  Takes taken batch old mid = (bytes given : List ℕ) → HasTaken task bytes given old → HasTaken task (bytes ++ take taken batch) given mid

  pub writes_below : (taken : ℕ) (batch : List ℕ) (old mid new : LineTellerValue) (w x : Known) → Takes taken batch old mid → new.lines ≡ mid.lines → new.good ≡ mid.good → new.bad ≡ mid.bad → new.ready ≡ []
      → Appends w x mid.ready → new.bad < most → taken ≡ length batch → WritesFirst (HasTakenBelow task most) (HasTakenBelow task most) w x batch old new
  writes_below taken batch old mid new w x takes lines good bad none wrote few all = record {
    more = mid.ready;
    wrote = wrote;
    takes = λ bytes given h. all_below taken bytes batch (given ++ mid.ready) new (gives task (bytes ++ take taken batch) given mid new (takes bytes given h.0) lines good bad none) few all;
    none_wait = none;
    none_told = refl;
  }

  pub writes_most : (taken : ℕ) (batch : List ℕ) (old mid new : LineTellerValue) (w x : Known) → Takes taken batch old mid → new.lines ≡ mid.lines → new.good ≡ mid.good → new.bad ≡ mid.bad → new.ready ≡ []
      → Appends w x mid.ready → new.bad ≡ most → WritesFirst (HasTakenBelow task most) (HasTakenMost task most) w x batch old new
  writes_most taken batch old mid new w x takes lines good bad none wrote full = record {
    more = mid.ready;
    wrote = wrote;
    takes = λ bytes given h. up_to_most taken bytes batch (given ++ mid.ready) new (gives task (bytes ++ take taken batch) given mid new (takes bytes given h.0) lines good bad none) full;
    none_wait = none;
    none_told = refl;
  }

-- ---- what is due

-- the answers on the lines of a reader are those on the lines that a line feed ends
abbrev pub Law : Type 0
Law = (settings : Settings) (input : List ℕ) (told : List JudgedLine) (r : LineReaderValue) → HasTold settings input told r → AllZip (IsAnswer settings) (ended_lines settings.mark input) told

module _ (law : Law) (task : LinesTask) (most : ℕ) where
  pub below_due : (bytes given : List ℕ) (t : LineTellerValue) → HasTakenBelow task most bytes given t → IsDueBelow task most bytes (given ++ t.ready)
  below_due bytes given t (h, few) = (
    record { answers = h.answers; are_answers = law task.settings bytes h.answers t.lines h.told; written = h.written },
    subst (λ (n : ℕ). n < most) h.bad_are few,
  )

  pub most_due : (bytes given : List ℕ) (t : LineTellerValue) → HasTakenMost task most bytes given t → IsDueOfMost task most bytes (given ++ t.ready)
  most_due bytes given t h = record {
    front = h.front;
    rest = h.rest;
    cut = h.cut;
    due = record { answers = h.taken.answers; are_answers = law task.settings h.front h.taken.answers t.lines h.taken.told; written = h.taken.written };
    full = sym h.taken.bad_are ∙ h.full;
  }

  pub first_due : (taken : ℕ) (bytes batch given : List ℕ) (t : LineTellerValue) → HasTaken task (bytes ++ take taken batch) given t → t.bad ≤ most → (t.bad < most → taken ≡ length batch)
      → IsFirstDue task most (bytes ++ batch) (given ++ t.ready)
  first_due taken bytes batch given t h few all = pick (eq-or-lt_of_le few)
    where
      pick : (t.bad ≡ most) ⊎ (t.bad < most) → IsFirstDue task most (bytes ++ batch) (given ++ t.ready)
      pick (inl full) = inr (most_due (bytes ++ batch) given t (up_to_most task most taken bytes batch given t h full))
      pick (inr below) = inl (below_due (bytes ++ batch) given t (all_below task most taken bytes batch given t h below (all below)))

  -- where nothing waits, all of it was written
  pub most_written : (u n w x : Known) (t : LineTellerValue) → IsWritten (HasTakenMost task most) ready_of none_of u n w x t → WroteDue (IsDueOfMost task most) u n w x
  most_written u n w x t h = record {
    text = h.text;
    output = h.given;
    read = h.read;
    due = subst (λ (l : List ℕ). IsDueOfMost task most h.text l) (ap (λ (l : List ℕ). h.given ++ l) h.none_wait ∙ append-nil h.given) (most_due h.text h.given t h.taken);
    wrote = h.wrote;
  }
