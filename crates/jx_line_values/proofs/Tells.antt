-- How the values of lines are told, and what is due where they were not.
use Rattle.std.specs.Prelude.{Option, None, Some}
use Rattle.std.proofs.Common.{◌≡◌, ℕ, ◌+◌, List, [], ◌++◌, length, length-append, Bool, true, false, refl, sym, ap, subst, ◌∙◌, inl, inr}
use Rattle.std.proofs.lemmas.List.{append-nil}
use Rattle.std.specs.Io.KnownBytes.{Appends}
use Rattle.std.proofs.KnownBytes.{Appends-nil, Appends-trans}
use Rattle.jx_ends.specs.declared.exit.Exit.{Exit}
use Rattle.jx_ends.specs.declared.exit.Exit.TheVariants.{Good}
use Rattle.jx_drive.specs.Reports.{Dues}
use Rattle.jx_parallel.specs.Offsets.{StandThere}
use Rattle.jx_drive_at.specs.ReportsAt.{ReadsOn, WroteDueAt}
use Rattle.jx_line_values.specs.declared.task.LineValuesTask.{LineValuesTask}
use Rattle.jx_line_values.specs.LineValues.{IsDue, LineValuesOutput}
use Rattle.jx_line_values.specs.Reports.{ToldBegun, ToldDue, ToldOutput}
use Rattle.jx_line_values.specs.inside.Cutting.{CutterValue, HasTaken}
use Rattle.jx_line_values.specs.inside.ValuesTeller.{Gave, HasEnded, HasRead, HasTold, ValuesTellerValue}
use Rattle.jx_line_values.proofs.Cuts.{due, taken_none}

abbrev Known : Type 0
Known = Option (List ℕ)

-- telling has not failed before, if it has not failed by now
unlost : (was is : Bool) → (was ≡ true → is ≡ true) → is ≡ false → was ≡ false
unlost false is h e = refl
unlost true is h e = absurd (let t : is ≡ true = h refl in cc)

says_on : (was is : Bool) (e f g : Known) (said tells : List ℕ) → (was ≡ false → Appends e f said) → (was ≡ true → is ≡ true) → (is ≡ false → Appends f g tells) → is ≡ false → Appends e g (said ++ tells)
says_on was is e f g said tells before lost more i = Appends-trans _ _ _ _ _ (before (unlost was is lost i)) (more i)

-- bytes were taken behind others
pub read_more : (task : LineValuesTask) (bytes more : List ℕ) (gave : Gave) (t new : ValuesTellerValue) → HasRead task bytes gave t → new.task ≡ t.task → new.end ≡ t.end + length more
    → ((bytes given said : List ℕ) → HasTaken t.task bytes given said t.cutter → HasTaken t.task (bytes ++ more) given said new.cutter) → HasRead task (bytes ++ more) gave new
read_more task bytes more gave t new h same end takes =
    let all : (asked : LineValuesTask) → t.task ≡ asked → HasTaken asked bytes gave.written gave.said t.cutter → HasTaken asked (bytes ++ more) gave.written gave.said new.cutter =
    λ asked is. subst (λ (a : LineValuesTask). HasTaken a bytes gave.written gave.said t.cutter → HasTaken a (bytes ++ more) gave.written gave.said new.cutter) is (takes bytes gave.written gave.said) in
    record { asked = same ∙ h.asked; taken = all task h.asked h.taken; long = end ∙ ap (λ (n : ℕ). n + length more) h.long ∙ sym (length-append bytes more) }

-- nothing was written yet
pub due_at_start : (IsDue : Dues) (known w : Known) → IsDue [] [] → WroteDueAt IsDue known w w
due_at_start IsDue known w due = record { text = []; output = []; there = none_there known; due = due; wrote = Appends-nil w }
  where
    none_there : (known : Known) → StandThere known 0 []
    none_there None = tt
    none_there (Some ks) = refl

module _ (task : LineValuesTask) where
  pub told_none : (is_lost : Bool) (e : Known) (t : ValuesTellerValue) → t.task ≡ task → HasTaken task [] [] [] t.cutter → t.end ≡ 0 → HasTold task is_lost e e [] [] t
  told_none is_lost e t asked h none = record { asked = asked; said = []; taken = h; long = none; says = λ _. Appends-nil e }

  -- nothing was read, and nothing taken
  pub due_of_nothing : (is_lost : Bool) (e : Known) → ToldDue task is_lost e e [] []
  due_of_nothing is_lost e =
      let t : CutterValue = record { kept = []; ended = 0; ready = []; told = []; exit = Good } in
      record { tells = []; due = due task [] [] [] t (taken_none task t refl refl refl refl refl); says = λ _. Appends-nil e }

  module _ (is_lost : Bool) (e f : Known) (bytes given : List ℕ) (t : ValuesTellerValue) where
    pub told_more : (new : ValuesTellerValue) (more : List ℕ) → HasTold task is_lost e f bytes given t
        → ((asked : LineValuesTask) (before : List ℕ) (gave : Gave) → HasRead asked before gave t → HasRead asked (before ++ more) gave new) → HasTold task is_lost e f (bytes ++ more) given new
    told_more new more h reads =
        let r = reads task bytes (record { written = given; said = h.said }) (record { asked = h.asked; taken = h.taken; long = h.long }) in
        record { asked = r.asked; said = h.said; taken = r.taken; long = r.long; says = h.says }

    -- what it reads is told as what it takes
    pub reads_on : HasTold task is_lost e f bytes given t → ReadsOn (HasRead task) (λ xs. HasTold task is_lost e f xs given) bytes t
    reads_on h = record {
      given = record { written = given; said = h.said };
      read = record { asked = h.asked; taken = h.taken; long = h.long };
      takes = λ more new r. record { asked = r.asked; said = h.said; taken = r.taken; long = r.long; says = h.says };
    }

    pub due_now : HasTold task is_lost e f bytes given t → t.cutter.told ≡ [] → ToldDue task is_lost e f bytes (given ++ t.cutter.ready)
    due_now h quiet =
        record {
          tells = h.said;
          due =
              subst (λ (l : List ℕ). IsDue task bytes (given ++ t.cutter.ready) l) (ap (λ (l : List ℕ). h.said ++ l) quiet ∙ append-nil h.said) (due task bytes given h.said t.cutter h.taken);
          says = h.says;
        }

    pub begun_now : HasTold task is_lost e f bytes given t → ToldBegun task is_lost e f bytes (given ++ t.cutter.ready)
    begun_now h = record { before = h.said; behind = t.cutter.told; of = inl (due task bytes given h.said t.cutter h.taken); says = h.says }

    pub begun_at_end : (exit : Exit) → HasEnded task is_lost e f bytes given exit t → ToldBegun task is_lost e f bytes (given ++ t.cutter.ready)
    begun_at_end exit h = record { before = h.said; behind = t.cutter.told; of = inr (exit, h.answer); says = h.says }

    pub ends : (new : ValuesTellerValue) (exit : Exit) → HasTold task is_lost e f bytes given t
        → ((bytes given said : List ℕ) → HasTaken t.task bytes given said t.cutter → LineValuesOutput t.task bytes (given ++ new.cutter.ready) (said ++ new.cutter.told) exit)
        → HasEnded task is_lost e f bytes given exit new
    ends new exit h outputs =
        let all : (asked : LineValuesTask) → t.task ≡ asked → HasTaken asked bytes given h.said t.cutter → LineValuesOutput asked bytes (given ++ new.cutter.ready) (h.said ++ new.cutter.told) exit =
        λ asked is. subst (λ (a : LineValuesTask). HasTaken a bytes given h.said t.cutter → LineValuesOutput a bytes (given ++ new.cutter.ready) (h.said ++ new.cutter.told) exit) is (outputs bytes given h.said) in
        record { said = h.said; answer = all task h.asked h.taken; says = h.says }

    -- ---- what waits was written and told

    module _ (is : Bool) (g : Known) (lost : is_lost ≡ true → is ≡ true) (tells : is ≡ false → Appends f g t.cutter.told) where
      pub told_on : (new : ValuesTellerValue) → HasTold task is_lost e f bytes given t → new.task ≡ t.task → new.end ≡ t.end
          → ((task : LineValuesTask) (bytes given said : List ℕ) → HasTaken task bytes given said t.cutter → HasTaken task bytes (given ++ t.cutter.ready) (said ++ t.cutter.told) new.cutter)
          → HasTold task is e g bytes (given ++ t.cutter.ready) new
      told_on new h same as_long clears =
          record {
            asked = same ∙ h.asked;
            said = h.said ++ t.cutter.told;
            taken = clears task bytes given h.said h.taken;
            long = as_long ∙ h.long;
            says = says_on is_lost is e f g h.said t.cutter.told h.says lost tells;
          }

      pub told_all : (exit : Exit) → HasEnded task is_lost e f bytes given exit t → ToldOutput task is e g bytes (given ++ t.cutter.ready) exit
      told_all exit h = record { tells = h.said ++ t.cutter.told; answer = h.answer; says = says_on is_lost is e f g h.said t.cutter.told h.says lost tells }
