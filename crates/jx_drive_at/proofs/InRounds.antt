-- How what is due is written round by round.
use Rattle.std.specs.Prelude.{Option, None, Some, Result, Ok, Err, IfErr}
use Rattle.std.proofs.Common.{◌≡◌, ℕ, List, [], ◌++◌, length, Bool, true, false, refl, ap, subst, ◌∙◌}
use Rattle.std.proofs.lemmas.List.{append-nil}
use Rattle.std.specs.Io.KnownBytes.{Appends}
use Rattle.std.proofs.KnownBytes.{Appends-nil, Appends-trans}
use Rattle.jx_ends.specs.declared.exit.Exit.{Exit}
use Rattle.jx_ends.specs.Ends.{AppendsBeginning}
use Rattle.jx_ends.proofs.Beginnings.{beginning_behind}
use Rattle.jx_drive.specs.Reports.{Dues, Outputs}
use Rattle.jx_parallel.specs.declared.check_fault.CheckFault.{CheckFault}
use Rattle.jx_parallel.specs.declared.check_fault.CheckFault.TheVariants as check
use Rattle.jx_parallel.specs.Faults.{IfRead, ReadFailsBy}
use Rattle.jx_parallel.specs.Offsets.{EndsBefore, StandThere}
use Rattle.jx_parallel.specs.Parts.{GoesOn, Readings}
use Rattle.jx_parallel.proofs.There.{is_whole}
use Rattle.jx_drive_at.specs.declared.report_at_fault.ReportAtFault.{ReportAtFault}
use Rattle.jx_drive_at.specs.declared.report_at_fault.ReportAtFault.TheVariants.{Memory, Read, Write}
use Rattle.jx_drive_at.specs.ReportsAt.{FailsBy, ReadsOn, ReportsAllAt, WroteDueAt, WroteInPartAt}
use Rattle.jx_drive_at.specs.inside.Rounds.{AfterFault, IsTakenAt, IsWrittenAt, Takings}

abbrev Known : Type 0
Known = Option (List ℕ)

none_there : (known : Known) → StandThere known 0 []
none_there None = tt
none_there (Some ks) = refl

module _ {T : Type 0} (HasTaken : Takings T) (ready told : T → List ℕ) (known : Known) where
  pub begins : (w : Known) (t : T) → HasTaken [] [] t → ready t ≡ [] → told t ≡ [] → IsWrittenAt HasTaken ready told known true w w t
  begins w t h none quiet = record {
    taken = record { text = []; given = []; there = none_there known; whole = λ is. absurd (let e : true ≡ false = is in cc); wrote = Appends-nil w; taken = h };
    none_wait = none;
    none_told = quiet;
  }

  -- a round was read, up to a place behind which more may follow
  pub reads_on : {Given : Type 0} (has_read : Readings Given T) (more : Bool) (w x : Known) (old new : T) (end : ℕ)
      → ((bytes given : List ℕ) (t : T) → HasTaken bytes given t → ReadsOn has_read (λ xs. HasTaken xs given) bytes t)
      → IsTakenAt HasTaken known true w x old → GoesOn known has_read old new → (more ≡ false → EndsBefore known end)
      → ((xs : List ℕ) (given : Given) → has_read xs given new → end ≡ length xs) → IsTakenAt HasTaken known more w x new
  reads_on has_read more w x old new end reads h goes ends long =
      let r = reads h.text h.given old h.taken in
      let f = goes h.text r.given h.there r.read in
      record {
        text = h.text ++ f.0;
        given = h.given;
        there = f.1;
        whole = λ is. is_whole known (h.text ++ f.0) f.1 (subst (λ (n : ℕ). EndsBefore known n) (long (h.text ++ f.0) r.given f.2) (ends is));
        wrote = h.wrote;
        taken = r.takes f.0 new f.2;
      }

  -- or up to a place where a read failed
  pub stopped_at : {Given : Type 0} (has_read : Readings Given T) (w x : Known) (old new : T) → ((bytes given : List ℕ) (t : T) → HasTaken bytes given t → ReadsOn has_read (λ xs. HasTaken xs given) bytes t)
      → IsTakenAt HasTaken known true w x old → GoesOn known has_read old new → IsTakenAt HasTaken known true w x new
  stopped_at has_read w x old new reads h goes =
      let r = reads h.text h.given old h.taken in
      let f = goes h.text r.given h.there r.read in
      record { text = h.text ++ f.0; given = h.given; there = f.1; whole = λ is. absurd (let e : true ≡ false = is in cc); wrote = h.wrote; taken = r.takes f.0 new f.2 }

  -- what waits was written
  pub writes_on : (HadTaken : Takings T) (more : Bool) (w x y : Known) (old new : T) → IsTakenAt HadTaken known more w x old → Appends x y (ready old)
      → ((bytes given : List ℕ) → HadTaken bytes given old → HasTaken bytes (given ++ ready old) new) → ready new ≡ [] → told new ≡ [] → IsWrittenAt HasTaken ready told known more w y new
  writes_on HadTaken more w x y old new h a takes none quiet = record {
    taken = record {
      text = h.text;
      given = h.given ++ ready old;
      there = h.there;
      whole = h.whole;
      wrote = Appends-trans _ _ _ _ _ h.wrote a;
      taken = takes h.text h.given h.taken;
    };
    none_wait = none;
    none_told = quiet;
  }

  -- ---- faults

  pub due : (IsDue : Dues) (more : Bool) (w x : Known) (t : T) → ((bytes given : List ℕ) → HasTaken bytes given t → told t ≡ [] → IsDue bytes (given ++ ready t))
      → IsWrittenAt HasTaken ready told known more w x t → WroteDueAt IsDue known w x
  due IsDue more w x t law h = record {
    text = h.taken.text;
    output = h.taken.given;
    there = h.taken.there;
    due =
        subst (λ (l : List ℕ). IsDue h.taken.text l) (ap (λ (l : List ℕ). h.taken.given ++ l) h.none_wait ∙ append-nil h.taken.given)
        (law h.taken.text h.taken.given h.taken.taken h.none_told);
    wrote = h.taken.wrote;
  }

  pub in_part : (IsBegun : Dues) (more : Bool) (w x y : Known) (t : T) (output : List ℕ) → ((bytes given : List ℕ) → HasTaken bytes given t → IsBegun bytes (given ++ output))
      → IsTakenAt HasTaken known more w x t → AppendsBeginning x y output → WroteInPartAt IsBegun known w y
  in_part IsBegun more w x y t output law h b = record {
    text = h.text;
    output = h.given ++ output;
    there = h.there;
    of = law h.text h.given h.taken;
    wrote = beginning_behind w x y h.given output h.wrote b;
  }

  -- ---- the end

  pub ends : (IsOutput : Outputs) (w x y : Known) (t : T) (output : List ℕ) (exit : Exit) → ((bytes given : List ℕ) → HasTaken bytes given t → IsOutput bytes (given ++ output) exit)
      → IsTakenAt HasTaken known false w x t → Appends x y output → ReportsAllAt IsOutput known w y exit
  ends IsOutput w x y t output exit law h a = record {
    text = h.text;
    output = h.given ++ output;
    whole = h.whole refl;
    answer = law h.text h.given h.taken;
    wrote = Appends-trans _ _ _ _ _ h.wrote a;
  }

-- ---- faults of a round

pub at_read : {E : Type 0} (P : Type 0) (f : CheckFault E) (reason : E) → f ≡ check.Read reason → IfRead P f → P
at_read P f reason is h = subst (λ (e : CheckFault _). IfRead P e) is h

pub reason_at : {E : Type 0} (may : E → Type 0) (f : CheckFault E) (reason : E) → f ≡ check.Read reason → ReadFailsBy may f → may reason
reason_at may f reason is h = subst (λ (e : CheckFault _). ReadFailsBy may e) is h

module _ {E : Type 0} (IsDue IsBegun : Dues) (known : Known) (may_fail : E → Type 0) (w y : Known) where
  pub never_read : (fault : ReportAtFault E) → AfterFault IsDue IsBegun known (λ _. ⊥) w y fault → AfterFault IsDue IsBegun known may_fail w y fault
  never_read Memory h = h
  never_read (Read reason) h = absurd h.0
  never_read Write h = h

  pub never_read_of : {T : Type 0} (result : Result T (ReportAtFault E)) → IfErr result (AfterFault IsDue IsBegun known (λ _. ⊥) w y) → IfErr result (AfterFault IsDue IsBegun known may_fail w y)
  never_read_of (Ok x) h = tt
  never_read_of (Err fault) h = never_read fault h

  -- what a caller is told
  pub due_after : {T : Type 0} (result : Result T (ReportAtFault E)) → IfErr result (AfterFault IsDue IsBegun known may_fail w y)
      → IfErr result (λ fault. (fault ≡ Write → ⊥) → WroteDueAt IsDue known w y)
  due_after (Ok x) h = tt
  due_after (Err Memory) h = λ _. h
  due_after (Err (Read reason)) h = λ _. h.1
  due_after (Err Write) h = λ never. absurd (never refl)

  pub reason_after : {T : Type 0} (result : Result T (ReportAtFault E)) → IfErr result (AfterFault IsDue IsBegun known may_fail w y) → IfErr result (FailsBy may_fail)
  reason_after (Ok x) h = tt
  reason_after (Err Memory) h = tt
  reason_after (Err (Read reason)) h = h.0
  reason_after (Err Write) h = tt

  pub beginning_after : {T : Type 0} (result : Result T (ReportAtFault E)) → IfErr result (AfterFault IsDue IsBegun known may_fail w y) → result ≡ Err Write → WroteInPartAt IsBegun known w y
  beginning_after result h is = subst (λ (r : Result _ (ReportAtFault E)). IfErr r (AfterFault IsDue IsBegun known may_fail w y)) is h
