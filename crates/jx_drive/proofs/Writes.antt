-- How what is due is written batch by batch.
use Rattle.std.specs.Prelude.{Option, Result, Ok, OnOk}
use Rattle.std.proofs.Common.{◌≡◌, ℕ, List, [], ◌++◌, ap, subst, ◌∙◌}
use Rattle.std.proofs.lemmas.List.{append-nil}
use Rattle.std.specs.Io.KnownBytes.{Appends, Consumes, IsAtEnd, Keeps}
use Rattle.std.proofs.KnownBytes.{Appends-trans, Consumes-trans, Consumes-nil, Consumes-kept, Appends-nil}
use Rattle.jx_ends.specs.declared.exit.Exit.{Exit}
use Rattle.jx_ends.specs.Ends.{AppendsBeginning}
use Rattle.jx_ends.proofs.Beginnings.{beginning_behind}
use Rattle.jx_drive.specs.Reports.{Dues, Outputs, ReportsAll, WroteDue, WroteInPart, WroteLines}
use Rattle.jx_drive.specs.inside.Steps.{IsAllWritten, IsWritten, Takings, WritesOn, WritesPart}

abbrev Known : Type 0
Known = Option (List ℕ)

-- what holds of a result that is no error
pub when_ok : {A E : Type 0} (r : Result A E) (a : A) (P : Type 0) → r ≡ Ok a → OnOk r P → P
when_ok {A} {E} r a P is h = subst (λ (x : Result A E). OnOk x P) is h

module _ {T : Type 0} (HasTaken : Takings T) (ready told : T → List ℕ) where
  pub starts : (u w : Known) (t : T) → HasTaken [] [] t → ready t ≡ [] → told t ≡ [] → IsWritten HasTaken ready told u u w w t
  starts u w t h none quiet = record { text = []; given = []; read = Consumes-nil u; wrote = Appends-nil w; taken = h; none_wait = none; none_told = quiet }

  pub goes_on : (HadTaken : Takings T) (u m n w x y : Known) (batch : List ℕ) (old new : T) → IsWritten HadTaken ready told u m w x old → Consumes m n batch
      → WritesOn HadTaken HasTaken ready told x y batch old new → IsWritten HasTaken ready told u n w y new
  goes_on HadTaken u m n w x y batch old new h r s = record {
    text = h.text ++ batch;
    given = h.given ++ s.more;
    read = Consumes-trans _ _ _ _ _ h.read r;
    wrote = Appends-trans _ _ _ _ _ h.wrote s.wrote;
    taken = s.takes h.text h.given h.taken;
    none_wait = s.none_wait;
    none_told = s.none_told;
  }

  pub all_written : (u m n w x : Known) (t : T) → IsWritten HasTaken ready told u m w x t → Consumes m n [] → IsAtEnd n → IsAllWritten HasTaken ready told u n w x t
  all_written u m n w x t h r end = record {
    text = h.text;
    given = h.given;
    read = (subst (λ (l : List ℕ). Consumes u n l) (append-nil h.text) (Consumes-trans _ _ _ _ _ h.read r), end);
    wrote = h.wrote;
    taken = h.taken;
    none_wait = h.none_wait;
    none_told = h.none_told;
  }

  pub as_written : (u n w x : Known) (t : T) → IsAllWritten HasTaken ready told u n w x t → IsWritten HasTaken ready told u n w x t
  as_written u n w x t h = record { text = h.text; given = h.given; read = h.read.0; wrote = h.wrote; taken = h.taken; none_wait = h.none_wait; none_told = h.none_told }

  -- ---- faults

  -- what was taken is due, where no message waits
  abbrev pub IsLaw : Dues → Type 0
  IsLaw IsDue = (bytes given : List ℕ) (t : T) → HasTaken bytes given t → told t ≡ [] → IsDue bytes (given ++ ready t)

  due_now : (IsDue : Dues) → IsLaw IsDue → (t : T) (text given : List ℕ) → ready t ≡ [] → told t ≡ [] → HasTaken text given t → IsDue text given
  due_now IsDue law t text given none quiet h = subst (λ (l : List ℕ). IsDue text l) (ap (λ (l : List ℕ). given ++ l) none ∙ append-nil given) (law text given t h quiet)

  pub due_at_fault : (IsDue : Dues) → IsLaw IsDue → (u m n w x : Known) (t : T) → IsWritten HasTaken ready told u m w x t → Keeps m n → WroteDue IsDue u n w x
  due_at_fault IsDue law u m n w x t h k = record {
    text = h.text;
    output = h.given;
    read = Consumes-kept u m n h.text h.read k;
    due = due_now IsDue law t h.text h.given h.none_wait h.none_told h.taken;
    wrote = h.wrote;
  }

  pub lines_at_fault : (IsDue : Dues) → IsLaw IsDue → (u m n w x : Known) (t : T) (batch : List ℕ) → IsWritten HasTaken ready told u m w x t → Consumes m n batch → WroteLines IsDue u n w x
  lines_at_fault IsDue law u m n w x t batch h r = record {
    text = h.text;
    more = batch;
    output = h.given;
    read = Consumes-trans _ _ _ _ _ h.read r;
    due = due_now IsDue law t h.text h.given h.none_wait h.none_told h.taken;
    wrote = h.wrote;
  }

  pub lines_at_end : (IsDue : Dues) → IsLaw IsDue → (u m w x : Known) (t : T) → IsWritten HasTaken ready told u m w x t → WroteLines IsDue u m w x
  lines_at_end IsDue law u m w x t h = lines_at_fault IsDue law u m m w x t [] h (Consumes-nil m)

  pub part_at_fault : (IsBegun : Dues) (u m n w x y : Known) (t : T) (batch : List ℕ) → IsWritten HasTaken ready told u m w x t → Consumes m n batch → WritesPart HasTaken IsBegun x y batch t
      → WroteInPart IsBegun u n w y
  part_at_fault IsBegun u m n w x y t batch h r p = record {
    text = h.text ++ batch;
    output = h.given ++ p.more;
    read = Consumes-trans _ _ _ _ _ h.read r;
    of = p.begun h.text h.given h.taken;
    wrote = beginning_behind w x y h.given p.more h.wrote p.wrote;
  }

  -- ---- the end

  pub reports : (IsOutput : Outputs) (u n w x y : Known) (t : T) (more : List ℕ) (exit : Exit) → IsAllWritten HasTaken ready told u n w x t
      → ((bytes given : List ℕ) → HasTaken bytes given t → IsOutput bytes (given ++ more) exit) → Appends x y more → ReportsAll IsOutput u n w y exit
  reports IsOutput u n w x y t more exit h ends wrote = record {
    text = h.text;
    output = h.given ++ more;
    read = h.read;
    answer = ends h.text h.given h.taken;
    wrote = Appends-trans _ _ _ _ _ h.wrote wrote;
  }

  pub part_at_end : (IsBegun : Dues) (u n w x y : Known) (t : T) (more : List ℕ) → IsAllWritten HasTaken ready told u n w x t
      → ((bytes given : List ℕ) → HasTaken bytes given t → IsBegun bytes (given ++ more)) → AppendsBeginning x y more → WroteInPart IsBegun u n w y
  part_at_end IsBegun u n w x y t more h ends wrote = record {
    text = h.text;
    output = h.given ++ more;
    read = h.read.0;
    of = ends h.text h.given h.taken;
    wrote = beginning_behind w x y h.given more h.wrote wrote;
  }
