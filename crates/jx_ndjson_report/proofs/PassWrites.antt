-- How what passes is written batch by batch, and the report beside it.
use Rattle.std.specs.Prelude.{OnErr, Option, Ok, Err, Result}
use Rattle.std.proofs.Common.{◌≡◌, ℕ, ◌+◌, List, [], ◌++◌, length, arith, sym, ap, subst, ◌∙◌, inl, inr}
use Rattle.std.proofs.Math.Seq.{take-append-add}
use Rattle.std.proofs.lemmas.List.{append-nil, length-append}
use Rattle.std.specs.Io.KnownBytes.{Appends, Consumes, IsAtEnd, Keeps}
use Rattle.std.proofs.KnownBytes.{Appends-trans, Consumes-trans, Consumes-nil, Consumes-kept, Appends-nil}
use Rattle.jx_ends.specs.declared.exit.Exit.{Exit}
use Rattle.jx_ends.specs.Ends.{AppendsBeginning}
use Rattle.jx_ends.proofs.Beginnings.{beginning_behind}
use Rattle.jx_ndjson_report.specs.declared.task.LinesTask.{LinesTask}
use Rattle.jx_ndjson_report.specs.Passed.{IsPassDue, PassOutput}
use Rattle.jx_ndjson_report.specs.PassReports.{AppendsInPart, AppendsUpTo, PassedDue, PassedInPart, PassedLines, PassesAll}
use Rattle.jx_ndjson_report.specs.inside.LinePasser.{HasPassed, LinePasserValue}
use Rattle.jx_ndjson_report.specs.inside.PassSteps.{IsAllPassed, IsPassed, PassesOn, PassesPart}

abbrev Known : Type 0
Known = Option (List ℕ)

-- ---- two writers

-- what is true is so where there is a fault
pub on_err_by : {T E P : Type 0} (r : Result T E) → P → OnErr r P
on_err_by (Ok x) p = tt
on_err_by (Err e) p = p

-- the first one got a beginning, and the other one nothing
pub first_in_part : (w x e : Known) (passed report : List ℕ) → AppendsBeginning w x passed → AppendsInPart w x e e passed report
first_in_part w x e passed report b = inl (b, (0, (omega arith), Appends-nil e))

-- the other one got a beginning
pub other_in_part : (w x e f : Known) (passed report : List ℕ) → Appends w x passed → AppendsBeginning e f report → AppendsInPart w x e f passed report
other_in_part w x e f passed report a b = inr (a, b)

-- behind what was written before
in_part_behind : (w x y e f g : Known) (given more said tells : List ℕ) → Appends w x given → Appends e f said → AppendsInPart x y f g more tells → AppendsInPart w y e g (given ++ more) (said ++ tells)
in_part_behind w x y e f g given more said tells a b (inl p) = inl (beginning_behind w x y given more a p.0, up_to_behind p.1)
  where
    up_to_behind : AppendsUpTo f g tells → AppendsUpTo e g (said ++ tells)
    up_to_behind u = (
      length said + u.0,
      (let l : length (said ++ tells) ≡ length said + length tells = length-append said tells in let h = u.1 in omega (arith, l, h)),
      subst (λ (l : List ℕ). Appends e g l) (sym (take-append-add said tells u.0)) (Appends-trans _ _ _ _ _ b u.2),
    )
in_part_behind w x y e f g given more said tells a b (inr p) = inr (Appends-trans _ _ _ _ _ a p.0, beginning_behind e f g said tells b p.1)

-- ---- batch by batch

module _ (task : LinesTask) where
  abbrev Law : Type 0
  Law = (bytes given said : List ℕ) (p : LinePasserValue) → HasPassed task bytes given said p → IsPassDue task bytes (given ++ p.ready) (said ++ p.teller.ready)

  pub starts : (u w e : Known) (p : LinePasserValue) → HasPassed task [] [] [] p → p.ready ≡ [] → p.teller.ready ≡ [] → IsPassed task u u w w e e p
  starts u w e p h ready told = record {
    text = [];
    given = [];
    said = [];
    read = Consumes-nil u;
    wrote = Appends-nil w;
    says = Appends-nil e;
    taken = h;
    none_wait = ready;
    none_told = told;
  }

  pub goes_on : (u m n w x y e f g : Known) (batch : List ℕ) (old new : LinePasserValue) → IsPassed task u m w x e f old → Consumes m n batch → PassesOn task x y f g batch old new → IsPassed task u n w y e g new
  goes_on u m n w x y e f g batch old new h r s = record {
    text = h.text ++ batch;
    given = h.given ++ s.more;
    said = h.said ++ s.tells;
    read = Consumes-trans _ _ _ _ _ h.read r;
    wrote = Appends-trans _ _ _ _ _ h.wrote s.wrote;
    says = Appends-trans _ _ _ _ _ h.says s.says;
    taken = s.takes h.text h.given h.said h.taken;
    none_wait = s.none_wait;
    none_told = s.none_told;
  }

  pub all_passed : (u m n w x e f : Known) (p : LinePasserValue) → IsPassed task u m w x e f p → Consumes m n [] → IsAtEnd n → IsAllPassed task u n w x e f p
  all_passed u m n w x e f p h r end = (
    record {
      text = h.text;
      given = h.given;
      said = h.said;
      read = subst (λ (l : List ℕ). Consumes u n l) (append-nil h.text) (Consumes-trans _ _ _ _ _ h.read r);
      wrote = h.wrote;
      says = h.says;
      taken = h.taken;
      none_wait = h.none_wait;
      none_told = h.none_told;
    },
    end,
  )

  due_now : Law → (p : LinePasserValue) (text given said : List ℕ) → p.ready ≡ [] → p.teller.ready ≡ [] → HasPassed task text given said p → IsPassDue task text given said
  due_now law p text given said ready told h =
      subst (λ (l : List ℕ). IsPassDue task text l said) (ap (λ (l : List ℕ). given ++ l) ready ∙ append-nil given)
      (subst (λ (l : List ℕ). IsPassDue task text (given ++ p.ready) l) (ap (λ (l : List ℕ). said ++ l) told ∙ append-nil said) (law text given said p h))

  pub due_at_fault : Law → (u m n w x e f : Known) (p : LinePasserValue) → IsPassed task u m w x e f p → Keeps m n → PassedDue task u n w x e f
  due_at_fault law u m n w x e f p h k = record {
    text = h.text;
    passed = h.given;
    report = h.said;
    read = Consumes-kept u m n h.text h.read k;
    due = due_now law p h.text h.given h.said h.none_wait h.none_told h.taken;
    wrote = h.wrote;
    says = h.says;
  }

  pub lines_at_fault : Law → (u m n w x e f : Known) (p : LinePasserValue) (batch : List ℕ) → IsPassed task u m w x e f p → Consumes m n batch → PassedLines task u n w x e f
  lines_at_fault law u m n w x e f p batch h r = record {
    text = h.text;
    more = batch;
    passed = h.given;
    report = h.said;
    read = Consumes-trans _ _ _ _ _ h.read r;
    due = due_now law p h.text h.given h.said h.none_wait h.none_told h.taken;
    wrote = h.wrote;
    says = h.says;
  }

  pub lines_at_end : Law → (u m w x e f : Known) (p : LinePasserValue) → IsPassed task u m w x e f p → PassedLines task u m w x e f
  lines_at_end law u m w x e f p h = lines_at_fault law u m m w x e f p [] h (Consumes-nil m)

  pub part_at_fault : (u m n w x y e f g : Known) (p : LinePasserValue) (batch : List ℕ) → IsPassed task u m w x e f p → Consumes m n batch → PassesPart task x y f g batch p → PassedInPart task u n w y e g
  part_at_fault u m n w x y e f g p batch h r s = record {
    text = h.text ++ batch;
    passed = h.given ++ s.more;
    report = h.said ++ s.tells;
    read = Consumes-trans _ _ _ _ _ h.read r;
    of = inl (s.due h.text h.given h.said h.taken);
    wrote = in_part_behind w x y e f g h.given s.more h.said s.tells h.wrote h.says s.wrote;
  }

  -- ---- the end

  abbrev pub Finishes : LinePasserValue → LinePasserValue → Exit → Type 0
  Finishes old new exit = (bytes given said : List ℕ) → HasPassed task bytes given said old → PassOutput task bytes (given ++ new.ready) (said ++ new.teller.ready) exit

  pub reports : (u n w x y e f g : Known) (old new : LinePasserValue) (exit : Exit) → IsAllPassed task u n w x e f old → Finishes old new exit → Appends x y new.ready → Appends f g new.teller.ready
      → PassesAll task u n w y e g exit
  reports u n w x y e f g old new exit (h, end) ends wrote told = record {
    text = h.text;
    passed = h.given ++ new.ready;
    report = h.said ++ new.teller.ready;
    read = (h.read, end);
    answer = ends h.text h.given h.said h.taken;
    wrote = Appends-trans _ _ _ _ _ h.wrote wrote;
    says = Appends-trans _ _ _ _ _ h.says told;
  }

  pub part_at_end : (u n w x y e f g : Known) (old new : LinePasserValue) (exit : Exit) → IsAllPassed task u n w x e f old → Finishes old new exit → AppendsInPart x y f g new.ready new.teller.ready
      → PassedInPart task u n w y e g
  part_at_end u n w x y e f g old new exit (h, end) ends part = record {
    text = h.text;
    passed = h.given ++ new.ready;
    report = h.said ++ new.teller.ready;
    read = h.read;
    of = inr (exit, ends h.text h.given h.said h.taken);
    wrote = in_part_behind w x y e f g h.given new.ready h.said new.teller.ready h.wrote h.says part;
  }
