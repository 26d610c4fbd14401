-- Why the next record of a stream is not taken.
use Rattle.std.proofs.Common.{◌≡◌, ◌≢◌, ℕ, ◌+◌, ◌<◌, ◌≤◌, List, [], ◌++◌, length, take, Option, None, Some, Result, Ok, Err, refl, sym, ap, ◌∙◌, subst, ⊎_elim, arith, append-nil, is_some}
use Rattle.std.specs.Prelude.{unwrap_or}
use lib.Seq.{take-append_seam}
use Rattle.std.proofs.Math.Nat.{eq-or-lt_of_le}
use Rattle.std.proofs.lemmas.List.{take_all}
use Rattle.std.specs.List.{concat}
use Rattle.std.specs.Io.KnownBytes.{Consumes, IsAtEnd}
use Rattle.jx_portion.specs.declared.fault.DecodeFault.{DecodeFault}
use Rattle.jx_portion.specs.declared.fault.DecodeFault.TheVariants as decoding
use Rattle.jx_portion.specs.declared.fault.RunFault.{RunFault}
use Rattle.jx_portion.specs.declared.portion.Mismatch.{Mismatch}
use Rattle.jx_portion.specs.declared.portion.Mismatch.TheVariants.{Depths, Froms, Place}
use Rattle.jx_portion.specs.Fields.{RunFields}
use Rattle.jx_portion.specs.Portion.{end_of, portion_in, start_of, Adjoin, IsAnswer, IsMismatch, PortionValue}
use Rattle.jx_portion.specs.Reading.{head_at, record_at, Fails}
use Rattle.jx_ends.specs.declared.report_fault.ReportFault.TheVariants.{Memory}
use Rattle.jx_parts.specs.declared.parts_fault.PartsFault.{PartsFault}
use Rattle.jx_parts.specs.declared.parts_fault.PartsFault.TheVariants.{Report, NoRuns, Run, Elsewhere}
use Rattle.jx_parts.specs.declared.parts_fault.RunRefusal.{RunRefusal}
use Rattle.jx_parts.specs.declared.parts_fault.RunRefusal.TheVariants.{Misplaced, NoFrom}
use Rattle.jx_parts.specs.Records.{no_run}
use Rattle.jx_parts.specs.Refusals.{alone, first_without_from, misplaced, no_head, no_parts, refusal_of, unreadable, without_from, IsBehind, IsJoinFault, IsNoHead, IsNoRecord, IsNoRun, IsRefused}
use Rattle.jx_parts.specs.inside.Reading.{fault_of_run, first_is_without, is_without, not_behind, too_long, AreCounted, IsApart, IsFaultOf, IsTaken}
use Rattle.jx_parts.proofs.RecordSteps.{taken_run}

-- ---- what a reader had

-- what it has left of known bytes
pub left_over : (known : Option (List ℕ)) (stream bytes : List ℕ) (left : Option (List ℕ)) → known ≡ Some stream → Consumes known left bytes → (rest : List ℕ) × (left ≡ Some rest) × (stream ≡ bytes ++ rest)
left_over known stream bytes None e c = absurd (subst (λ (o : Option (List ℕ)). Consumes o None bytes) e c)
left_over known stream bytes (Some rest) e c = (rest, refl, subst (λ (o : Option (List ℕ)). Consumes o (Some rest) bytes) e c)

at_end : (left : Option (List ℕ)) (rest : List ℕ) → left ≡ Some rest → IsAtEnd left → rest ≡ []
at_end left rest e end = subst IsAtEnd e end

-- so many bytes, or all that there were
pub taken_up_to : (limit : ℕ) (known : Option (List ℕ)) (stream bytes : List ℕ) (left : Option (List ℕ)) → known ≡ Some stream → Consumes known left bytes → length bytes ≤ limit
    → (length bytes < limit → IsAtEnd left) → bytes ≡ take limit stream
taken_up_to limit known stream bytes left e c within end =
    let over = left_over known stream bytes left e c in
    let rest = over.0 in
    let short : length bytes < limit → bytes ≡ take limit stream = λ less.
    let none : rest ≡ [] = at_end left rest over.1 (end less) in
    let whole : stream ≡ bytes = over.2 ∙ ap (λ l. bytes ++ l) none ∙ append-nil bytes in
    sym (ap (take limit) whole ∙ take_all limit bytes (omega arith)) in
    let long : length bytes ≡ limit → bytes ≡ take limit stream = λ same.
    sym (ap (take limit) over.2 ∙ ap (λ n. take n (bytes ++ rest)) (sym same) ∙ take-append_seam bytes rest) in
    ⊎_elim long short (eq-or-lt_of_le within)

-- ---- a record by itself

pub head_refused : (it : DecodeFault) (number depth : ℕ) (head : List ℕ) → Fails it (head_at head) → IsFaultOf number (IsNoHead depth head) (fault_of_run it number)
head_refused decoding.Memory number depth head e = tt
head_refused (decoding.Fault it) number depth head e = (refl, no_head it e refl)

refused_by : (reading : Result (ℕ × RunFields) RunFault) (bytes : List ℕ) (it : RunFault) (number : ℕ) → record_at bytes ≡ reading → IsAnswer (Err (decoding.Fault it)) reading → IsNoRun bytes (refusal_of it)
refused_by (Ok x) bytes it number e answer = no_parts x.0 x.1 e answer.1 (ap refusal_of answer.0)
refused_by (Err g) bytes it number e answer = unreadable it (e ∙ ap Err answer) refl

pub record_refused : (it : DecodeFault) (number : ℕ) (bytes : List ℕ) → IsAnswer (Err it) (record_at bytes) → IsFaultOf number (IsNoRun bytes) (fault_of_run it number)
record_refused decoding.Memory number bytes answer = tt
record_refused (decoding.Fault it) number bytes answer = (refl, refused_by (record_at bytes) bytes it number refl answer)

pub fault_for : (number : ℕ) (P Q : RunRefusal → Type 0) (it : PartsFault) → ((why : RunRefusal) → P why → Q why) → IsFaultOf number P it → IsFaultOf number Q it
fault_for number P Q (Report f) goes is = tt
fault_for number P Q NoRuns goes is = absurd is
fault_for number P Q (Run n why) goes is = (is.0, goes why is.1)
fault_for number P Q (Elsewhere a b c d) goes is = absurd is

-- ---- a record behind others

pub joins_by : (depth : ℕ) (stream rest : List ℕ) (number : ℕ) (from : Option ℕ) (count : ℕ) (it : PartsFault) → IsBehind depth from count number stream rest
    → IsFaultOf number (λ why. (rest ≢ []) × IsNoRecord depth rest why) it → IsJoinFault depth stream it
joins_by depth stream rest number from count (Report f) behind is = tt
joins_by depth stream rest number from count NoRuns behind is = absurd is
joins_by depth stream rest number from count (Run n why) behind is =
    subst (λ k. IsRefused depth stream k why) (sym is.0) (alone from count rest behind is.1.0 is.1.1)
joins_by depth stream rest number from count (Elsewhere a b c d) behind is = absurd is

pub in_front : (depth : ℕ) (stream : List ℕ) → IsBehind depth None 0 0 stream stream
in_front depth stream = record { records = []; runs = no_run; counted = refl; whole = refl }

-- what stands behind the runs that were taken
pub behind_taken : (depth number : ℕ) (known left : Option (List ℕ)) (p : PortionValue) (stream : List ℕ) → known ≡ Some stream → AreCounted depth number known left p
    → (rest : List ℕ) × (left ≡ Some rest) × IsBehind depth p.from p.run.end number stream rest
behind_taken depth number known left p stream e are =
    let over = left_over known stream (concat are.taken.records) left e are.taken.read in
    (over.0, over.1, record { records = are.taken.records; runs = are.taken.runs; counted = are.counted; whole = over.2 })

from_of : (depth : ℕ) (p : PortionValue) (fields : RunFields) → p ≡ portion_in depth fields → fields.from ≡ p.from
from_of depth p fields e = sym (ap (λ (v : PortionValue). v.from) e)

some_counted : (depth number : ℕ) (known left : Option (List ℕ)) (p : PortionValue) → AreCounted depth number known left p → 0 < number
some_counted depth number known left p are = subst (λ n. 0 < n) (sym are.counted) are.taken.some

pub joins_apart : (depth number : ℕ) (known mid left : Option (List ℕ)) (p q : PortionValue) (stream : List ℕ) (it : PartsFault) → known ≡ Some stream → AreCounted depth number known mid p
    → IsTaken depth mid left q → IsApart p q number it → IsJoinFault depth stream it
joins_apart depth number known mid left p q stream it e are next (too_long is) = subst (IsJoinFault depth stream) (sym is) tt
joins_apart depth number known mid left p q stream it e are next (not_behind start at first second apart is) =
    let behind = behind_taken depth number known mid p stream e are in
    let over = left_over mid behind.0 next.bytes left behind.1 next.cut.read in
    let run = taken_run depth next.bytes q next.cut.deep next.said in
    let there : IsBehind depth (Some start) p.run.end number stream (next.bytes ++ over.0) =
    subst (λ (f : Option ℕ). IsBehind depth f p.run.end number stream (next.bytes ++ over.0)) first (subst (IsBehind depth p.from p.run.end number stream) over.2 behind.2) in
    subst (IsJoinFault depth stream) (sym is)
    (misplaced start p.run.end at next.bytes over.0 run.0 there (some_counted depth number known mid p are) run.2 (from_of depth q run.0 run.1 ∙ second) apart refl)
joins_apart depth number known mid left p q stream it e are next (is_without start first second is) =
    let behind = behind_taken depth number known mid p stream e are in
    let over = left_over mid behind.0 next.bytes left behind.1 next.cut.read in
    let run = taken_run depth next.bytes q next.cut.deep next.said in
    let there : IsBehind depth (Some start) p.run.end number stream (next.bytes ++ over.0) =
    subst (λ (f : Option ℕ). IsBehind depth f p.run.end number stream (next.bytes ++ over.0)) first (subst (IsBehind depth p.from p.run.end number stream) over.2 behind.2) in
    subst (IsJoinFault depth stream) (sym is)
    (without_from start p.run.end next.bytes over.0 run.0 there (some_counted depth number known mid p are) run.2 (from_of depth q run.0 run.1 ∙ second) refl)
joins_apart depth number known mid left p q stream it e are next (first_is_without at first second is) =
    let behind = behind_taken depth number known mid p stream e are in
    let over = left_over mid behind.0 next.bytes left behind.1 next.cut.read in
    let run = taken_run depth next.bytes q next.cut.deep next.said in
    let there : IsBehind depth None p.run.end number stream (next.bytes ++ over.0) =
    subst (λ (f : Option ℕ). IsBehind depth f p.run.end number stream (next.bytes ++ over.0)) first (subst (IsBehind depth p.from p.run.end number stream) over.2 behind.2) in
    subst (IsJoinFault depth stream) (sym is)
    (first_without_from p.run.end at number next.bytes over.0 run.0 there (some_counted depth number known mid p are) run.2 (from_of depth q run.0 run.1 ∙ second) refl refl)

-- ---- portions of the same depth that do not meet

pub apart_too_long : (p q : PortionValue) (number : ℕ) → IsApart p q number (Report Memory)
apart_too_long p q number = too_long refl

pub apart_depths : (p q : PortionValue) (number : ℕ) (m : Mismatch) (it : PartsFault) → IsMismatch p q m → p.run.depth ≡ q.run.depth → m ≡ Depths → IsApart p q number it
apart_depths p q number m it is same e = absurd (subst (IsMismatch p q) e is same)

place_at : (p q : PortionValue) (number at due : ℕ) (f g : Option ℕ) → p.from ≡ f → q.from ≡ g → is_some f ≡ is_some g → (Adjoin p q f g → ⊥) → at ≡ unwrap_or g 0 → due ≡ unwrap_or f 0 + p.run.end
    → IsApart p q number (Run number (Misplaced at due))
place_at p q number at due None None pf qf both why at_is due_is = absurd (why tt)
place_at p q number at due None (Some a) pf qf both why at_is due_is = absurd cc
place_at p q number at due (Some s) None pf qf both why at_is due_is = absurd cc
place_at p q number at due (Some s) (Some a) pf qf both why at_is due_is =
    not_behind s a pf qf why (ap (λ (x : ℕ). Run number (Misplaced x due)) at_is ∙ ap (λ (y : ℕ). Run number (Misplaced a y)) due_is)

pub apart_place : (p q : PortionValue) (number at due : ℕ) (m : Mismatch) → IsMismatch p q m → m ≡ Place → at ≡ start_of q → due ≡ end_of p → IsApart p q number (Run number (Misplaced at due))
apart_place p q number at due m is e at_is due_is =
    let why = subst (IsMismatch p q) e is in
    place_at p q number at due p.from q.from refl refl why.1 why.2 at_is due_is

first_at : (p q : PortionValue) (number a : ℕ) (f : Option ℕ) → p.from ≡ f → q.from ≡ Some a → is_some f ≢ is_some q.from → IsApart p q number (Run 0 NoFrom)
first_at p q number a None pf qf why = first_is_without a pf qf refl
first_at p q number a (Some s) pf qf why = absurd (why (sym (ap is_some qf)))

pub apart_first : (p q : PortionValue) (number a : ℕ) (m : Mismatch) → IsMismatch p q m → m ≡ Froms → q.from ≡ Some a → IsApart p q number (Run 0 NoFrom)
apart_first p q number a m is e qf = let why = subst (IsMismatch p q) e is in first_at p q number a p.from refl qf why.1

next_at : (p q : PortionValue) (number : ℕ) (f : Option ℕ) → p.from ≡ f → q.from ≡ None → is_some f ≢ is_some q.from → IsApart p q number (Run number NoFrom)
next_at p q number None pf qf why = absurd (why (sym (ap is_some qf)))
next_at p q number (Some s) pf qf why = is_without s pf qf refl

pub apart_next : (p q : PortionValue) (number : ℕ) (m : Mismatch) → IsMismatch p q m → m ≡ Froms → q.from ≡ None → IsApart p q number (Run number NoFrom)
apart_next p q number m is e qf = let why = subst (IsMismatch p q) e is in next_at p q number p.from refl qf why.1
