-- What the record of a run says is the run.
use Rattle.std.proofs.Common.{◌≡◌, ℕ, ◌+◌, ◌^◌, ◌<◌, ◌≤◌, List, [], ◌∷◌, ◌++◌, length, map, Option, None, Some, Result, Ok, Err, refl, sym, ap, subst, ◌∙◌, arith}
use Rattle.std.specs.Prelude.{unwrap_or, IfOk, IfErr}
use Rattle.std.specs.List.{flat_map, AllByRecursion}
use Rattle.std.proofs.lemmas.List.{length-map, reverse-reverse}
use Rattle.std.proofs.lemmas.List.Elements.{recursion_from_All}
use Rattle.jx_reduce.specs.Parts.{borrowed_head, borrowed_structure, borrowed_tail, string_head, structure_of_parts}
use Rattle.jx_reduce.specs.Sound.{IsSound}
use Rattle.jx_reduce.specs.Structure.{StructureValue}
use Rattle.jx_reduce.specs.declared.table.holder.Holder.{Holder}
use Rattle.jx_reduce.specs.declared.forms.parts.RestParts.{RestParts}
use Rattle.jx_reduce.specs.declared.forms.parts.RestRef.{RestRef}
use Rattle.jx_reduce.specs.declared.forms.parts.StructureParts.{StructureParts}
use Rattle.jx_reduce.specs.declared.forms.parts.StructureRef.{StructureRef}
use Rattle.jx_run.specs.OutcomeRun.{OutcomeRunValue, run_of_parts, IsFormWithin, IsOutcomeRun, IsWellFormed}
use Rattle.jx_portion.specs.Fields.{RunFields, StructureFields, behind_fields, behind_seen, run_fields, structure_fields, structure_seen}
use Rattle.jx_portion.specs.Portion.{PortionValue, portion_in, structure_in, IsAnswer, IsMemory, IsPortion, IsRecord, IsRun, IsSpelt, OnlyParts}
use Rattle.jx_run.specs.declared.runs.transition.Transition.{Transition}
use Rattle.jx_portion.specs.declared.fault.DecodeFault.{DecodeFault}
use Rattle.jx_portion.specs.declared.fault.DecodeFault.TheVariants as refused
use Rattle.jx_portion.specs.declared.fault.RunFault.{RunFault}
use Rattle.jx_portion.specs.declared.record.RunParts.{RunParts}
use Rattle.jx_portion.specs.Reading.{record_at, Fails}
use Rattle.jx_portion.proofs.Laws.{IsBytes}
use Rattle.jx_portion.proofs.RecordLaws.{record_again, record_takes}
use Rattle.jx_portion.specs.inside.Said.{fields_at, fields_of, run_said, structure_said, IsSaid}
use Rattle.jx_portion.specs.Spelling.{head, number, run, sealed, several, spelling, structure, AreSpelt, RunFits, StructureFits}

with_opens : Option ℕ → RestRef → List Holder → StructureFields
with_opens string r os = record { string = string; rest = Some (record { mark = r.mark; tail = record { ended = r.tail.ended.now; last = r.tail.last; opens = os; exit = r.tail.exit; heights = r.tail.heights.now } }) }

seen : (string : Option ℕ) (rest : Option RestRef) → fields_at (string_head string ++ borrowed_head rest) (borrowed_tail rest) ≡ record { string = string; rest = behind_seen rest }
unfolding with_opens
seen None None = refl
seen (Some at) None = refl
seen None (Some r) = ap (with_opens None r) (reverse-reverse r.tail.opens.now)
seen (Some at) (Some r) = ap (with_opens (Some at) r) (reverse-reverse r.tail.opens.now)

again : (d : ℕ) (string : Option ℕ) (rest : Option RestRef) → structure_in d (record { string = string; rest = behind_seen rest }) ≡ borrowed_structure d (record { string = string; rest = rest })
again d string None = refl
again d string (Some r) = refl

pub fields_are : (p : StructureRef) (s : StructureValue) → borrowed_structure s.depth p ≡ s → fields_of s ≡ structure_seen p
fields_are p s e = ap fields_of (sym e) ∙ seen p.string p.rest

pub is_said : (p : StructureRef) (s : StructureValue) → borrowed_structure s.depth p ≡ s → IsSound s → StructureFits (structure_seen p) → IsSaid s
is_said p s e sound fits =
    let f = fields_are p s e in
    record { fits = subst StructureFits (sym f) fits; sound = sound; same = ap (structure_in s.depth) f ∙ again s.depth p.string p.rest ∙ e }

pub said_is : (p : StructureRef) (s : StructureValue) → borrowed_structure s.depth p ≡ s → structure (structure_seen p) ≡ structure_said s
said_is p s e = ap structure (sym (fields_are p s e))

flat_map_said : (ss : List StructureValue) → flat_map structure_said ss ≡ flat_map structure (map fields_of ss)
flat_map_said [] = refl
flat_map_said (s ∷ ss) = ap (λ (l : List ℕ). structure_said s ++ l) (flat_map_said ss)

pub several_said : (ss : List StructureValue) → number (length ss) ++ flat_map structure_said ss ≡ several structure (map fields_of ss)
several_said ss = rw (flat_map_said ss, length-map ss fields_of) refl

said_fit_each : (ss : List StructureValue) → AllByRecursion IsSaid ss → AllByRecursion StructureFits (map fields_of ss)
said_fit_each [] h = tt
said_fit_each (s ∷ ss) h = (h.0.fits, said_fit_each ss h.1)

pub said_fit : (ss : List StructureValue) → length ss < 2 ^ 64 → AllByRecursion IsSaid ss → AreSpelt StructureFits (map fields_of ss)
said_fit ss few h = (omega (arith, few, length-map ss fields_of), said_fit_each ss h)

sounds : (ss : List StructureValue) → AllByRecursion IsSaid ss → AllByRecursion IsSound ss
sounds [] h = tt
sounds (s ∷ ss) h = (h.0.sound, sounds ss h.1)

depths : (d start end : ℕ) (ss : List StructureValue) → AllByRecursion (IsFormWithin d start end) ss → AllByRecursion (λ s. s.depth ≡ d) ss
depths d start end [] h = tt
depths d start end (s ∷ ss) h = (h.0.depth, depths d start end ss h.1)

structures_again : (d : ℕ) (ss : List StructureValue) → AllByRecursion (λ s. s.depth ≡ d) ss → AllByRecursion IsSaid ss → map (structure_in d) (map fields_of ss) ≡ ss
structures_again d [] a b = refl
structures_again d (s ∷ ss) a b =
    let e : structure_in d (fields_of s) ≡ s = subst (λ (n : ℕ). structure_in n (fields_of s) ≡ s) a.0 b.0.same in
    ap (λ (x : StructureValue). x ∷ map (structure_in d) (map fields_of ss)) e ∙ ap (λ (xs : List StructureValue). s ∷ xs) (structures_again d ss a.1 b.1)

abbrev with_start : OutcomeRunValue → ℕ → OutcomeRunValue
with_start v n = record { depth = v.depth; start = n; end = v.end; transitions = v.transitions; structures = v.structures }

run_again : (v : OutcomeRunValue) → v.start ≡ 0 → map (structure_in v.depth) (map fields_of v.structures) ≡ v.structures → run_of_parts v.depth v.end v.transitions (map (structure_in v.depth) (map fields_of v.structures)) ≡ v
run_again v start e = ap (run_of_parts v.depth v.end v.transitions) e ∙ ap (λ (n : ℕ). with_start v n) (sym start)

pub encoded : (from : Option ℕ) (v : OutcomeRunValue) (r : List ℕ) → v.start ≡ 0 → IsWellFormed v → unwrap_or from 0 + v.end < 2 ^ 64 → AllByRecursion IsSaid v.structures → RunFits (run_said from v)
    → v.depth ≤ 65535 → 56 + length (run (run_said from v)) < 2 ^ 64 → r ≡ spelling v.depth (run_said from v) → (bytes : List ℕ) → IsOutcomeRun bytes v → IsRecord bytes from v.depth r
encoded from v r start kept place said fits low size spelt bytes is =
    let depths-are = depths v.depth v.start v.end v.structures (recursion_from_All (IsFormWithin v.depth v.start v.end) v.structures kept.within) in
    let same = structures_again v.depth v.structures depths-are said in
    let whole = run_again v start same in
    record {
      fields = run_said from v;
      is = record { from_is = refl; depth_is = refl; run_is = subst (IsOutcomeRun bytes) (sym whole) is };
      spelt = record {
        run_is = record { structures = subst (AllByRecursion IsSound) (sym same) (sounds v.structures said); run = subst IsWellFormed (sym whole) kept; place = place };
        fits = fits;
        depth = low;
        size = size;
        spelt = spelt;
      };
    }

pub record_is : (p : PortionValue) (v : OutcomeRunValue) (b r : List ℕ) (d0 : ℕ) → v.start ≡ p.run.start → v.end ≡ p.run.end → v.depth ≡ p.run.depth → ((bytes : List ℕ) → IsOutcomeRun bytes p.run → IsOutcomeRun bytes v) → IsWellFormed v
    → p.run.start ≡ 0 → unwrap_or p.from 0 + p.run.end < 2 ^ 64 → AllByRecursion IsSaid v.structures → RunFits (run_said p.from v) → b ≡ run (run_said p.from v) → d0 ≡ v.depth → d0 ≤ 65535 → 56 + length b < 2 ^ 64
    → r ≡ sealed (head (56 + length b) d0 ++ b) → (bytes : List ℕ) (f : Option ℕ) (d : ℕ) → IsPortion bytes f d p → IsRecord bytes f d r
record_is p v b r d0 start end depth of kept zero-start place said fits b-is d0-is low size r-is bytes f d is =
    let body = run (run_said p.from v) in
    let spelt : r ≡ spelling v.depth (run_said p.from v) = r-is ∙ ap (λ (t : List ℕ). sealed (head (56 + length t) d0 ++ t)) b-is ∙ ap (λ (n : ℕ). sealed (head (56 + length body) n ++ body)) d0-is in
    let one : IsRecord bytes p.from v.depth r = encoded p.from v r (start ∙ zero-start) kept (subst (λ (n : ℕ). unwrap_or p.from 0 + n < 2 ^ 64) (sym end) place) said fits
    (subst (λ (n : ℕ). n ≤ 65535) d0-is low) (subst (λ (t : List ℕ). 56 + length t < 2 ^ 64) b-is size) spelt bytes (of bytes is.run_is) in
    subst (λ (x : Option ℕ). IsRecord bytes x d r) is.from_is (subst (λ (n : ℕ). IsRecord bytes p.from n r) (depth ∙ is.depth_is) one)

-- ---- parts that were read

parts_again : (d : ℕ) (string : Option ℕ) (rest : Option RestParts) → structure_in d (record { string = string; rest = behind_fields rest }) ≡ structure_of_parts d (record { string = string; rest = rest })
parts_again d string None = refl
parts_again d string (Some r) = refl

pub parts_are : (d : ℕ) (ps : List StructureParts) → map (structure_in d) (map structure_fields ps) ≡ map (structure_of_parts d) ps
parts_are d [] = refl
parts_are d (p ∷ ps) = ap (λ (x : StructureValue). x ∷ map (structure_in d) (map structure_fields ps)) (parts_again d p.string p.rest) ∙ ap (λ (xs : List StructureValue). structure_of_parts d p ∷ xs) (parts_are d ps)

abbrev pub with_from : Option ℕ → OutcomeRunValue → PortionValue
with_from from v = record { from = from; run = v }

pub read_is : (d : ℕ) (from : Option ℕ) (end : ℕ) (transitions : List Transition) (ps : List StructureParts) (ss : List StructureValue) (v : OutcomeRunValue) → ss ≡ map (structure_of_parts d) ps → AllByRecursion IsSound ss
    → IsWellFormed (run_of_parts d end transitions ss) → v ≡ run_of_parts d end transitions ss → unwrap_or from 0 + end < 2 ^ 64
    → (with_from from v ≡ portion_in d (record { from = from; end = end; transitions = transitions; structures = map structure_fields ps })) × IsRun d (record { from = from; end = end; transitions = transitions; structures = map structure_fields ps })
read_is d from end transitions ps ss v e sound kept v-is place =
    let same : ss ≡ map (structure_in d) (map structure_fields ps) = e ∙ sym (parts_are d ps) in
    (ap (with_from from) (v-is ∙ ap (run_of_parts d end transitions) same), record { structures = subst (AllByRecursion IsSound) same sound; run = subst (λ (l : List StructureValue). IsWellFormed (run_of_parts d end transitions l)) same kept; place = place })

pub only_weaker : (e : DecodeFault) (P Q : Type 0) → (Q → P) → OnlyParts e P → OnlyParts e Q
only_weaker refused.Memory P Q f h = tt
only_weaker (refused.Fault g) P Q f h = (h.0, λ q. h.1 (f q))

pub sound_again : (d : ℕ) (r : RunParts) → IsRun d (run_fields r) → AllByRecursion IsSound (map (structure_of_parts d) r.structures.items)
sound_again d r h = subst (AllByRecursion IsSound) (parts_are d r.structures.items) h.structures

pub kept_again : (d : ℕ) (r : RunParts) (ss : List StructureValue) → ss ≡ map (structure_of_parts d) r.structures.items → IsRun d (run_fields r) → IsWellFormed (run_of_parts d r.end r.transitions.items ss)
kept_again d r ss e h = subst (λ (l : List StructureValue). IsWellFormed (run_of_parts d r.end r.transitions.items l)) (parts_are d r.structures.items ∙ sym e) h.run

-- ---- what reading a record answers

pub answered : (r : Result PortionValue DecodeFault) (x : ℕ × RunFields) → IfOk r (λ p. (p ≡ portion_in x.0 x.1) × IsRun x.0 x.1) → IfErr r (λ e. OnlyParts e (IsRun x.0 x.1)) → IsAnswer r (Ok x)
answered (Ok p) x made fault = made
answered (Err refused.Memory) x made fault = tt
answered (Err (refused.Fault f)) x made fault = fault

pub refused_is : (e : DecodeFault) (x : Result (ℕ × RunFields) RunFault) → Fails e x → IsAnswer (Err e) x
refused_is refused.Memory x h = tt
refused_is (refused.Fault f) x h = subst (IsAnswer (Err (refused.Fault f))) (sym h) refl

found_by : (bytes : List ℕ) (r : Result PortionValue DecodeFault) (total : Result (ℕ × RunFields) RunFault) → IsBytes bytes → record_at bytes ≡ total → IsAnswer r total
    → IfOk r (λ p. (d : ℕ) × (x : RunFields) × (p ≡ portion_in d x) × IsSpelt d x bytes)
found_by bytes (Ok p) (Ok x) bs e h =
    let t = record_takes bytes x bs e in
    (x.0, x.1, h.0, record { run_is = h.1; fits = t.fits; depth = t.depth; size = t.size; spelt = t.parts })
found_by bytes (Ok p) (Err f) bs e h = absurd h
found_by bytes (Err f) total bs e h = tt

pub is_found : (bytes : List ℕ) (r : Result PortionValue DecodeFault) → IsBytes bytes → IsAnswer r (record_at bytes) → IfOk r (λ p. (d : ℕ) × (x : RunFields) × (p ≡ portion_in d x) × IsSpelt d x bytes)
is_found bytes r bs h = found_by bytes r (record_at bytes) bs refl h

pub is_only : (bytes : List ℕ) (r : Result PortionValue DecodeFault) → IsAnswer r (record_at bytes) → (d : ℕ) (x : RunFields) → IsSpelt d x bytes → IsAnswer r (Ok (d, x))
is_only bytes r h d x s =
    let few : length x.structures ≤ 32 = omega (arith, s.run_is.run.few, length-map x.structures (structure_in d)) in
    subst (IsAnswer r) (ap record_at s.spelt ∙ record_again d x s.depth few s.fits s.size) h

portion_of : (r : Result PortionValue DecodeFault) (d : ℕ) (x : RunFields) (xs : List ℕ) (f : Option ℕ) → IsAnswer r (Ok (d, x)) → IsPortion xs f d (portion_in d x) → IfOk r (IsPortion xs f d)
portion_of (Ok p) d x xs f h is = subst (IsPortion xs f d) (sym h.0) is
portion_of (Err e) d x xs f h is = tt

memory_of : (r : Result PortionValue DecodeFault) (d : ℕ) (x : RunFields) → IsAnswer r (Ok (d, x)) → IsRun d x → IfErr r IsMemory
memory_of (Ok p) d x h is = tt
memory_of (Err refused.Memory) d x h is = tt
memory_of (Err (refused.Fault f)) d x h is = absurd (h.1 is)

pub is_read : (bytes : List ℕ) (r : Result PortionValue DecodeFault) → IsAnswer r (record_at bytes) → (xs : List ℕ) (f : Option ℕ) (d : ℕ) → IsRecord xs f d bytes → IfOk r (IsPortion xs f d)
is_read bytes r h xs f d s = portion_of r d s.fields xs f (is_only bytes r h d s.fields s.spelt) s.is

pub is_not_refused : (bytes : List ℕ) (r : Result PortionValue DecodeFault) → IsAnswer r (record_at bytes) → (xs : List ℕ) (f : Option ℕ) (d : ℕ) → IsRecord xs f d bytes → IfErr r IsMemory
is_not_refused bytes r h xs f d s = memory_of r d s.fields (is_only bytes r h d s.fields s.spelt) s.spelt.run_is

sound_at : (d : ℕ) (before : List StructureParts) (p : StructureParts) (after : List StructureParts) → AllByRecursion IsSound (map (structure_of_parts d) (before ++ p ∷ after)) → IsSound (structure_of_parts d p)
sound_at d [] p after h = h.0
sound_at d (b ∷ bs) p after h = sound_at d bs p after h.1

pub not_all : (d : ℕ) (before : List StructureParts) (p : StructureParts) (after all : List StructureParts) → before ++ p ∷ after ≡ all → (IsSound (structure_of_parts d p) → ⊥) → AllByRecursion IsSound (map (structure_of_parts d) all) → ⊥
not_all d before p after all e unsound h = unsound (sound_at d before p after (subst (λ (l : List StructureParts). AllByRecursion IsSound (map (structure_of_parts d) l)) (sym e) h))
