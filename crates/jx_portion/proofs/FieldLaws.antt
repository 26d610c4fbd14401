-- The fields of a record: what is read is spelt so, and what is spelt so is read.
use Rattle.std.proofs.Common.{◌≡◌, ℕ, zero, suc, ◌≤◌, Bool, true, false, cond, eqb, ltb, List, [], ◌∷◌, ◌++◌, length, Some, Ok, Err, refl, sym, ap, subst, ◌∙◌, append_assoc}
use Rattle.std.specs.Prelude.{slice_get}
use Rattle.std.specs.List.{flat_map}
use Rattle.std.proofs.lemmas.Bool.{eqb-true, le-ltb}
use Rattle.std.proofs.lemmas.List.{append-nil, nil_from_length}
use Rattle.jx_lex.specs.Ordinal.{all_states, ordinal}
use Rattle.jx_lex.proofs.StateOrder.{state-at}
use Rattle.jx_lex.specs.declared.alphabet.lex_exit.LexExit.{LexExit}
use Rattle.jx_lex.specs.declared.alphabet.lex_exit.LexExit.TheVariants as exits
use Rattle.jx_lex.specs.declared.alphabet.mark.MarkKind.{MarkKind}
use Rattle.jx_lex.specs.declared.alphabet.mark.MarkKind.TheVariants as kind
use Rattle.jx_reduce.specs.declared.table.holder.Holder.{Holder}
use Rattle.jx_reduce.specs.declared.table.holder.Holder.TheVariants as holder
use Rattle.jx_reduce.specs.declared.forms.entry.Entry.{Entry}
use Rattle.jx_reduce.specs.declared.forms.entry.Entry.TheVariants as entry
use Rattle.jx_portion.specs.declared.fault.Field.TheVariants as field
use Rattle.jx_portion.specs.declared.fault.RunFault.{RunFault}
use Rattle.jx_portion.specs.declared.fault.RunFault.TheVariants.{Malformed}
use Rattle.jx_portion.specs.Choices.{entries, holders, holder_number, kinds, kind_number}
use Rattle.jx_portion.specs.Fields.{FormFields, RunFields, StructureFields}
use Rattle.jx_portion.specs.Reading.{◌>>=◌, ended_at, entry_at, exit_at, form_at, holder_at, kind_at, level_at, many_at, mark_at, number_at, optional_at, rest_at, run_at, several_at, state_at, structure_at, structures_at, transition_at}
use Rattle.jx_portion.specs.Spelling as spelt
use Rattle.jx_portion.specs.Spelling.{number, optional, several, AreSpelt, IfThere, Any, IsNumber, EndedFits, ExitFits, FormFits, LevelFits, MarkFits, RestFits, RunFits, StructureFits, TransitionFits}
use Rattle.jx_reduce.specs.Entries.{place}
use Rattle.jx_portion.proofs.Laws.{IsBytes, Law, Took, bind_ok, choice_law, guard_err, in_front, many_again, number_law, ok_is, optional_law, several_law, three, two}

-- ---- choices

kind-at : (k : MarkKind) → slice_get kinds (kind_number k) ≡ Some k
kind-at kind.OpenArray = refl
kind-at kind.CloseArray = refl
kind-at kind.OpenObject = refl
kind-at kind.CloseObject = refl
kind-at kind.Colon = refl
kind-at kind.Comma = refl
kind-at kind.String = refl
kind-at kind.Number = refl
kind-at kind.True = refl
kind-at kind.False = refl
kind-at kind.Null = refl

holder-at : (h : Holder) → slice_get holders (holder_number h) ≡ Some h
holder-at holder.Array = refl
holder-at holder.Object = refl
holder-at holder.Bottom = refl

entry-at : (e : Entry) → slice_get entries (place e) ≡ Some e
entry-at entry.Value = refl
entry-at entry.ArrayFirst = refl
entry-at entry.ObjectFirst = refl
entry-at entry.Name = refl
entry-at entry.Colon = refl
entry-at entry.After = refl
entry-at entry.ValueOrName = refl
entry-at entry.AfterOrColon = refl

kind_law : Law (λ k. kind_number k ∷ []) kind_at Any
kind_law = choice_law kind_number kinds field.Mark (refl, (refl, (refl, (refl, (refl, (refl, (refl, (refl, (refl, (refl, (refl, tt))))))))))) kind-at

holder_law : Law spelt.holder holder_at Any
holder_law = choice_law holder_number holders field.Container (refl, (refl, (refl, tt))) holder-at

entry_law : Law spelt.entry entry_at Any
entry_law = choice_law place entries field.Entry (refl, (refl, (refl, (refl, (refl, (refl, (refl, (refl, tt)))))))) entry-at

state_law : Law (λ s. ordinal s ∷ []) state_at Any
state_law = choice_law ordinal all_states field.State
    (refl, (refl, (refl, (refl, (refl, (refl, (refl, (refl, (refl, (refl, (refl, (refl, (refl, (refl, (refl, (refl, (refl, (refl, (refl, (refl, (refl, (refl, (refl, (refl, (refl, (refl, (refl, (refl, (refl, (refl, (refl, (refl, tt)))))))))))))))))))))))))))))))) state-at

-- ---- fields of numbers and choices

maybe_number : Law (optional number) (optional_at number_at) (IfThere IsNumber)
maybe_number = optional_law number number_at IsNumber number_law

level_law : Law spelt.level level_at LevelFits
unfolding level_at
level_law = three (optional number) (optional_at number_at) (IfThere IsNumber) (optional number) (optional_at number_at) (IfThere IsNumber) (optional number) (optional_at number_at) (IfThere IsNumber)
    maybe_number maybe_number maybe_number (λ a o b. record { array = a; object = o; bottom = b }) (λ l. l.array) (λ l. l.object) (λ l. l.bottom) (λ l. refl) (λ a o b. refl) (λ a o b. refl) (λ a o b. refl)

ended_law : Law spelt.ended ended_at EndedFits
unfolding ended_at
ended_law = three (optional number) (optional_at number_at) (IfThere IsNumber) (optional number) (optional_at number_at) (IfThere IsNumber) number number_at IsNumber
    maybe_number maybe_number number_law (λ a o b. record { array = a; object = o; bottom = b }) (λ l. l.array) (λ l. l.object) (λ l. l.bottom) (λ l. refl) (λ a o b. refl) (λ a o b. refl) (λ a o b. refl)

mark_law : Law spelt.mark mark_at MarkFits
unfolding mark_at
mark_law = two (λ k. kind_number k ∷ []) kind_at Any number number_at IsNumber kind_law number_law (λ k n. record { kind = k; at = n }) (λ m. m.kind) (λ m. m.at) (λ m. refl) (λ k n. refl) (λ k n. refl)

exit_takes : (bytes : List ℕ) (x : LexExit × List ℕ) → IsBytes bytes → exit_at bytes ≡ Ok x → Took spelt.exit ExitFits bytes x
unfolding exit_at
exit_takes [] x bs e = absurd cc
exit_takes (zero ∷ bytes) x bs e =
    let b = bind_ok (state_at bytes) (λ s. Ok (exits.State s.0, s.1)) x e in
    let t = state_law.takes bytes b.0 (λ i. bs (suc i)) b.1 in
    subst (λ (y : LexExit × List ℕ). Took spelt.exit ExitFits (0 ∷ bytes) y) (ok_is (exits.State b.0.0, b.0.1) x b.2) (ap (λ (w : List ℕ). 0 ∷ w) t.0, t.1, tt)
exit_takes (suc zero ∷ bytes) x bs e =
    let b = bind_ok (number_at bytes) (λ n. Ok (exits.Fault n.0, n.1)) x e in
    let t = number_law.takes bytes b.0 (λ i. bs (suc i)) b.1 in
    subst (λ (y : LexExit × List ℕ). Took spelt.exit ExitFits (1 ∷ bytes) y) (ok_is (exits.Fault b.0.0, b.0.1) x b.2) (ap (λ (w : List ℕ). 1 ∷ w) t.0, t.1, t.2)
exit_takes (suc (suc b) ∷ bytes) x bs e = absurd cc

exit_again : (x : LexExit) (rest : List ℕ) → ExitFits x → exit_at (spelt.exit x ++ rest) ≡ Ok (x, rest)
unfolding exit_at
exit_again (exits.State s) rest h = rw (state_law.again s rest tt) refl
exit_again (exits.Fault at) rest h = rw (number_law.again at rest h) refl

exit_law : Law spelt.exit exit_at ExitFits
exit_law = record { takes = exit_takes; again = exit_again }

transition_law : Law spelt.transition transition_at TransitionFits
unfolding transition_at
transition_law = two spelt.exit exit_at ExitFits number number_at IsNumber exit_law number_law (λ e n. record { exit = e; structure = n }) (λ w. w.exit) (λ w. w.structure) (λ w. refl) (λ e n. refl) (λ e n. refl)

-- ---- forms and structures

ended_list : Law (several spelt.ended) (several_at ended_at) (AreSpelt EndedFits)
ended_list = several_law spelt.ended ended_at EndedFits ended_law

holder_list : Law (several spelt.holder) (several_at holder_at) (AreSpelt Any)
holder_list = several_law spelt.holder holder_at Any holder_law

maybe_entry : Law (optional spelt.entry) (optional_at entry_at) (IfThere Any)
maybe_entry = optional_law spelt.entry entry_at Any entry_law

number_list : Law (several number) (several_at number_at) (AreSpelt IsNumber)
number_list = several_law number number_at IsNumber number_law

form_takes : (bytes : List ℕ) (x : FormFields × List ℕ) → IsBytes bytes → form_at bytes ≡ Ok x → Took spelt.form FormFits bytes x
unfolding form_at
form_takes bytes x bs e =
    let a = bind_ok (several_at ended_at bytes) (λ ended. level_at ended.1 >>= λ last. several_at holder_at last.1 >>= λ opens. optional_at entry_at opens.1 >>= λ exit. several_at number_at exit.1 >>= λ heights.
    Ok (record { ended = ended.0; last = last.0; opens = opens.0; exit = exit.0; heights = heights.0 }, heights.1)) x e in
    let b = bind_ok (level_at a.0.1) (λ last. several_at holder_at last.1 >>= λ opens. optional_at entry_at opens.1 >>= λ exit. several_at number_at exit.1 >>= λ heights.
    Ok (record { ended = a.0.0; last = last.0; opens = opens.0; exit = exit.0; heights = heights.0 }, heights.1)) x a.2 in
    let c = bind_ok (several_at holder_at b.0.1) (λ opens. optional_at entry_at opens.1 >>= λ exit. several_at number_at exit.1 >>= λ heights.
    Ok (record { ended = a.0.0; last = b.0.0; opens = opens.0; exit = exit.0; heights = heights.0 }, heights.1)) x b.2 in
    let d = bind_ok (optional_at entry_at c.0.1) (λ exit. several_at number_at exit.1 >>= λ heights.
    Ok (record { ended = a.0.0; last = b.0.0; opens = c.0.0; exit = exit.0; heights = heights.0 }, heights.1)) x c.2 in
    let f = bind_ok (several_at number_at d.0.1) (λ heights.
    Ok (record { ended = a.0.0; last = b.0.0; opens = c.0.0; exit = d.0.0; heights = heights.0 }, heights.1)) x d.2 in
    let ta = ended_list.takes bytes a.0 bs a.1 in
    let tb = level_law.takes a.0.1 b.0 ta.1 b.1 in
    let tc = holder_list.takes b.0.1 c.0 tb.1 c.1 in
    let td = maybe_entry.takes c.0.1 d.0 tc.1 d.1 in
    let tf = number_list.takes d.0.1 f.0 td.1 f.1 in
    let e1 = in_front bytes (several spelt.ended a.0.0) a.0.1 (spelt.level b.0.0) b.0.1 ta.0 tb.0 in
    let e2 = in_front bytes (several spelt.ended a.0.0 ++ spelt.level b.0.0) b.0.1 (several spelt.holder c.0.0) c.0.1 e1 tc.0 in
    let e3 = in_front bytes (several spelt.ended a.0.0 ++ spelt.level b.0.0 ++ several spelt.holder c.0.0) c.0.1 (optional spelt.entry d.0.0) d.0.1 e2 td.0 in
    let e0 = in_front bytes (several spelt.ended a.0.0 ++ spelt.level b.0.0 ++ several spelt.holder c.0.0 ++ optional spelt.entry d.0.0) d.0.1 (several number f.0.0) f.0.1 e3 tf.0 in
    let made : FormFields × List ℕ = (record { ended = a.0.0; last = b.0.0; opens = c.0.0; exit = d.0.0; heights = f.0.0 }, f.0.1) in
    subst (λ (y : FormFields × List ℕ). Took spelt.form FormFits bytes y) (ok_is made x f.2) (e0, tf.1, (ta.2, tb.2, tc.2, td.2, tf.2))

form_again : (f : FormFields) (rest : List ℕ) → FormFits f → form_at (spelt.form f ++ rest) ≡ Ok (f, rest)
unfolding form_at
form_again f rest h =
    let a = several spelt.ended f.ended in
    let b = spelt.level f.last in
    let c = several spelt.holder f.opens in
    let d = optional spelt.entry f.exit in
    let e = several number f.heights in
    let regrouped : spelt.form f ++ rest ≡ a ++ (b ++ (c ++ (d ++ (e ++ rest)))) =
    append_assoc (a ++ b ++ c ++ d) e rest ∙ append_assoc (a ++ b ++ c) d (e ++ rest) ∙ append_assoc (a ++ b) c (d ++ (e ++ rest)) ∙ append_assoc a b (c ++ (d ++ (e ++ rest))) in
    ap form_at regrouped ∙ rw (
      ended_list.again f.ended (spelt.level f.last ++ (several spelt.holder f.opens ++ (optional spelt.entry f.exit ++ (several number f.heights ++ rest)))) h.0,
      level_law.again f.last (several spelt.holder f.opens ++ (optional spelt.entry f.exit ++ (several number f.heights ++ rest))) h.1,
      holder_list.again f.opens (optional spelt.entry f.exit ++ (several number f.heights ++ rest)) h.2,
      maybe_entry.again f.exit (several number f.heights ++ rest) h.3,
      number_list.again f.heights rest h.4,
    ) refl

form_law : Law spelt.form form_at FormFits
form_law = record { takes = form_takes; again = form_again }

rest_law : Law spelt.rest rest_at RestFits
unfolding rest_at
rest_law = two spelt.mark mark_at MarkFits spelt.form form_at FormFits mark_law form_law (λ m t. record { mark = m; tail = t }) (λ r. r.mark) (λ r. r.tail) (λ r. refl) (λ m t. refl) (λ m t. refl)

structure_law : Law spelt.structure structure_at StructureFits
unfolding structure_at
structure_law = two (optional number) (optional_at number_at) (IfThere IsNumber) (optional spelt.rest) (optional_at rest_at) (IfThere RestFits) maybe_number (optional_law spelt.rest rest_at RestFits rest_law)
    (λ s r. record { string = s; rest = r }) (λ s. s.string) (λ s. s.rest) (λ s. refl) (λ s r. refl) (λ s r. refl)

-- ---- all between the head and the digest

transition_list : Law (several spelt.transition) (several_at transition_at) (AreSpelt TransitionFits)
transition_list = several_law spelt.transition transition_at TransitionFits transition_law

structure_list : Law (several spelt.structure) (several_at structure_at) (AreSpelt StructureFits)
structure_list = several_law spelt.structure structure_at StructureFits structure_law

guard_ended : {A : Type 0} (b : Bool) (d : RunFault) (x y : A) → cond b (Ok x) (Err d) ≡ Ok y → (b ≡ true) × (x ≡ y)
guard_ended true d x y e = (refl, cc)
guard_ended false d x y e = absurd cc

structures_takes : (bytes : List ℕ) (x : List StructureFields × List ℕ) → IsBytes bytes → structures_at bytes ≡ Ok x → Took (several spelt.structure) (AreSpelt StructureFits) bytes x
unfolding structures_at several_at
structures_takes bytes x bs e =
    let a = bind_ok (number_at bytes) (λ count. cond (ltb 32 count.0) (Err (Malformed field.Parts)) (many_at structure_at count.0 count.1)) x e in
    let g = guard_err (ltb 32 a.0.0) (Malformed field.Parts) (many_at structure_at a.0.0 a.0.1) x a.2 in
    structure_list.takes bytes x bs (rw a.1 g.1)

structures_again : (xs : List StructureFields) (rest : List ℕ) → length xs ≤ 32 → AreSpelt StructureFits xs → structures_at (several spelt.structure xs ++ rest) ≡ Ok (xs, rest)
unfolding structures_at
structures_again xs rest few h =
    let behind = flat_map spelt.structure xs ++ rest in
    let regrouped : several spelt.structure xs ++ rest ≡ number (length xs) ++ behind = append_assoc (number (length xs)) (flat_map spelt.structure xs) rest in
    let low : ltb 32 (length xs) ≡ false = le-ltb _ _ few in
    ap structures_at regrouped ∙ rw (number_law.again (length xs) behind h.0, low) (many_again spelt.structure structure_at StructureFits structure_law xs rest h.1)

pub run_takes : (bytes : List ℕ) (x : RunFields) → IsBytes bytes → run_at bytes ≡ Ok x → (bytes ≡ spelt.run x) × RunFits x
unfolding run_at
run_takes bytes x bs e =
    let a = bind_ok (optional_at number_at bytes) (λ from. number_at from.1 >>= λ end. several_at transition_at end.1 >>= λ transitions. structures_at transitions.1 >>= λ structures.
    cond (eqb (length structures.1) 0) (Ok (record { from = from.0; end = end.0; transitions = transitions.0; structures = structures.0 })) (Err (Malformed field.Rest))) x e in
    let b = bind_ok (number_at a.0.1) (λ end. several_at transition_at end.1 >>= λ transitions. structures_at transitions.1 >>= λ structures.
    cond (eqb (length structures.1) 0) (Ok (record { from = a.0.0; end = end.0; transitions = transitions.0; structures = structures.0 })) (Err (Malformed field.Rest))) x a.2 in
    let c = bind_ok (several_at transition_at b.0.1) (λ transitions. structures_at transitions.1 >>= λ structures.
    cond (eqb (length structures.1) 0) (Ok (record { from = a.0.0; end = b.0.0; transitions = transitions.0; structures = structures.0 })) (Err (Malformed field.Rest))) x b.2 in
    let d = bind_ok (structures_at c.0.1) (λ structures.
    cond (eqb (length structures.1) 0) (Ok (record { from = a.0.0; end = b.0.0; transitions = c.0.0; structures = structures.0 })) (Err (Malformed field.Rest))) x c.2 in
    let made : RunFields = record { from = a.0.0; end = b.0.0; transitions = c.0.0; structures = d.0.0 } in
    let g = guard_ended (eqb (length d.0.1) 0) (Malformed field.Rest) made x d.2 in
    let nothing : d.0.1 ≡ [] = nil_from_length d.0.1 (eqb-true _ _ g.0) in
    let ta = maybe_number.takes bytes a.0 bs a.1 in
    let tb = number_law.takes a.0.1 b.0 ta.1 b.1 in
    let tc = transition_list.takes b.0.1 c.0 tb.1 c.1 in
    let td = structures_takes c.0.1 d.0 tc.1 d.1 in
    let e1 = in_front bytes (optional number a.0.0) a.0.1 (number b.0.0) b.0.1 ta.0 tb.0 in
    let e2 = in_front bytes (optional number a.0.0 ++ number b.0.0) b.0.1 (several spelt.transition c.0.0) c.0.1 e1 tc.0 in
    let e0 = in_front bytes (optional number a.0.0 ++ number b.0.0 ++ several spelt.transition c.0.0) c.0.1 (several spelt.structure d.0.0) d.0.1 e2 td.0 in
    let whole : bytes ≡ spelt.run made = e0 ∙ ap (λ (t : List ℕ). spelt.run made ++ t) nothing ∙ append-nil (spelt.run made) in
    subst (λ (y : RunFields). (bytes ≡ spelt.run y) × RunFits y) g.1 (whole, (ta.2, tb.2, tc.2, td.2))

pub run_again : (r : RunFields) → length r.structures ≤ 32 → RunFits r → run_at (spelt.run r) ≡ Ok r
unfolding run_at
run_again r few h =
    let a = optional number r.from in
    let b = number r.end in
    let c = several spelt.transition r.transitions in
    let d = several spelt.structure r.structures in
    let regrouped : spelt.run r ≡ a ++ (b ++ (c ++ (d ++ []))) =
    sym (append-nil (spelt.run r)) ∙ append_assoc (a ++ b ++ c) d [] ∙ append_assoc (a ++ b) c (d ++ []) ∙ append_assoc a b (c ++ (d ++ [])) in
    ap run_at regrouped ∙ rw (
      maybe_number.again r.from (b ++ (c ++ (d ++ []))) h.0,
      number_law.again r.end (c ++ (d ++ [])) h.1,
      transition_list.again r.transitions (d ++ []) h.2,
      structures_again r.structures [] few h.3,
    ) refl
