-- Reading on into a reducer, and the transitions from the states that are reached.
use Rattle.std.proofs.Common.{◌≡◌, ℕ, ◌+◌, ◌<◌, ◌≤◌, List, [], ◌∷◌, ◌++◌, length, get_or, max, Result, Bool, true, false, Option, Some, None, refl, sym, ap, subst, ◌∙◌, arith, All}
use Rattle.std.specs.Prelude.{nat_lt, slice_get, slice_range, IfOk, IfSome, unwrap_or}
use Rattle.std.proofs.lemmas.Bool.Decides.{nat_tests}
use Rattle.std.proofs.lemmas.List.Sums.{fold-append}
use Rattle.std.proofs.lemmas.Result.{IfOk-weaker}
use Rattle.std.proofs.lemmas.Option.{get_or_from_slice_get, slice_get_within}
use Rattle.jx_lex.specs.declared.alphabet.lex_exit.LexExit.{LexExit}
use Rattle.jx_lex.specs.declared.alphabet.lex_exit.LexExit.TheVariants as exit
use Rattle.jx_lex.specs.declared.alphabet.mark.Mark.{Mark}
use Rattle.jx_lex.specs.declared.alphabet.mark.MarkKind.TheVariants as kind
use Rattle.jx_lex.specs.declared.alphabet.state.LexState.{LexState}
use Rattle.jx_lex.specs.Lex as lexical
use Rattle.jx_lex.specs.Lex.{lex}
use Rattle.jx_lex.specs.Ordinal.{all_states, ordinal}
use Rattle.jx_lex.specs.Seen.{SeesTrack, WantsNoMore}
use Rattle.jx_lex.specs.Exit.{exit_of}
use Rattle.jx_reduce.specs.declared.table.expect.Expect.{Expect}
use Rattle.jx_reduce.specs.declared.table.holder.Holder.{Holder}
use Rattle.jx_reduce.specs.KnownStack.{IsFault}
use Rattle.jx_reduce.specs.Offsets.{EachIn, RisingFrom}
use Rattle.jx_reduce.specs.Read.{Reading, step, read as read_marks}
use Rattle.jx_reduce.specs.Reducer.{ReducerValue, HasReduced}
use Rattle.jx_reduce.specs.Structure.{StructureValue, IsOf, SpansIn, answer}
use Rattle.jx_run.specs.declared.runs.transition.Transition.{Transition}
use Rattle.jx_run.specs.inside.Joins.{IsAbove}
use Rattle.jx_run.specs.OutcomeRun.{OutcomeRunValue, exit_at, outcome_in, outcome_of, IsOutcomeRun, IsWellFormed, IsFormWithin}
use Rattle.jx_run.specs.Reading.{at_exit, read}
use Rattle.jx_run.specs.inside.Reduced.{IsReduced}
use Rattle.jx_run.specs.inside.Rest.{AreRead, AreReadTransitions, HasTaken, IsReadTransition, IsRestOf, Reaches}
use Rattle.jx_run.proofs.ReaderSteps.{stuck}
use Rattle.jx_run.proofs.Reducing.{all_push, lex-in, lex_rises, reduced_within, rises-then, stays_there}
use Rattle.jx_lex.proofs.StateOrder.{ordinal-low, state-at}
use Rattle.jx_lex.proofs.Slices.{slice-split}
use Rattle.jx_run.proofs.Transitions.{all_at, at_end, entries_are, exit_is, some_of}

-- ---- a scan into a reducer

-- what reading comes to from where a scan ended, or wherever if it did not tell, and from the structure of the marks
pub record Scanned (limit from : ℕ) (bytes : List ℕ) (s : LexState) (old new : ReducerValue) (x : Option LexExit) (f : StructureValue) : Type 0 where
  pub depth : old.depth ≡ limit
  pub none : HasReduced [] old
  pub sees : SeesTrack (λ marks ends. HasTaken marks ends old) (λ marks ends. HasTaken marks ends new) (lex s from bytes)
  pub exit : IfSome x (λ e. exit_of e ≡ (lex s from bytes).exit)
  pub done : x ≡ None → WantsNoMore (λ marks ends. HasTaken marks ends new)
  pub form_depth : f.depth ≡ new.depth
  pub reads : (marks : List Mark) → HasReduced marks new → RisingFrom 0 marks → IsOf marks f
  pub offsets : (marks : List Mark) → HasReduced marks new → RisingFrom 0 marks → (low high : ℕ) → EachIn (λ m. (low ≤ m.at) × (m.at < high)) marks → SpansIn low high f

-- behind a fault no exit matters
same_stop : (t u : lexical.LexExit) (r : Reading) → IsFault r → at_exit t r ≡ at_exit u r
same_stop t u (Reading.went e o) h = absurd h
same_stop (lexical.state s) (lexical.state v) (Reading.stopped at) h = refl
same_stop (lexical.state s) (lexical.fault i) (Reading.stopped at) h = refl
same_stop (lexical.fault i) (lexical.state s) (Reading.stopped at) h = refl
same_stop (lexical.fault i) (lexical.fault j) (Reading.stopped at) h = refl
same_stop (lexical.state s) (lexical.state v) (Reading.too_deep at) h = refl
same_stop (lexical.state s) (lexical.fault i) (Reading.too_deep at) h = refl
same_stop (lexical.fault i) (lexical.state s) (Reading.too_deep at) h = refl
same_stop (lexical.fault i) (lexical.fault j) (Reading.too_deep at) h = refl

told_exit : (x : Option LexExit) (d : LexExit) (t : lexical.LexExit) (r : Reading) → IfSome x (λ e. exit_of e ≡ t) → (x ≡ None → IsFault r) → at_exit (exit_of (unwrap_or x d)) r ≡ at_exit t r
told_exit (Some e) d t r is none = ap (λ (z : lexical.LexExit). at_exit z r) is
told_exit None d t r is none = same_stop (exit_of d) t r (none refl)

read_is : (limit : ℕ) (s : LexState) (e : Expect) (o : List Holder) (from : ℕ) (bytes : List ℕ)
    → read limit s e o from bytes ≡ at_exit (lex s from bytes).exit (read_marks limit (lex s from bytes).marks (Reading.went e o))
unfolding read
read_is limit s e o from bytes = refl

module _ (limit from : ℕ) (bytes : List ℕ) (s : LexState) (old new : ReducerValue) (x : Option LexExit) (f : StructureValue) (h : Scanned limit from bytes s old new x f) where
  abbrev marks : List Mark
  marks = (lex s from bytes).marks

  taken : HasTaken marks (old.depth ∷ (lex s from bytes).ends) new
  taken = h.sees [] (old.depth ∷ []) (record { reduced = h.none; rest = []; depth = refl })

  deep : f.depth ≡ limit
  deep =
      let tied : old.depth ∷ (lex s from bytes).ends ≡ new.depth ∷ taken.rest = taken.depth in
      let same : old.depth ≡ new.depth = cc in
      h.form_depth ∙ sym same ∙ h.depth

  reduced : IsReduced limit marks f
  reduced = record { depth = deep; reads = h.reads marks taken.reduced (lex_rises s from bytes); offsets = h.offsets marks taken.reduced (lex_rises s from bytes) }

  -- marks that no more can follow come to a fault
  no_more : x ≡ None → (e : Expect) (o : List Holder) → length o ≤ f.depth → IsFault (answer f e o)
  no_more none e o short =
      let high = from + length bytes in
      let two : List Mark = record { kind = kind.Colon; at = high } ∷ record { kind = kind.Colon; at = high + 1 } ∷ [] in
      let all = h.done none marks two (old.depth ∷ (lex s from bytes).ends) [] taken in
      let rising = rises-then 0 from high marks two (omega arith) (lex_rises s from bytes) (lex-in s from bytes) ((omega arith, (omega arith, tt))) in
      stuck f.depth high (high + 1) (answer f e o)
      (h.reads (marks ++ two) all.reduced rising e o short
      ∙ fold-append (λ reading mark. step f.depth mark reading) (Reading.went e o) marks two
      ∙ ap (read_marks f.depth two) (sym (h.reads marks taken.reduced (lex_rises s from bytes) e o short)))

  pub scanned_reads : (d : LexExit) → AreRead limit from bytes s (outcome_of (record { exit = unwrap_or x d; marks = f }))
  scanned_reads d e o short =
      let less : length o ≤ f.depth = subst (λ n. length o ≤ n) (sym deep) short in
      told_exit x d (lex s from bytes).exit (answer f e o) h.exit (λ none. no_more none e o less)
      ∙ ap (at_exit (lex s from bytes).exit) (h.reads marks taken.reduced (lex_rises s from bytes) e o less ∙ ap (λ n. read_marks n marks (Reading.went e o)) deep)
      ∙ sym (read_is limit s e o from bytes)

  pub scanned_within : (to : ℕ) → from + length bytes ≡ to → IsFormWithin limit from to f
  scanned_within to e = subst (λ n. IsFormWithin limit from n f) e (reduced_within limit from (from + length bytes) marks f reduced (lex-in s from bytes))

-- ---- the transitions from all states

pub above_many : (olds news : List StructureValue) → IsAbove olds news → length olds ≤ length news
above_many [] news up = omega arith
above_many (f ∷ fs) news up =
    let x = some_of (f ∷ fs) (length fs) (omega arith) in
    let low = slice_get_within news (length fs) x.0 (up (length fs) x.0 x.1) in
    omega (arith, low)

abbrev pub IsThere : List StructureValue → Transition → Type 0
IsThere fs w = w.structure < max 1 (length fs)

pub there_above : (olds news : List StructureValue) (ws : List Transition) → IsAbove olds news → All (IsThere olds) ws → All (IsThere news) ws
there_above olds news ws up h k d low =
    let there = h k d low in
    let more = above_many olds news up in
    omega (arith, there, more)

pub there_next : (olds news : List StructureValue) (ws : List Transition) (w : Transition) → IsAbove olds news → All (IsThere olds) ws → IsThere news w → All (IsThere news) (ws ++ w ∷ [])
there_next olds news ws w up h there = all_push (IsThere news) ws w (there_above olds news ws up h) there

module _ (limit start : ℕ) (bytes : List ℕ) (reached : List Transition) where
  transition_above : (olds news : List StructureValue) (s : LexState) (w : Transition) → IsAbove olds news → IsReadTransition limit start bytes olds s w → IsReadTransition limit start bytes news s w
  transition_above olds news s w up h = record { form = h.form; at = up w.structure h.form h.at; reads = h.reads }

  pub read_above : (olds news : List StructureValue) (ws : List Transition) (s : LexState) → IsAbove olds news → AreReadTransitions limit start bytes reached olds ws s
      → AreReadTransitions limit start bytes reached news ws s
  read_above olds news ws s up h r = let x = h r in (x.0, x.1, transition_above olds news s x.0 up x.2)

  pub read_next : (states : List LexState) (i : ℕ) (d : LexState) (olds news : List StructureValue) (ws : List Transition) (w : Transition) → states ≡ all_states → length ws ≡ i → IsAbove olds news
      → ((s : LexState) → ordinal s < i → AreReadTransitions limit start bytes reached olds ws s)
      → (Reaches reached (get_or states i d) → IsReadTransition limit start bytes news (get_or states i d) w)
      → (s : LexState) → ordinal s < i + 1 → AreReadTransitions limit start bytes reached news (ws ++ w ∷ []) s
  read_next states i d olds news ws w are many up h new s low r = pick (nat_lt (ordinal s) i) refl
    where
      pick : (b : Bool) → nat_lt (ordinal s) i ≡ b → (x : Transition) × (slice_get (ws ++ w ∷ []) (ordinal s) ≡ Some x) × IsReadTransition limit start bytes news s x
      pick true q =
          let x = h s (grind (arith, nat_tests)) r in
          (x.0, stays_there ws w (ordinal s) x.0 x.1, transition_above olds news s x.0 up x.2)
      pick false q =
          let here : ordinal s ≡ i = grind (arith, nat_tests) in
          let is : get_or states i d ≡ s = get_or_from_slice_get states i s d (ap (λ ss. slice_get ss i) are ∙ ap (slice_get all_states) (sym here) ∙ state-at s) in (
            w,
            ap (slice_get (ws ++ w ∷ [])) (here ∙ sym many) ∙ at_end ws w,
            subst (λ t. IsReadTransition limit start bytes news t w) is (new (subst (Reaches reached) (sym is) r)),
          )

-- ---- the run of the rest

of_state : (x : LexExit) (t : LexState) → exit_of x ≡ lexical.state t → x ≡ exit.State t
of_state (exit.State s) t h = cc
of_state (exit.Fault i) t h = cc

reaches : (left : OutcomeRunValue) → IsWellFormed left → (s t : LexState) → exit_at left s ≡ lexical.state t → Reaches left.transitions t
reaches left whole s t ends =
    let all = whole.all in
    let few = ordinal-low s in
    let low : ordinal s < length left.transitions = omega (arith, all, few) in
    let w = some_of left.transitions (ordinal s) low in
    let there = all_at (λ (w : Transition). w.structure < length left.structures) left.transitions (ordinal s) w.0 whole.there w.1 in
    (ordinal s, low, λ d. ap (λ (w : Transition). w.exit) (get_or_from_slice_get left.transitions (ordinal s) w.0 d w.1) ∙ of_state (w.0).exit t (exit_is left s w.0 w.1 there ∙ ends))

pub transitions_of_rest : (left run : OutcomeRunValue) (bytes : List ℕ) → IsWellFormed left → run.end ≡ run.start + length bytes
    → ((s : LexState) → AreReadTransitions run.depth run.start bytes left.transitions run.structures run.transitions s) → IsRestOf left bytes run
transitions_of_rest left run bytes whole long h =
    record {
      long = long;
      outcomes = λ s t ends e o short.
          let w = h t (reaches left whole s t ends) in
          let k = w.2 in
          ap (λ z. outcome_in z e o) (entries_are run t w.0 k.form w.1 k.at) ∙ k.reads e o short;
    }

-- ---- the beginning and the rest

pub whole_run : {E : Type 0} (result : Result OutcomeRunValue E) (text : List ℕ) (a b c : ℕ) (left right : OutcomeRunValue) → a ≤ b → b ≤ c
    → IfOk result (λ j. (xs ys : List ℕ) → IsOutcomeRun xs left → IsRestOf left ys right → IsOutcomeRun (xs ++ ys) j)
    → IsOutcomeRun (slice_range text a b) left → IsRestOf left (slice_range text b c) right → IfOk result (IsOutcomeRun (slice_range text a c))
whole_run result text a b c left right low high h x y =
    IfOk-weaker result _ _ (λ j joins. subst (λ zs. IsOutcomeRun zs j) (sym (slice-split text a b c low high)) (joins (slice_range text a b) (slice_range text b c) x y)) h
