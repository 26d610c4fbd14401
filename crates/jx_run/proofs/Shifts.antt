-- A run whose bytes stand further on.
use Rattle.std.proofs.Common.{◌≡◌, ℕ, zero, suc, ◌+◌, ◌^◌, ◌<◌, ◌≤◌, List, [], ◌∷◌, length, map, Some, slice_set, refl, sym, ap, subst, ◌∙◌, arith, inl, inr, ◌⊎◌}
use Rattle.std.specs.Prelude.{slice_get}
use Rattle.std.proofs.Math.ListN.{length-map}
use Rattle.std.proofs.lemmas.List.{length-set}
use Rattle.std.proofs.lemmas.Option.{get_or_from_slice_get, slice_get_within}
use Rattle.jx_lex.specs.declared.alphabet.lex_exit.LexExit.{LexExit}
use Rattle.jx_lex.specs.declared.alphabet.lex_exit.LexExit.TheVariants as exit
use Rattle.jx_lex.specs.declared.alphabet.state.LexState.{LexState}
use Rattle.jx_lex.specs.Ordinal.{ordinal}
use Rattle.jx_lex.specs.Exit.{exit_of}
use Rattle.jx_reduce.specs.declared.table.expect.Expect.{Expect}
use Rattle.jx_reduce.specs.declared.table.holder.Holder.{Holder}
use Rattle.jx_reduce.specs.Read.{Reading}
use Rattle.jx_reduce.specs.Structure.{StructureValue, answer}
use Rattle.jx_reduce.specs.Shift as marks
use Rattle.jx_run.specs.declared.runs.transition.Transition.{Transition}
use Rattle.jx_run.specs.inside.Moved.{moved_exit, moved_transition, AreMoved, IsMoved, IsMovedAt}
use Rattle.jx_run.specs.OutcomeRun.{OutcomeRunValue, outcome_in, outcome, IsOutcomeRun, IsWellFormed, IsFormWithin}
use Rattle.jx_run.specs.Reading.{stopped, at_exit, read}
use Rattle.jx_run.specs.ReaderInside.{offset_at, shifted}
use Rattle.jx_run.proofs.FaultPlaces.{Below, read-below}
use Rattle.jx_run.proofs.Moves.{shifted-twice}
use Rattle.jx_run.proofs.ReaderSteps.{read-shift}
use Rattle.jx_lex.proofs.StateOrder.{ordinal-low}
use Rattle.jx_run.proofs.Transitions.{all_at, entries_are, one_of, some_of}

-- ---- lists in which one is put

pub put_there : {X : Type 0} (xs : List X) (n : ℕ) (x : X) → n < length xs → slice_get (slice_set xs n x) n ≡ Some x
put_there [] n x low = absurd (omega (arith, low))
put_there (y ∷ xs) zero x low = refl
put_there (y ∷ xs) (suc n) x low = put_there xs n x (omega (arith, low))

pub put_apart : {X : Type 0} (xs : List X) (n k : ℕ) (x : X) → (k ≡ n → ⊥) → slice_get (slice_set xs n x) k ≡ slice_get xs k
put_apart [] n k x apart = refl
put_apart (y ∷ xs) zero zero x apart = absurd (apart refl)
put_apart (y ∷ xs) zero (suc k) x apart = refl
put_apart (y ∷ xs) (suc n) zero x apart = refl
put_apart (y ∷ xs) (suc n) (suc k) x apart = put_apart xs n k x (λ e. apart (ap suc e))

-- ---- readings

read-moved : (limit by at : ℕ) (s : LexState) (e : Expect) (o : List Holder) (bytes : List ℕ) → read limit s e o (by + at) bytes ≡ shifted by (read limit s e o at bytes)
read-moved limit by at s e o bytes =
    read-shift limit (by + at) s e o bytes
    ∙ shifted-twice by at (read limit s e o 0 bytes)
    ∙ ap (shifted by) (sym (read-shift limit at s e o bytes))

fits : (by at end : ℕ) → at < end → end + by < 2 ^ 64 → offset_at by at ≡ by + at
fits by at end low high = omega (arith, low, high)

-- an offset that shows in the outcome lies below the end
exit-moved : (by end : ℕ) (x : LexExit) (r : Reading) → Below end (at_exit (exit_of x) r) → end + by < 2 ^ 64
    → at_exit (exit_of (moved_exit by x)) (marks.shifted by r) ≡ shifted by (at_exit (exit_of x) r)
exit-moved by end (exit.State s) (Reading.went e o) low high = refl
exit-moved by end (exit.Fault at) (Reading.went e o) low high = ap (λ (k : ℕ). stopped k) (fits by at end low high)
exit-moved by end (exit.State s) (Reading.stopped at) low high = refl
exit-moved by end (exit.Fault i) (Reading.stopped at) low high = refl
exit-moved by end (exit.State s) (Reading.too_deep at) low high = refl
exit-moved by end (exit.Fault i) (Reading.too_deep at) low high = refl

-- ---- runs

abbrev pub moved_run : ℕ → OutcomeRunValue → List StructureValue → OutcomeRunValue
moved_run by run news = record { depth = run.depth; start = by + run.start; end = by + run.end; transitions = map (moved_transition by) run.transitions; structures = news }

transitions-moved : (by : ℕ) (ws : List Transition) (k : ℕ) (w : Transition) → slice_get ws k ≡ Some w → slice_get (map (moved_transition by) ws) k ≡ Some (moved_transition by w)
transitions-moved by [] k w h = absurd (let l = slice_get_within [] k w h in omega (arith, l))
transitions-moved by (v ∷ ws) zero w h = let e : v ≡ w = cc in ap (λ (u : Transition). Some (moved_transition by u)) e
transitions-moved by (v ∷ ws) (suc k) w h = transitions-moved by ws k w h

pub shifted_whole : (by : ℕ) (run : OutcomeRunValue) (news : List StructureValue) → IsWellFormed run → length news ≡ length run.structures → AreMoved by run.structures news → IsWellFormed (moved_run by run news)
shifted_whole by run news whole long moved =
    let order = whole.order in
    let few = whole.few in
    let same = length-map run.transitions (moved_transition by) in
    record {
      order = omega (arith, order);
      all = same ∙ whole.all;
      few = omega (arith, few, long);
      there = λ k d low.
          let w = some_of run.transitions k (omega (arith, low, same)) in
          let there = all_at (λ (w : Transition). w.structure < length run.structures) run.transitions k w.0 whole.there w.1 in
          subst (λ (v : Transition). v.structure < length news) (sym (get_or_from_slice_get (map (moved_transition by) run.transitions) k (moved_transition by w.0) d (transitions-moved by run.transitions k w.0 w.1)))
          (let m : (w.0).structure < length news = omega (arith, there, long) in m);
      within = λ k d low.
          let f = some_of run.structures k (omega (arith, low, long)) in
          let here = all_at (IsFormWithin run.depth run.start run.end) run.structures k f.0 whole.within f.1 in
          let m = moved k f.0 f.1 in
          subst (IsFormWithin run.depth (by + run.start) (by + run.end)) (sym (get_or_from_slice_get news k m.form d m.there))
          (record { depth = m.moved.depth ∙ here.depth; offsets = m.moved.offsets run.start run.end here.offsets });
    }

pub shifted_reads : (by : ℕ) (run : OutcomeRunValue) (news : List StructureValue) → IsWellFormed run → AreMoved by run.structures news → run.end + by < 2 ^ 64
    → (bytes : List ℕ) → IsOutcomeRun bytes run → IsOutcomeRun bytes (moved_run by run news)
shifted_reads by run news whole moved high bytes h =
    let long = h.long in
    record {
      long = omega (arith, long);
      outcomes = λ s e o short.
          let w = some_of run.transitions (ordinal s) (let n = whole.all in let m = ordinal-low s in omega (arith, n, m)) in
          let f = some_of run.structures (w.0).structure (all_at (λ (w : Transition). w.structure < length run.structures) run.transitions (ordinal s) w.0 whole.there w.1) in
          let here = all_at (IsFormWithin run.depth run.start run.end) run.structures (w.0).structure f.0 whole.within f.1 in
          let m = moved (w.0).structure f.0 f.1 in
          let old : outcome run s e o ≡ at_exit (exit_of (w.0).exit) (answer f.0 e o) = ap (λ x. outcome_in x e o) (entries_are run s w.0 f.0 w.1 f.1) in
          let reads : at_exit (exit_of (w.0).exit) (answer f.0 e o) ≡ read run.depth s e o run.start bytes = sym old ∙ h.outcomes s e o short in
          let low : Below run.end (at_exit (exit_of (w.0).exit) (answer f.0 e o)) =
          subst (Below run.end) (sym reads) (subst (λ n. Below n (read run.depth s e o run.start bytes)) (sym long) (read-below run.depth s e o run.start bytes)) in
          ap (λ x. outcome_in x e o) (entries_are (moved_run by run news) s (moved_transition by w.0) m.form (transitions-moved by run.transitions (ordinal s) w.0 w.1) m.there)
          ∙ ap (at_exit (exit_of (moved_exit by (w.0).exit))) (m.moved.answers e o (subst (λ d. length o ≤ d) (sym here.depth) short))
          ∙ exit-moved by run.end (w.0).exit (answer f.0 e o) low high
          ∙ ap (shifted by) reads
          ∙ sym (read-moved run.depth by run.start s e o bytes);
    }

-- ---- structures that are moved one after the other

nat_cases : (a n : ℕ) → a < n + 1 → (a < n) ⊎ (a ≡ n)
nat_cases zero zero h = inr refl
nat_cases zero (suc n) h = inl (omega arith)
nat_cases (suc a) zero h = absurd (omega (arith, h))
nat_cases (suc a) (suc n) h = pick (nat_cases a n (omega (arith, h)))
  where
    pick : (a < n) ⊎ (a ≡ n) → (suc a < suc n) ⊎ (suc a ≡ suc n)
    pick (inl k) = inl (omega (arith, k))
    pick (inr k) = inr (ap suc k)

pub put_moved : (by : ℕ) (xs ys : List StructureValue) (n : ℕ) (f empty g : StructureValue) → n < length ys → slice_get xs n ≡ Some f → IsMoved by f g
    → ((at : ℕ) (old : StructureValue) → at < n → slice_get xs at ≡ Some old → IsMovedAt by ys at old)
    → ((at : ℕ) → n ≤ at → slice_get ys at ≡ slice_get xs at)
    → ((at : ℕ) (old : StructureValue) → at < n + 1 → slice_get xs at ≡ Some old → IsMovedAt by (slice_set (slice_set ys n empty) n g) at old)
    × ((at : ℕ) → n + 1 ≤ at → slice_get (slice_set (slice_set ys n empty) n g) at ≡ slice_get xs at)
put_moved by xs ys n f empty g low was is moved rest = (
  λ at old below h. pick at old h (nat_cases at n below),
  λ at above. apart at (λ e. omega (arith, e, above)) ∙ rest at (omega (arith, above)),
)
  where
    apart : (at : ℕ) → (at ≡ n → ⊥) → slice_get (slice_set (slice_set ys n empty) n g) at ≡ slice_get ys at
    apart at other = put_apart (slice_set ys n empty) n at g other ∙ put_apart ys n at empty other

    pick : (at : ℕ) (old : StructureValue) → slice_get xs at ≡ Some old → (at < n) ⊎ (at ≡ n) → IsMovedAt by (slice_set (slice_set ys n empty) n g) at old
    pick at old h (inl k) = let m = moved at old k h in record { form = m.form; there = apart at (λ e. omega (arith, e, k)) ∙ m.there; moved = m.moved }
    pick at old h (inr k) =
        let same : f ≡ old = one_of xs n f old was (subst (λ i. slice_get xs i ≡ Some old) k h) in
        let there : slice_get (slice_set (slice_set ys n empty) n g) n ≡ Some g = put_there (slice_set ys n empty) n g (let e = length-set ys n empty in omega (arith, e, low)) in
        record { form = g; there = subst (λ i. slice_get (slice_set (slice_set ys n empty) n g) i ≡ Some g) (sym k) there; moved = subst (λ o. IsMoved by o g) same is }
