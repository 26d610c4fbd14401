-- The entries of a run, and lists that grow at their ends.
use Rattle.std.proofs.Common.{◌≡◌, ℕ, zero, suc, ◌+◌, ◌<◌, ◌≤◌, List, [], ◌∷◌, ◌++◌, length, get_or, Some, None, refl, sym, ap, subst, ◌∙◌, inl, inr, ◌⊎◌, arith, All}
use Rattle.std.specs.Prelude.{slice_get}
use Rattle.std.proofs.lemmas.Bool.{cases_lt}
use Rattle.std.proofs.lemmas.Option.{get_or_from_slice_get, slice_get_cases, slice_get_past, slice_get_within}
use Rattle.jx_lex.specs.declared.alphabet.state.LexState.{LexState}
use Rattle.jx_lex.specs.Ordinal.{ordinal}
use Rattle.jx_reduce.specs.Structure.{StructureValue}
use Rattle.jx_run.specs.declared.runs.transition.Transition.{Transition}
use Rattle.jx_run.specs.OutcomeRun.{OutcomeRunValue, Entries, entries_at, entries_of, exit_at, exit_in, with_exit, AreUsed, IsWellFormed}
use Rattle.jx_lex.specs.Exit.{exit_of}
use Rattle.jx_lex.proofs.StateOrder.{ordinal-low}

pub one_of : {X : Type 0} (xs : List X) (n : ℕ) (x y : X) → slice_get xs n ≡ Some x → slice_get xs n ≡ Some y → x ≡ y
one_of xs n x y h k = cc

pub some_of : {X : Type 0} (xs : List X) (n : ℕ) → n < length xs → (x : X) × (slice_get xs n ≡ Some x)
some_of {X = X} xs n h = pick (slice_get_cases xs n).1
  where
    pick : ((x : X) × (n < length xs) × (slice_get xs n ≡ Some x) × (get_or xs n x ≡ x)) ⊎ ((length xs ≤ n) × (slice_get xs n ≡ None)) → (x : X) × (slice_get xs n ≡ Some x)
    pick (inl p) = (p.0, p.2)
    pick (inr p) = absurd (omega (arith, h, p.0))

pub all_at : {X : Type 0} (P : X → Type 0) (xs : List X) (n : ℕ) (x : X) → All P xs → slice_get xs n ≡ Some x → P x
all_at P xs n x h e = subst P (get_or_from_slice_get xs n x x e) (h n x (slice_get_within xs n x e))

pub at_end : {X : Type 0} (xs : List X) (x : X) → slice_get (xs ++ x ∷ []) (length xs) ≡ Some x
at_end [] x = refl
at_end (y ∷ xs) x = at_end xs x

-- what stands in a list with one more is that one at its end, or stood there before
pub with_one : {X : Type 0} (xs : List X) (x : X) (n : ℕ) (y : X) → slice_get (xs ++ x ∷ []) n ≡ Some y → (slice_get xs n ≡ Some y) ⊎ ((n ≡ length xs) × (x ≡ y))
with_one [] x zero y h = inr (refl, cc)
with_one [] x (suc n) y h = let past : slice_get (x ∷ []) (suc n) ≡ None = slice_get_past (x ∷ []) (suc n) (omega arith) in absurd cc
with_one (z ∷ xs) x zero y h = inl h
with_one {X = X} (z ∷ xs) x (suc n) y h = pick (with_one xs x n y h)
  where
    pick : (slice_get xs n ≡ Some y) ⊎ ((n ≡ length xs) × (x ≡ y)) → (slice_get (z ∷ xs) (suc n) ≡ Some y) ⊎ ((suc n ≡ suc (length xs)) × (x ≡ y))
    pick (inl k) = inl k
    pick (inr k) = inr (ap suc k.0, k.1)

pub before_one : {X : Type 0} (xs : List X) (x : X) (n : ℕ) (y : X) → slice_get xs n ≡ Some y → slice_get (xs ++ x ∷ []) n ≡ Some y
before_one [] x n y h = absurd (let l = slice_get_within [] n y h in omega (arith, l))
before_one (z ∷ xs) x zero y h = h
before_one (z ∷ xs) x (suc n) y h = before_one xs x n y h

-- one transition more, which leads to the one structure more, if there is one
pub used_more : (ws : List Transition) (old new : ℕ) (w : Transition) → new ≤ old + 1 → (old < new → new ≡ w.structure + 1) → AreUsed ws old → AreUsed (ws ++ w ∷ []) new
used_more ws old new w few last used n below = pick (cases_lt n old) where
  pick : (n < old) ⊎ (old ≤ n) → (k : ℕ) × (v : Transition) × (slice_get (ws ++ w ∷ []) k ≡ Some v) × (v.structure ≡ n)
  pick (inl there) = let u = used n there in (u.0, u.1, before_one ws w u.0 u.1 u.2, u.3)
  pick (inr here) =
      let grown : old < new = omega (arith, here, below) in
      let at = last grown in
      (length ws, w, at_end ws w, omega (arith, at, few, here, below))

-- ---- entries

pub entries_are : (run : OutcomeRunValue) (s : LexState) (w : Transition) (f : StructureValue) → slice_get run.transitions (ordinal s) ≡ Some w → slice_get run.structures w.structure ≡ Some f
    → entries_at run s ≡ Some (record { exit = w.exit; marks = f })
entries_are run s w f h k = ap (entries_of run.structures) h ∙ ap (with_exit w.exit) k

pub exit_is : (run : OutcomeRunValue) (s : LexState) (w : Transition) → slice_get run.transitions (ordinal s) ≡ Some w → w.structure < length run.structures
    → exit_of w.exit ≡ exit_at run s
exit_is run s w h low = let f = some_of run.structures w.structure low in sym (ap exit_in (entries_are run s w f.0 h f.1))

pub has_entries : (run : OutcomeRunValue) → IsWellFormed run → (s : LexState) → (e : Entries) × (entries_at run s ≡ Some e)
has_entries run whole s =
    let low : ordinal s < length run.transitions = let n = whole.all in let m = ordinal-low s in omega (arith, n, m) in
    let w = some_of run.transitions (ordinal s) low in
    let f = some_of run.structures (w.0).structure (all_at (λ (w : Transition). w.structure < length run.structures) run.transitions (ordinal s) w.0 whole.there w.1) in
    (record { exit = (w.0).exit; marks = f.0 }, entries_are run s w.0 f.0 w.1 f.1)
