-- A fault of a reading lies in the bytes that are read.
use Rattle.std.proofs.Common.{◌≡◌, ℕ, suc, ◌+◌, ◌<◌, List, [], ◌∷◌, length, refl, sym, subst, arith, Option, None, Some, Bool, true, false, cond}
use Rattle.std.specs.Prelude.{nat_lt}
use Rattle.jx_lex.specs.declared.alphabet.mark.MarkKind.{MarkKind}
use Rattle.jx_lex.specs.declared.alphabet.state.LexState.{LexState}
use Rattle.jx_lex.specs.Moves.{move}
use Rattle.jx_reduce.specs.Read.{top}
use Rattle.jx_reduce.specs.declared.table.expect.Expect.{Expect}
use Rattle.jx_reduce.specs.declared.table.holder.Holder.{Holder}
use Rattle.jx_run.specs.Reading.{TextReading, went, stopped, too_deep, read}
use Rattle.jx_run.specs.inside.Turns.{Turn, wrong, on, enter, leave, turn}
use Rattle.jx_run.proofs.Fused.{after_turn, after_mark, in_next, run, read-run}

abbrev pub Below : ℕ → TextReading → Type 0
Below n (went s e o) = Unit {0}
Below n (stopped at) = at < n
Below n (too_deep at) = at < n

turn-below : (limit n at : ℕ) (o : List Holder) (t : Turn) (g : Expect → List Holder → TextReading) → at < n → ((e : Expect) (p : List Holder) → Below n (g e p)) → Below n (after_turn limit at o t g)
turn-below limit n at o wrong g here q = here
turn-below limit n at o (on e) g here q = q e o
turn-below limit n at o (enter k e) g here q = pick (nat_lt (length o) limit)
  where
    pick : (c : Bool) → Below n (cond c (g e (k ∷ o)) (too_deep at))
    pick true = q e (k ∷ o)
    pick false = here
turn-below limit n at o (leave e) g here q = q e _

mark-below : (limit n at : ℕ) (e : Expect) (o : List Holder) (k : Option MarkKind) (g : Expect → List Holder → TextReading) → at < n → ((e : Expect) (p : List Holder) → Below n (g e p))
    → Below n (after_mark limit at e o k g)
mark-below limit n at e o None g here q = q e o
mark-below limit n at e o (Some k) g here q = turn-below limit n at o (turn k e (top o)) g here q

next-below : (n at : ℕ) (s : Option LexState) (g : LexState → TextReading) → at < n → ((s : LexState) → Below n (g s)) → Below n (in_next at s g)
next-below n at None g here q = here
next-below n at (Some s) g here q = q s

run-below : (limit n : ℕ) (xs : List ℕ) (s : LexState) (e : Expect) (o : List Holder) (at : ℕ) → at + length xs ≡ n → Below n (run limit s e o at xs)
unfolding run
run-below limit n [] s e o at long = tt
run-below limit n (x ∷ xs) s e o at long =
    let here : at < n = omega (arith, long) in
    mark-below limit n at e o ((move s x).begin) _ here
    (λ e' o'. next-below n at ((move s x).next) _ here (λ s'. run-below limit n xs s' e' o' (suc at) (omega (arith, long))))

pub read-below : (limit : ℕ) (s : LexState) (e : Expect) (o : List Holder) (at : ℕ) (xs : List ℕ) → Below (at + length xs) (read limit s e o at xs)
read-below limit s e o at xs = subst (Below (at + length xs)) (sym (read-run limit s e o at xs)) (run-below limit (at + length xs) xs s e o at refl)
