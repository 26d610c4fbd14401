-- Whatever was read without a fault can be completed to a text, and no container need be opened for it.
use Rattle.std.proofs.Common.{◌≡◌, ℕ, suc, ◌+◌, List, [], ◌∷◌, ◌++◌, length, Option, Some, None, Bool, true, false, cond, drop, refl, sym, ap, subst, ◌∙◌, arith}
use Rattle.std.specs.Prelude.{nat_lt}
use Rattle.jx_lex.specs.declared.alphabet.state.LexState.{LexState}
use Rattle.jx_lex.specs.declared.alphabet.state.LexState.TheVariants as state
use Rattle.jx_lex.specs.declared.alphabet.mark.MarkKind.{MarkKind}
use Rattle.jx_lex.specs.declared.alphabet.mark.MarkKind.TheVariants as mark
use Rattle.jx_lex.specs.Classes.{class_at}
use Rattle.jx_lex.specs.Moves.{move, as_gap}
use Rattle.jx_lex.specs.TokenStates.{final_gap}
use Rattle.jx_reduce.specs.declared.table.expect.Expect.{Expect}
use Rattle.jx_reduce.specs.declared.table.expect.Expect.TheVariants as expect
use Rattle.jx_reduce.specs.declared.table.holder.Holder.{Holder}
use Rattle.jx_reduce.specs.declared.table.holder.Holder.TheVariants as holder
use Rattle.jx_reduce.specs.Read.{top}
use Rattle.jx_run.specs.inside.Turns.{Turn, wrong, on, enter, leave, turn}
use Rattle.jx_run.specs.Reading.{TextReading, went, stopped, too_deep, and_then}
use Rattle.jx_run.specs.inside.Closing.{finish, fill, shut, completion}
use Rattle.jx_run.proofs.Fused.{after_turn, run, after_mark, in_next}
use Rattle.jx_run.proofs.FromGrammar.{Inside, stays, step, run-inside}
use Rattle.jx_run.proofs.ToGrammar.{Accepted, accepted}

-- ---- the open list holds containers alone

abbrev pub Proper : List Holder → Type 0
Proper [] = Unit {0}
Proper (holder.Array ∷ o) = Proper o
Proper (holder.Object ∷ o) = Proper o
Proper (holder.Bottom ∷ o) = ⊥

abbrev ProperTurn : Turn → Type 0
ProperTurn wrong = Unit {0}
ProperTurn (on e) = Unit {0}
ProperTurn (enter h e) = Proper (h ∷ [])
ProperTurn (leave e) = Unit {0}

turn_proper : (k : MarkKind) (e : Expect) (top : Holder) → ProperTurn (turn k e top)
turn_proper mark.OpenArray expect.Value top = tt
turn_proper mark.OpenArray expect.ArrayFirst top = tt
turn_proper mark.OpenArray _ top = tt
turn_proper mark.OpenObject expect.Value top = tt
turn_proper mark.OpenObject expect.ArrayFirst top = tt
turn_proper mark.OpenObject _ top = tt
turn_proper mark.CloseArray expect.ArrayFirst holder.Array = tt
turn_proper mark.CloseArray expect.After holder.Array = tt
turn_proper mark.CloseArray _ _ = tt
turn_proper mark.CloseObject expect.ObjectFirst holder.Object = tt
turn_proper mark.CloseObject expect.After holder.Object = tt
turn_proper mark.CloseObject _ _ = tt
turn_proper mark.Colon expect.Colon top = tt
turn_proper mark.Colon _ top = tt
turn_proper mark.Comma expect.After holder.Array = tt
turn_proper mark.Comma expect.After holder.Object = tt
turn_proper mark.Comma _ _ = tt
turn_proper mark.String expect.Value top = tt
turn_proper mark.String expect.ArrayFirst top = tt
turn_proper mark.String expect.ObjectFirst top = tt
turn_proper mark.String expect.Name top = tt
turn_proper mark.String _ top = tt
turn_proper mark.Number expect.Value top = tt
turn_proper mark.Number expect.ArrayFirst top = tt
turn_proper mark.Number _ top = tt
turn_proper mark.True expect.Value top = tt
turn_proper mark.True expect.ArrayFirst top = tt
turn_proper mark.True _ top = tt
turn_proper mark.False expect.Value top = tt
turn_proper mark.False expect.ArrayFirst top = tt
turn_proper mark.False _ top = tt
turn_proper mark.Null expect.Value top = tt
turn_proper mark.Null expect.ArrayFirst top = tt
turn_proper mark.Null _ top = tt

abbrev pub ProperOutcome : TextReading → Type 0
ProperOutcome (went s e o) = Proper o
ProperOutcome (stopped at) = Unit {0}
ProperOutcome (too_deep at) = Unit {0}

outer_proper : (o : List Holder) → Proper o → Proper (drop 1 o)
outer_proper [] p = tt
outer_proper (holder.Array ∷ o) p = p
outer_proper (holder.Object ∷ o) p = p
outer_proper (holder.Bottom ∷ o) p = absurd p

entered : (h : Holder) (o : List Holder) → Proper (h ∷ []) → Proper o → Proper (h ∷ o)
entered holder.Array o q p = p
entered holder.Object o q p = p
entered holder.Bottom o q p = q

-- ---- fixed bytes for a state, for an expectation, and the closes of the open list

finishes : (s : LexState) → Inside s (finish s) state.Gap
unfolding class_at as_gap
finishes state.Gap = stays
finishes state.Str = (step refl refl stays)
finishes state.Esc = (step refl refl (step refl refl stays))
finishes state.Hex4 = (step refl refl (step refl refl (step refl refl (step refl refl (step refl refl stays)))))
finishes state.Hex3 = (step refl refl (step refl refl (step refl refl (step refl refl stays))))
finishes state.Hex2 = (step refl refl (step refl refl (step refl refl stays)))
finishes state.Hex1 = (step refl refl (step refl refl stays))
finishes state.Tail1 = (step refl refl (step refl refl stays))
finishes state.Tail2 = (step refl refl (step refl refl (step refl refl stays)))
finishes state.Tail3 = (step refl refl (step refl refl (step refl refl (step refl refl stays))))
finishes state.AfterE0 = (step refl refl (step refl refl (step refl refl stays)))
finishes state.AfterEd = (step refl refl (step refl refl (step refl refl stays)))
finishes state.AfterF0 = (step refl refl (step refl refl (step refl refl (step refl refl stays))))
finishes state.AfterF4 = (step refl refl (step refl refl (step refl refl (step refl refl stays))))
finishes state.Minus = (step refl refl (step refl refl stays))
finishes state.Zero = (step refl refl stays)
finishes state.Int = (step refl refl stays)
finishes state.Dot = (step refl refl (step refl refl stays))
finishes state.Frac = (step refl refl stays)
finishes state.E = (step refl refl (step refl refl stays))
finishes state.ESign = (step refl refl (step refl refl stays))
finishes state.Exp = (step refl refl stays)
finishes state.T = (step refl refl (step refl refl (step refl refl stays)))
finishes state.Tr = (step refl refl (step refl refl stays))
finishes state.Tru = (step refl refl stays)
finishes state.F = (step refl refl (step refl refl (step refl refl (step refl refl stays))))
finishes state.Fa = (step refl refl (step refl refl (step refl refl stays)))
finishes state.Fal = (step refl refl (step refl refl stays))
finishes state.Fals = (step refl refl stays)
finishes state.N = (step refl refl (step refl refl (step refl refl stays)))
finishes state.Nu = (step refl refl (step refl refl stays))
finishes state.Nul = (step refl refl stays)

module _ (limit : ℕ) where
  after_turn-then : (at : ℕ) (o : List Holder) (t : Turn) (f g : Expect → List Holder → TextReading) (k : LexState → Expect → List Holder → TextReading)
      → ((e : Expect) (o : List Holder) → g e o ≡ and_then (f e o) k) → after_turn limit at o t g ≡ and_then (after_turn limit at o t f) k
  after_turn-then at o wrong f g k h = refl
  after_turn-then at o (on e) f g k h = h e o
  after_turn-then at o (enter c e) f g k h = pick (nat_lt (length o) limit)
    where
      pick : (b : Bool) → cond b (g e (c ∷ o)) (too_deep at) ≡ and_then (cond b (f e (c ∷ o)) (too_deep at)) k
      pick true = h e (c ∷ o)
      pick false = refl
  after_turn-then at o (leave e) f g k h = h e _

  after_mark-then : (at : ℕ) (e : Expect) (o : List Holder) (m : Option MarkKind) (f g : Expect → List Holder → TextReading) (k : LexState → Expect → List Holder → TextReading)
      → ((e : Expect) (o : List Holder) → g e o ≡ and_then (f e o) k) → after_mark limit at e o m g ≡ and_then (after_mark limit at e o m f) k
  after_mark-then at e o None f g k h = h e o
  after_mark-then at e o (Some m) f g k h = after_turn-then at o (turn m e (top o)) f g k h

  in_next-then : (at : ℕ) (n : Option LexState) (f g : LexState → TextReading) (k : LexState → Expect → List Holder → TextReading)
      → ((s : LexState) → g s ≡ and_then (f s) k) → in_next at n g ≡ and_then (in_next at n f) k
  in_next-then at None f g k h = refl
  in_next-then at (Some s) f g k h = h s

  pub run-append : (p q : List ℕ) (s : LexState) (e : Expect) (o : List Holder) (at : ℕ)
      → run limit s e o at (p ++ q) ≡ and_then (run limit s e o at p) (λ s e o. run limit s e o (at + length p) q)
  unfolding run
  run-append [] q s e o at = let x : at ≡ at + 0 = omega arith in ap (λ n. run limit s e o n q) x
  run-append (b ∷ p) q s e o at =
      after_mark-then at e o ((move s b).begin) _ _ _
      (λ e' o'. in_next-then at ((move s b).next) _ _ _
      (λ s'. run-append p q s' e' o' (suc at) ∙ ap (λ n. and_then (run limit s' e' o' (suc at) p) (λ s e o. run limit s e o n q)) (let x : suc at + length p ≡ at + suc (length p) = omega arith in x)))

  after_turn-proper : (at : ℕ) (o : List Holder) (t : Turn) (f : Expect → List Holder → TextReading) → ProperTurn t → Proper o
      → ((e : Expect) (o : List Holder) → Proper o → ProperOutcome (f e o)) → ProperOutcome (after_turn limit at o t f)
  after_turn-proper at o wrong f q p h = tt
  after_turn-proper at o (on e) f q p h = h e o p
  after_turn-proper at o (enter c e) f q p h = pick (nat_lt (length o) limit)
    where
      pick : (b : Bool) → ProperOutcome (cond b (f e (c ∷ o)) (too_deep at))
      pick true = h e (c ∷ o) (entered c o q p)
      pick false = tt
  after_turn-proper at o (leave e) f q p h = h e _ (outer_proper o p)

  after_mark-proper : (at : ℕ) (e : Expect) (o : List Holder) (m : Option MarkKind) (f : Expect → List Holder → TextReading) → Proper o
      → ((e : Expect) (o : List Holder) → Proper o → ProperOutcome (f e o)) → ProperOutcome (after_mark limit at e o m f)
  after_mark-proper at e o None f p h = h e o p
  after_mark-proper at e o (Some k) f p h = after_turn-proper at o (turn k e (top o)) f (turn_proper k e (top o)) p h

  in_next-proper : (at : ℕ) (n : Option LexState) (f : LexState → TextReading) → ((s : LexState) → ProperOutcome (f s)) → ProperOutcome (in_next at n f)
  in_next-proper at None f h = tt
  in_next-proper at (Some s) f h = h s

  pub run-proper : (t : List ℕ) (s : LexState) (e : Expect) (o : List Holder) (at : ℕ) → Proper o → ProperOutcome (run limit s e o at t)
  unfolding run
  run-proper [] s e o at p = p
  run-proper (b ∷ t) s e o at p =
      after_mark-proper at e o ((move s b).begin) _ p (λ e' o' p'. in_next-proper at ((move s b).next) _ (λ s'. run-proper t s' e' o' (suc at) p'))

  fills : (e : Expect) (o : List Holder) (at : ℕ) → run limit state.Gap e o at (fill e) ≡ went state.Gap expect.After o
  unfolding run class_at as_gap
  fills expect.Value o at = refl
  fills expect.ArrayFirst o at = refl
  fills expect.ObjectFirst o at = refl
  fills expect.Name o at = refl
  fills expect.Colon o at = refl
  fills expect.After o at = refl

  shuts : (o : List Holder) (at : ℕ) → Proper o → run limit state.Gap expect.After o at (shut o) ≡ went state.Gap expect.After []
  unfolding run class_at
  shuts [] at p = refl
  shuts (holder.Array ∷ o) at p = shuts o (suc at) p
  shuts (holder.Object ∷ o) at p = shuts o (suc at) p
  shuts (holder.Bottom ∷ o) at p = absurd p

  -- every configuration has a completion, which opens nothing
  pub completes : (s : LexState) (e : Expect) (o : List Holder) (at : ℕ) → Proper o → run limit s e o at (completion s e o) ≡ went state.Gap expect.After []
  completes s e o at p =
      run-inside limit (finishes s) e o at (fill e ++ shut o)
      ∙ run-append (fill e) (shut o) state.Gap e o (at + length (finish s))
      ∙ ap (λ r. and_then r (λ s' e' o'. run limit s' e' o' (at + length (finish s) + length (fill e)) (shut o))) (fills e o (at + length (finish s)))
      ∙ shuts o (at + length (finish s) + length (fill e)) p

  -- what was read without a fault goes on to an accepting end
  pub went-accepted : (t : List ℕ) (s s' : LexState) (e e' : Expect) (o o' : List Holder) (at : ℕ) → Proper o → run limit s e o at t ≡ went s' e' o'
      → Accepted (run limit s e o at (t ++ completion s' e' o'))
  went-accepted t s s' e e' o o' at p h =
      let p' : Proper o' = subst ProperOutcome h (run-proper t s e o at p) in
      subst Accepted
      (sym (run-append t (completion s' e' o') s e o at
      ∙ ap (λ r. and_then r (λ s e o. run limit s e o (at + length t) (completion s' e' o'))) h
      ∙ completes s' e' o' (at + length t) p'))
      (accepted final_gap)
