-- A text of the grammar is read without a fault, at its depth.
use Rattle.std.proofs.Common.{◌≡◌, ℕ, suc, ◌+◌, ◌≤◌, ◌<◌, List, [], ◌∷◌, ◌++◌, length, Some, None, refl, ap, ◌∙◌, arith}
use Rattle.std.proofs.lemmas.Bool.Decides.{nat_tests}
use Rattle.jx_lex.specs.declared.kind.Kind.{Kind}
use Rattle.jx_lex.specs.declared.kind.Kind.TheVariants as kind
use Rattle.jx_lex.specs.declared.alphabet.state.LexState.{LexState}
use Rattle.jx_lex.specs.declared.alphabet.state.LexState.TheVariants as state
use Rattle.jx_lex.specs.declared.alphabet.mark.MarkKind.{MarkKind}
use Rattle.jx_lex.specs.declared.alphabet.mark.MarkKind.TheVariants as mark
use Rattle.jx_lex.specs.Classes.{class_at}
use Rattle.jx_lex.specs.Moves.{move, as_gap}
use Rattle.jx_lex.specs.Token.{IsBlank, space, tab, line_feed, carriage_return, IsToken}
use Rattle.jx_lex.specs.TokenStates.{Spells, here, goes, shuts, IsFinal, final_gap, final_zero, final_int, final_frac, final_exp, mark_of}
use Rattle.jx_reduce.specs.declared.table.expect.Expect.{Expect}
use Rattle.jx_reduce.specs.declared.table.expect.Expect.TheVariants as expect
use Rattle.jx_reduce.specs.declared.table.holder.Holder.{Holder}
use Rattle.jx_reduce.specs.declared.table.holder.Holder.TheVariants as holder
use Rattle.jx_reduce.specs.Read.{top}
use Rattle.jx_run.specs.inside.Turns.{on, enter, turn}
use Rattle.jx_run.specs.Reading.{TextReading}
use Rattle.jx_run.specs.Tree.{Tree, Children, depth, deepest}
use Rattle.jx_run.specs.Grammar.{Blanks, no_blanks, blank, Scalar, Value, leaf, empty_array, array, empty_object, object, Items, last_item, item, Members, last_member, member}
use Rattle.jx_run.proofs.Fused.{after_turn, run, on_step, after_mark, in_next}
use Rattle.jx_run.proofs.Lexical.{TokensAreRead}

-- a value may begin
pub data ForValue : Expect → Type 0 where
  at_value : ForValue expect.Value
  at_first : ForValue expect.ArrayFirst

-- a name may begin
pub data ForName : Expect → Type 0 where
  at_name : ForName expect.Name
  at_first_name : ForName expect.ObjectFirst

-- from a state to another over some bytes, with no mark
pub data Inside : LexState → List ℕ → LexState → Type 0 where
  stays : {s : LexState} → Inside s [] s
  step : {s next last : LexState} {b : ℕ} {bs : List ℕ} → (move s b).begin ≡ None → (move s b).next ≡ Some next → Inside next bs last → Inside s (b ∷ bs) last

inside_of : {s last : LexState} {w : List ℕ} → Spells s w last → Inside s w last
inside_of here = stays
inside_of (goes e i) = step (ap (λ m. m.begin) e) (ap (λ m. m.next) e) (inside_of i)
inside_of (shuts e) = step (ap (λ m. m.begin) e) (ap (λ m. m.next) e) stays

module _ (limit : ℕ) where
  -- the bytes of a token after its first leave the expectation and the open list
  pub run-inside : {s last : LexState} {w : List ℕ} → Inside s w last → (e : Expect) (o : List Holder) (at : ℕ) (rest : List ℕ)
      → run limit s e o at (w ++ rest) ≡ run limit last e o (at + length w) rest
  unfolding run
  run-inside stays e o at rest = let x : at ≡ at + 0 = omega arith in ap (λ n. run limit _ e o n rest) x
  run-inside (step {s = s} {next = next} {last = last} {b = b} {bs = bs} h k i) e o at rest =
      ap (λ m. after_mark limit at e o m (λ e o. in_next at ((move s b).next) (λ s. run limit s e o (suc at) (bs ++ rest)))) h
      ∙ ap (λ n. in_next at n (λ s. run limit s e o (suc at) (bs ++ rest))) k
      ∙ run-inside i e o (suc at) rest
      ∙ ap (λ n. run limit last e o n rest) (let x : suc at + length bs ≡ at + suc (length bs) = omega arith in x)

  -- where a reading goes on: in a state between tokens or at a number's end
  pub record Goes (start : TextReading) (e : Expect) (o : List Holder) (at : ℕ) (rest : List ℕ) : Type 0 where
    pub last : LexState
    pub final : IsFinal last
    pub same : start ≡ run limit last e o at rest

  blank_step : (s : LexState) → IsFinal s → {b : ℕ} → IsBlank b → (e : Expect) (o : List Holder) (at : ℕ) (rest : List ℕ)
      → run limit s e o at (b ∷ rest) ≡ run limit state.Gap e o (suc at) rest
  unfolding run class_at as_gap
  blank_step _ final_gap space e o at rest = refl
  blank_step _ final_gap tab e o at rest = refl
  blank_step _ final_gap line_feed e o at rest = refl
  blank_step _ final_gap carriage_return e o at rest = refl
  blank_step _ final_zero space e o at rest = refl
  blank_step _ final_zero tab e o at rest = refl
  blank_step _ final_zero line_feed e o at rest = refl
  blank_step _ final_zero carriage_return e o at rest = refl
  blank_step _ final_int space e o at rest = refl
  blank_step _ final_int tab e o at rest = refl
  blank_step _ final_int line_feed e o at rest = refl
  blank_step _ final_int carriage_return e o at rest = refl
  blank_step _ final_frac space e o at rest = refl
  blank_step _ final_frac tab e o at rest = refl
  blank_step _ final_frac line_feed e o at rest = refl
  blank_step _ final_frac carriage_return e o at rest = refl
  blank_step _ final_exp space e o at rest = refl
  blank_step _ final_exp tab e o at rest = refl
  blank_step _ final_exp line_feed e o at rest = refl
  blank_step _ final_exp carriage_return e o at rest = refl

  pub run-gaps : {i j : ℕ} {t rest : List ℕ} → Blanks i t j rest → (e : Expect) (o : List Holder)
      → run limit state.Gap e o i t ≡ run limit state.Gap e o j rest
  run-gaps no_blanks e o = refl
  run-gaps (blank h bs) e o = blank_step state.Gap final_gap h e o _ _ ∙ run-gaps bs e o

  pub run-blanks : {i j : ℕ} {t rest : List ℕ} → Blanks i t j rest → (s : LexState) → IsFinal s → (e : Expect) (o : List Holder)
      → Goes (run limit s e o i t) e o j rest
  run-blanks no_blanks s f e o = record { last = s; final = f; same = refl }
  run-blanks (blank h bs) s f e o = record { last = state.Gap; final = final_gap; same = blank_step s f h e o _ _ ∙ run-gaps bs e o }

  -- a structural byte is read alike at a number's end
  data Mark : ℕ → MarkKind → Type 0 where
    close_array : Mark 0x5d mark.CloseArray
    close_object : Mark 0x7d mark.CloseObject
    colon : Mark 0x3a mark.Colon
    comma : Mark 0x2c mark.Comma

  mark_step : (s : LexState) → IsFinal s → {b : ℕ} {k : MarkKind} → Mark b k → (e : Expect) (o : List Holder) (at : ℕ) (rest : List ℕ)
      → run limit s e o at (b ∷ rest) ≡ after_turn limit at o (turn k e (top o)) (λ e o. run limit state.Gap e o (suc at) rest)
  unfolding run class_at as_gap
  mark_step _ final_gap close_array e o at rest = refl
  mark_step _ final_gap close_object e o at rest = refl
  mark_step _ final_gap colon e o at rest = refl
  mark_step _ final_gap comma e o at rest = refl
  mark_step _ final_zero close_array e o at rest = refl
  mark_step _ final_zero close_object e o at rest = refl
  mark_step _ final_zero colon e o at rest = refl
  mark_step _ final_zero comma e o at rest = refl
  mark_step _ final_int close_array e o at rest = refl
  mark_step _ final_int close_object e o at rest = refl
  mark_step _ final_int colon e o at rest = refl
  mark_step _ final_int comma e o at rest = refl
  mark_step _ final_frac close_array e o at rest = refl
  mark_step _ final_frac close_object e o at rest = refl
  mark_step _ final_frac colon e o at rest = refl
  mark_step _ final_frac comma e o at rest = refl
  mark_step _ final_exp close_array e o at rest = refl
  mark_step _ final_exp close_object e o at rest = refl
  mark_step _ final_exp colon e o at rest = refl
  mark_step _ final_exp comma e o at rest = refl

  -- a token, at its mark's turn
  run-token : TokensAreRead → {kind : Kind} {i j : ℕ} {t rest : List ℕ} → Scalar kind i t j rest → (e next : Expect) (o : List Holder)
      → turn (mark_of kind) e (top o) ≡ on next → Goes (run limit state.Gap e o i t) next o j rest
  unfolding run
  run-token law {kind = kind} {i = i} {j = j} {t = t} {rest = rest} scalar e next o h =
      let r = law.reads kind scalar.token scalar.is_token in
      record {
        last = r.last;
        final = r.final;
        same =
            ap (λ x. run limit state.Gap e o i x) (scalar.whole ∙ ap (λ x. x ++ rest) r.whole)
            ∙ ap (λ m. on_step limit i e o m (λ s e o. run limit s e o (suc i) (r.bytes ++ rest))) r.begins
            ∙ ap (λ x. after_turn limit i o x (λ e o. run limit r.entry e o (suc i) (r.bytes ++ rest))) h
            ∙ run-inside (inside_of r.inside) next o (suc i) rest
            ∙ ap (λ n. run limit r.last next o n rest) (let x : suc i + length r.bytes ≡ j = omega (arith, scalar.end, ap length r.whole) in x);
      }

  pub from : {a b : TextReading} {e : Expect} {o : List Holder} {at : ℕ} {rest : List ℕ} → a ≡ b → Goes b e o at rest → Goes a e o at rest
  from h g = record { last = g.last; final = g.final; same = h ∙ g.same }

  -- goes on from whatever state was reached
  pub next : {a : TextReading} {e e' : Expect} {o o' : List Holder} {i j : ℕ} {t rest : List ℕ} → Goes a e o i t
      → ((s : LexState) → IsFinal s → Goes (run limit s e o i t) e' o' j rest) → Goes a e' o' j rest
  next g f = from g.same (f g.last g.final)

  opened : (at : ℕ) (o : List Holder) (h : Holder) (first : Expect) (more : Expect → List Holder → TextReading)
      → length o < limit → after_turn limit at o (enter h first) more ≡ more first (h ∷ o)
  opened at o h first more lt = grind (arith, nat_tests)

  open_array : (e : Expect) → ForValue e → (o : List Holder) → length o < limit → (i : ℕ) (t : List ℕ)
      → run limit state.Gap e o i (0x5b ∷ t) ≡ run limit state.Gap expect.ArrayFirst (holder.Array ∷ o) (suc i) t
  unfolding run class_at
  open_array _ at_value o lt i t = opened i o holder.Array expect.ArrayFirst (λ e o. run limit state.Gap e o (suc i) t) lt
  open_array _ at_first o lt i t = opened i o holder.Array expect.ArrayFirst (λ e o. run limit state.Gap e o (suc i) t) lt

  open_object : (e : Expect) → ForValue e → (o : List Holder) → length o < limit → (i : ℕ) (t : List ℕ)
      → run limit state.Gap e o i (0x7b ∷ t) ≡ run limit state.Gap expect.ObjectFirst (holder.Object ∷ o) (suc i) t
  unfolding run class_at
  open_object _ at_value o lt i t = opened i o holder.Object expect.ObjectFirst (λ e o. run limit state.Gap e o (suc i) t) lt
  open_object _ at_first o lt i t = opened i o holder.Object expect.ObjectFirst (λ e o. run limit state.Gap e o (suc i) t) lt

  scalar_turn : (k : Kind) (w : List ℕ) → IsToken k w → (e : Expect) → ForValue e → (top : Holder) → turn (mark_of k) e top ≡ on expect.After
  scalar_turn kind.Object w h e f top = absurd h
  scalar_turn kind.Array w h e f top = absurd h
  scalar_turn kind.String w h _ at_value top = refl
  scalar_turn kind.String w h _ at_first top = refl
  scalar_turn kind.Number w h _ at_value top = refl
  scalar_turn kind.Number w h _ at_first top = refl
  scalar_turn kind.True w h _ at_value top = refl
  scalar_turn kind.True w h _ at_first top = refl
  scalar_turn kind.False w h _ at_value top = refl
  scalar_turn kind.False w h _ at_first top = refl
  scalar_turn kind.Null w h _ at_value top = refl
  scalar_turn kind.Null w h _ at_first top = refl

  name_turn : (e : Expect) → ForName e → (top : Holder) → turn mark.String e top ≡ on expect.Colon
  name_turn _ at_name top = refl
  name_turn _ at_first_name top = refl

  -- after a value: what closes the innermost container
  closes_array : (s : LexState) → IsFinal s → (o : List Holder) (j : ℕ) (rest : List ℕ)
      → Goes (run limit s expect.After (holder.Array ∷ o) j (0x5d ∷ rest)) expect.After o (suc j) rest
  closes_array s f o j rest = record { last = state.Gap; final = final_gap; same = mark_step s f close_array expect.After (holder.Array ∷ o) j rest }

  closes_object : (s : LexState) → IsFinal s → (o : List Holder) (j : ℕ) (rest : List ℕ)
      → Goes (run limit s expect.After (holder.Object ∷ o) j (0x7d ∷ rest)) expect.After o (suc j) rest
  closes_object s f o j rest = record { last = state.Gap; final = final_gap; same = mark_step s f close_object expect.After (holder.Object ∷ o) j rest }

  mutual
    pub value_goes : TokensAreRead → {i j : ℕ} {t rest : List ℕ} {tree : Tree} → Value i t j rest tree → (e : Expect) → ForValue e → (o : List Holder)
        → depth tree + length o ≤ limit → Goes (run limit state.Gap e o i t) expect.After o j rest
    value_goes law (leaf {kind = k} s) e f o le = run-token law s e expect.After o (scalar_turn k s.token s.is_token e f (top o))
    value_goes law (empty_array {i = i} {j = j} {bytes = t} {rest = rest} bs) e f o le =
        from (open_array e f o (omega arith) i t ∙ run-gaps bs expect.ArrayFirst (holder.Array ∷ o) ∙ mark_step state.Gap final_gap close_array expect.ArrayFirst (holder.Array ∷ o) j rest)
        (record { last = state.Gap; final = final_gap; same = refl })
    value_goes law (array {i = i} {j = j} {bytes = t} {rest = rest} xs) e f o le =
        from (open_array e f o (omega arith) i t) (next (items_goes law xs expect.ArrayFirst at_first o (omega arith)) (λ s h. closes_array s h o j rest))
    value_goes law (empty_object {i = i} {j = j} {bytes = t} {rest = rest} bs) e f o le =
        from (open_object e f o (omega arith) i t ∙ run-gaps bs expect.ObjectFirst (holder.Object ∷ o) ∙ mark_step state.Gap final_gap close_object expect.ObjectFirst (holder.Object ∷ o) j rest)
        (record { last = state.Gap; final = final_gap; same = refl })
    value_goes law (object {i = i} {j = j} {bytes = t} {rest = rest} xs) e f o le =
        from (open_object e f o (omega arith) i t) (next (members_goes law xs expect.ObjectFirst at_first_name o (omega arith)) (λ s h. closes_object s h o j rest))

    pub items_goes : TokensAreRead → {i j : ℕ} {t rest : List ℕ} {children : Children} → Items i t j rest children → (e : Expect) → ForValue e → (o : List Holder)
        → deepest children + suc (length o) ≤ limit → Goes (run limit state.Gap e (holder.Array ∷ o) i t) expect.After (holder.Array ∷ o) j rest
    items_goes law (last_item bs v cs) e f o le =
        from (run-gaps bs e (holder.Array ∷ o)) (next (value_goes law v e f (holder.Array ∷ o) (omega arith))
        (λ s h. run-blanks cs s h expect.After (holder.Array ∷ o)))
    items_goes law (item {l = l} {t3 = t3} bs v cs xs) e f o le =
        from (run-gaps bs e (holder.Array ∷ o)) (next (value_goes law v e f (holder.Array ∷ o) (omega arith))
        (λ s h. next (run-blanks cs s h expect.After (holder.Array ∷ o))
        (λ s h. from (mark_step s h comma expect.After (holder.Array ∷ o) l t3) (items_goes law xs expect.Value at_value o (omega arith)))))

    pub members_goes : TokensAreRead → {i j : ℕ} {t rest : List ℕ} {children : Children} → Members i t j rest children → (e : Expect) → ForName e → (o : List Holder)
        → deepest children + suc (length o) ≤ limit → Goes (run limit state.Gap e (holder.Object ∷ o) i t) expect.After (holder.Object ∷ o) j rest
    members_goes law (last_member {l = l} {t3 = t3} bs n cs ds v es) e f o le =
        from (run-gaps bs e (holder.Object ∷ o)) (next (run-token law n e expect.Colon (holder.Object ∷ o) (name_turn e f holder.Object))
        (λ s h. next (run-blanks cs s h expect.Colon (holder.Object ∷ o))
        (λ s h. from (mark_step s h colon expect.Colon (holder.Object ∷ o) l t3 ∙ run-gaps ds expect.Value (holder.Object ∷ o))
        (next (value_goes law v expect.Value at_value (holder.Object ∷ o) (omega arith))
        (λ s h. run-blanks es s h expect.After (holder.Object ∷ o))))))
    members_goes law (member {l = l} {o = p} {t3 = t3} {t6 = t6} bs n cs ds v es xs) e f o le =
        from (run-gaps bs e (holder.Object ∷ o)) (next (run-token law n e expect.Colon (holder.Object ∷ o) (name_turn e f holder.Object))
        (λ s h. next (run-blanks cs s h expect.Colon (holder.Object ∷ o))
        (λ s h. from (mark_step s h colon expect.Colon (holder.Object ∷ o) l t3 ∙ run-gaps ds expect.Value (holder.Object ∷ o))
        (next (value_goes law v expect.Value at_value (holder.Object ∷ o) (omega arith))
        (λ s h. next (run-blanks es s h expect.After (holder.Object ∷ o))
        (λ s h. from (mark_step s h comma expect.After (holder.Object ∷ o) p t6) (members_goes law xs expect.Name at_name o (omega arith))))))))
