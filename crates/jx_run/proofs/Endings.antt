-- What one byte does, and where a reading first stops: for every depth, and wherever the bytes stand.
use Rattle.std.proofs.Common.{◌≡◌, ℕ, suc, ◌+◌, ◌≤◌, ◌<◌, List, [], ◌∷◌, length, take, Option, Some, None, Bool, true, false, cond, drop, refl, sym, ap, subst, ◌∙◌, arith}
use Rattle.std.specs.Prelude.{nat_lt}
use Rattle.std.proofs.lemmas.Bool.Decides.{nat_tests}
use Rattle.jx_lex.specs.declared.alphabet.state.LexState.{LexState}
use Rattle.jx_lex.specs.declared.alphabet.state.LexState.TheVariants as state
use Rattle.jx_lex.specs.declared.alphabet.mark.MarkKind.{MarkKind}
use Rattle.jx_lex.specs.declared.alphabet.state.Step.{Step}
use Rattle.jx_lex.specs.Moves.{move, as_gap}
use Rattle.jx_lex.specs.Classes.{class_at}
use Rattle.jx_lex.specs.TokenStates.{in_token}
use Rattle.jx_lex.specs.TokenSteps.{TokenStep, goes_on as token_goes_on, ends, ended, fails, GapStep, a_blank, a_token, a_mark, no_step}
use Rattle.jx_reduce.specs.declared.table.expect.Expect.{Expect}
use Rattle.jx_reduce.specs.declared.table.holder.Holder.{Holder}
use Rattle.jx_reduce.specs.Read.{top}
use Rattle.jx_run.specs.inside.Turns.{Turn, wrong, on, enter, leave, turn}
use Rattle.jx_run.specs.Reading.{TextReading, went, stopped, too_deep}
use Rattle.jx_run.proofs.Fused.{after_turn, run, on_step}
use Rattle.jx_run.proofs.Lexical.{TokensAreRead, gap_of}

-- a byte that begins a token, or that is a mark, is no fault of the lexical machine
abbrev begin_ok : Option MarkKind → Option LexState → Type 0
begin_ok (Some k) None = ⊥
begin_ok (Some k) (Some s) = Unit {0}
begin_ok None n = Unit {0}

abbrev BeginOk : Step → Type 0
BeginOk st = begin_ok st.begin st.next

gap_ok : TokensAreRead → (b : ℕ) → BeginOk (move state.Gap b)
gap_ok law b = pick (law.gaps b)
  where
    pick : GapStep b → BeginOk (move state.Gap b)
    pick (a_blank h m) = subst BeginOk (sym m) tt
    pick (a_token k entry scalar h m) = subst BeginOk (sym m) tt
    pick (a_mark h m) = subst BeginOk (sym m) tt
    pick (no_step m) = subst BeginOk (sym m) tt

gap_same : (b : ℕ) → BeginOk (move state.Gap b) → BeginOk (as_gap (class_at b))
unfolding as_gap
gap_same b h = h

token_ok : TokensAreRead → (s : LexState) (b : ℕ) → in_token s ≡ true → BeginOk (move s b)
token_ok law s b inside = pick (law.steps s b inside)
  where
    pick : TokenStep s b → BeginOk (move s b)
    pick (token_goes_on h m) = subst BeginOk (sym m) tt
    pick (ends m) = subst BeginOk (sym m) tt
    pick (ended f m) = subst BeginOk (sym m) (gap_same b (gap_ok law b))
    pick (fails m) = subst BeginOk (sym m) tt

moves_ok : TokensAreRead → (s : LexState) (b : ℕ) → BeginOk (move s b)
moves_ok law s b = pick (in_token s) refl
  where
    pick : (c : Bool) → in_token s ≡ c → BeginOk (move s b)
    pick true h = token_ok law s b h
    pick false h = subst (λ (x : LexState). BeginOk (move x b)) (sym (gap_of s h)) (gap_ok law b)

abbrev More : Type 0
More = LexState → Expect → List Holder → TextReading

-- at this depth the byte goes on, and so it does at any greater one; or it is a fault at each depth; or it opens one container too many
data StepKind (limit : ℕ) (e : Expect) (o : List Holder) (st : Step) : Type 0 where
  continues : (s' : LexState) (e' : Expect) (o' : List Holder) → ((d at : ℕ) (more : More) → limit ≤ d → on_step d at e o st more ≡ more s' e' o') → StepKind limit e o st
  stops : ((d at : ℕ) (more : More) → on_step d at e o st more ≡ stopped at) → StepKind limit e o st
  deepens : (s' : LexState) (e' : Expect) (o' : List Holder) → limit ≤ length o → ((at : ℕ) (more : More) → on_step limit at e o st more ≡ too_deep at)
      → ((d at : ℕ) (more : More) → length o < d → on_step d at e o st more ≡ more s' e' o') → StepKind limit e o st

entered : (d m : ℕ) (x y : TextReading) → m < d → cond (nat_lt m d) x y ≡ x
entered d m x y lt = grind (arith, nat_tests)

refused : (d m : ℕ) (x y : TextReading) → d ≤ m → cond (nat_lt m d) x y ≡ y
refused d m x y le = grind (arith, nat_tests)

turn_kind : (limit : ℕ) (e : Expect) (o : List Holder) (end : _) (k : MarkKind) (s' : LexState) (t : Turn) → turn k e (top o) ≡ t
    → StepKind limit e o (record { end = end; begin = Some k; next = Some s' })
turn_kind limit e o end k s' wrong h = stops (λ d at more. ap (λ t. after_turn d at o t (λ e o. more s' e o)) h)
turn_kind limit e o end k s' (on e') h = continues s' e' o (λ d at more le. ap (λ t. after_turn d at o t (λ e o. more s' e o)) h)
turn_kind limit e o end k s' (leave e') h = continues s' e' (drop 1 o) (λ d at more le. ap (λ t. after_turn d at o t (λ e o. more s' e o)) h)
turn_kind limit e o end k s' (enter c e') h = pick (nat_lt (length o) limit) refl
  where
    pick : (b : Bool) → nat_lt (length o) limit ≡ b → StepKind limit e o (record { end = end; begin = Some k; next = Some s' })
    pick true q = continues s' e' (c ∷ o) (λ d at more le. ap (λ t. after_turn d at o t (λ e o. more s' e o)) h ∙ entered d (length o) _ _ (let x : length o < limit = grind (arith, nat_tests) in omega arith))
    pick false q =
        deepens s' e' (c ∷ o) (grind (arith, nat_tests))
        (λ at more. ap (λ t. after_turn limit at o t (λ e o. more s' e o)) h ∙ refused limit (length o) _ _ (grind (arith, nat_tests)))
        (λ d at more lt. ap (λ t. after_turn d at o t (λ e o. more s' e o)) h ∙ entered d (length o) _ _ lt)

step_kind : (limit : ℕ) (e : Expect) (o : List Holder) (st : Step) → BeginOk st → StepKind limit e o st
step_kind limit e o st ok = by_parts st.end st.begin st.next ok
  where
    by_parts : (end : _) (m : Option MarkKind) (n : Option LexState) → begin_ok m n → StepKind limit e o (record { end = end; begin = m; next = n })
    by_parts end None None ok = stops (λ d at more. refl)
    by_parts end None (Some s') ok = continues s' e o (λ d at more le. refl)
    by_parts end (Some k) None ok = absurd ok
    by_parts end (Some k) (Some s') ok = turn_kind limit e o end k s' (turn k e (top o)) refl

-- how a reading ends
pub data Ending (limit : ℕ) (s : LexState) (e : Expect) (o : List Holder) (t : List ℕ) : Type 0 where
  goes_on : (s' : LexState) (e' : Expect) (o' : List Holder) → ((d at : ℕ) → limit ≤ d → run d s e o at t ≡ went s' e' o') → Ending limit s e o t
  is_stopped : (k : ℕ) → k < length t → (s' : LexState) (e' : Expect) (o' : List Holder)
      → ((at : ℕ) → run limit s e o at t ≡ stopped (at + k)) → ((d at : ℕ) → limit ≤ d → run d s e o at (take k t) ≡ went s' e' o')
      → ((d at : ℕ) → limit ≤ d → run d s e o at (take (suc k) t) ≡ stopped (at + k)) → Ending limit s e o t
  is_deep : (k : ℕ) → k < length t → (s' : LexState) (e' : Expect) (o' : List Holder)
      → ((at : ℕ) → run limit s e o at t ≡ too_deep (at + k)) → ((d at : ℕ) → limit ≤ d → run d s e o at (take k t) ≡ went s' e' o')
      → ((at : ℕ) → run limit s e o at (take (suc k) t) ≡ too_deep (at + k))
      → (d : ℕ) (s'' : LexState) (e'' : Expect) (o'' : List Holder) → limit ≤ d → ((at : ℕ) → run d s e o at (take (suc k) t) ≡ went s'' e'' o'') → Ending limit s e o t

later : (f : ℕ → TextReading) (at k : ℕ) → f (suc at + k) ≡ f (at + suc k)
later f at k = ap f (omega arith)

pub ending : TokensAreRead → (limit : ℕ) (t : List ℕ) (s : LexState) (e : Expect) (o : List Holder) → Ending limit s e o t
unfolding run
ending law limit [] s e o = goes_on s e o (λ d at le. refl)
ending law limit (b ∷ t) s e o = by_kind (step_kind limit e o (move s b) (moves_ok law s b)) (λ s' e' o'. ending law limit t s' e' o')
  where
    onwards : (s' : LexState) (e' : Expect) (o' : List Holder) → ((d at : ℕ) (more : More) → limit ≤ d → on_step d at e o (move s b) more ≡ more s' e' o')
        → Ending limit s' e' o' t → Ending limit s e o (b ∷ t)
    onwards s' e' o' h (goes_on s1 e1 o1 f) = goes_on s1 e1 o1 (λ d at le. h d at _ le ∙ f d (suc at) le)
    onwards s' e' o' h (is_stopped k lt s1 e1 o1 f g p) =
        is_stopped (suc k) (omega arith) s1 e1 o1 (λ at. h limit at _ (omega arith) ∙ f (suc at) ∙ later stopped at k) (λ d at le. h d at _ le ∙ g d (suc at) le) (λ d at le. h d at _ le ∙ p d (suc at) le ∙ later stopped at k)
    onwards s' e' o' h (is_deep k lt s1 e1 o1 f g p d s2 e2 o2 le q) =
        is_deep (suc k) (omega arith) s1 e1 o1 (λ at. h limit at _ (omega arith) ∙ f (suc at) ∙ later too_deep at k) (λ d at le. h d at _ le ∙ g d (suc at) le) (λ at. h limit at _ (omega arith) ∙ p (suc at) ∙ later too_deep at k)
        d s2 e2 o2 le (λ at. h d at _ le ∙ q (suc at))

    here : (f : ℕ → TextReading) (at : ℕ) → f at ≡ f (at + 0)
    here f at = ap f (omega arith)

    by_kind : StepKind limit e o (move s b) → ((s' : LexState) (e' : Expect) (o' : List Holder) → Ending limit s' e' o' t) → Ending limit s e o (b ∷ t)
    by_kind (continues s' e' o' h) rec = onwards s' e' o' h (rec s' e' o')
    by_kind (stops h) rec =
        is_stopped 0 (omega arith) s e o (λ at. h limit at _ ∙ here stopped at) (λ d at le. refl) (λ d at le. h d at _ ∙ here stopped at)
    by_kind (deepens s' e' o' le h g) rec =
        is_deep 0 (omega arith) s e o (λ at. h at _ ∙ here too_deep at) (λ d at le. refl) (λ at. h at _ ∙ here too_deep at)
        (suc (length o)) s' e' o' (omega arith) (λ at. g (suc (length o)) at _ (omega arith))
