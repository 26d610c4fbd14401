-- Inside a token a sink awaits its end, and between tokens a mark.
use Rattle.std.proofs.Common.{◌≡◌, ◌⊎◌, inl, inr, ℕ, true, false, List, [], ◌∷◌, Some, refl, sym, ap, subst, ◌∙◌}
use Rattle.std.specs.Prelude.{IfSome}
use Rattle.jx_lex.specs.declared.alphabet.mark.MarkKind.{MarkKind}
use Rattle.jx_lex.specs.declared.kind.Kind.{Kind}
use Rattle.jx_lex.specs.declared.kind.Kind.TheVariants as kind
use Rattle.jx_lex.specs.declared.alphabet.state.LexState.{LexState}
use Rattle.jx_lex.specs.declared.alphabet.state.LexState.TheVariants as state
use Rattle.jx_lex.specs.declared.alphabet.state.Step.{Step}
use Rattle.jx_lex.specs.declared.alphabet.state.TokenEnd.TheVariants.{Before}
use Rattle.jx_lex.specs.Classes.{class_at}
use Rattle.jx_lex.specs.Moves.{move, go, as_gap}
use Rattle.jx_lex.specs.Seen.{Awaits, Leaves, Takes, has_end}
use Rattle.jx_lex.specs.TokenStates.{in_token, mark_of}
use Rattle.jx_lex.specs.TokenSteps.{TokenStep, goes_on, ends, ended, fails, IsScalar, IsStructural, open_array, close_array, open_object, close_object, colon, comma, GapStep, a_blank, a_token, a_mark, no_step}
use Rattle.jx_lex.specs.Uneventful.{Leads}
use Rattle.jx_lex.proofs.Recognized.{gap_step, token_step}

scalar_ends : (k : Kind) → IsScalar k → has_end (mark_of k) ≡ true
scalar_ends kind.Object h = absurd h
scalar_ends kind.Array h = absurd h
scalar_ends kind.String h = refl
scalar_ends kind.Number h = refl
scalar_ends kind.True h = refl
scalar_ends kind.False h = refl
scalar_ends kind.Null h = refl

structural_has_none : {b : ℕ} {k : MarkKind} → IsStructural b k → has_end k ≡ false
structural_has_none open_array = refl
structural_has_none close_array = refl
structural_has_none open_object = refl
structural_has_none close_object = refl
structural_has_none colon = refl
structural_has_none comma = refl

-- every other state is one of a token
stands : (s : LexState) → (s ≡ state.Gap) ⊎ (in_token s ≡ true)
stands state.Gap = inl refl
stands _ = inr refl

-- ---- before a byte

abbrev Asks : Awaits → Step → Type 0
Asks awaits m = Takes awaits m.end m.begin

asks_between : (awaits : Awaits) (b : ℕ) → GapStep b → awaits false → Asks awaits (move state.Gap b)
asks_between awaits b (a_blank h e) w = subst (Asks awaits) (sym e) tt
asks_between awaits b (a_token k entry h inside e) w = subst (Asks awaits) (sym e) w
asks_between awaits b (a_mark h e) w = subst (Asks awaits) (sym e) w
asks_between awaits b (no_step e) w = subst (Asks awaits) (sym e) tt

asks_ended : (awaits : Awaits) (b : ℕ) → awaits true → Asks awaits (as_gap (class_at b))
unfolding as_gap
asks_ended awaits b w = w

asks_inside : (awaits : Awaits) (s : LexState) (b : ℕ) → TokenStep s b → awaits true → Asks awaits (move s b)
asks_inside awaits s b (goes_on h e) w = subst (Asks awaits) (sym e) tt
asks_inside awaits s b (ends e) w = subst (Asks awaits) (sym e) w
asks_inside awaits s b (ended f e) w = subst (Asks awaits) (sym e) (asks_ended awaits b w)
asks_inside awaits s b (fails e) w = subst (Asks awaits) (sym e) tt

asks_in : (awaits : Awaits) (s : LexState) (b : ℕ) → (s ≡ state.Gap) ⊎ (in_token s ≡ true) → awaits (in_token s) → Takes awaits (move s b).end (move s b).begin
asks_in awaits s b (inl e) w = subst (λ s. Asks awaits (move s b)) (sym e) (asks_between awaits b (gap_step b) (subst (λ s. awaits (in_token s)) e w))
asks_in awaits s b (inr e) w = asks_inside awaits s b (token_step s b e) (subst awaits e w)

pub takes : (awaits : Awaits) (s : LexState) (b : ℕ) → awaits (in_token s) → Takes awaits (move s b).end (move s b).begin
takes awaits s b w = asks_in awaits s b (stands s) w

-- ---- behind it

abbrev Told : Awaits → Awaits → Step → Type 0
Told old new m = Leaves old new m.begin m.end → IfSome m.next (λ t. new (in_token t))

told_between : (old new : Awaits) (b : ℕ) → GapStep b → old false → Told old new (move state.Gap b)
told_between old new b (a_blank h e) w = subst (Told old new) (sym e) (λ l. l false w)
told_between old new b (a_token k entry h inside e) w = subst (Told old new) (sym e) (λ l. subst new (scalar_ends k h ∙ sym inside) l)
told_between old new b (a_mark h e) w = subst (Told old new) (sym e) (λ l. subst new (structural_has_none h) l)
told_between old new b (no_step e) w = subst (Told old new) (sym e) (λ l. tt)

told_ended : (old new : Awaits) (b : ℕ) → GapStep b → Told old new (as_gap (class_at b))
unfolding as_gap
told_ended old new b (a_blank h e) = subst (λ (m : Step). Told old new (record m { end = Some Before })) (sym e) (λ l. l)
told_ended old new b (a_token k entry h inside e) = subst (λ (m : Step). Told old new (record m { end = Some Before })) (sym e) (λ l. subst new (scalar_ends k h ∙ sym inside) l)
told_ended old new b (a_mark h e) = subst (λ (m : Step). Told old new (record m { end = Some Before })) (sym e) (λ l. subst new (structural_has_none h) l)
told_ended old new b (no_step e) = subst (λ (m : Step). Told old new (record m { end = Some Before })) (sym e) (λ l. tt)

told_inside : (old new : Awaits) (s : LexState) (b : ℕ) → TokenStep s b → old true → Told old new (move s b)
told_inside old new s b (goes_on h e) w = subst (Told old new) (sym e) (λ l. subst new (sym h) (l true w))
told_inside old new s b (ends e) w = subst (Told old new) (sym e) (λ l. l)
told_inside old new s b (ended f e) w = subst (Told old new) (sym e) (told_ended old new b (gap_step b))
told_inside old new s b (fails e) w = subst (Told old new) (sym e) (λ l. tt)

told_in : (old new : Awaits) (s : LexState) (b : ℕ) → (s ≡ state.Gap) ⊎ (in_token s ≡ true) → old (in_token s) → Told old new (move s b)
told_in old new s b (inl e) w = subst (λ s. Told old new (move s b)) (sym e) (told_between old new b (gap_step b) (subst (λ s. old (in_token s)) e w))
told_in old new s b (inr e) w = told_inside old new s b (token_step s b e) (subst old e w)

pub told : (old new : Awaits) (s : LexState) (b : ℕ) → old (in_token s) → Leaves old new (move s b).begin (move s b).end → IfSome (move s b).next (λ t. new (in_token t))
told old new s b w l = told_in old new s b (stands s) w l

-- ---- bytes without an event

-- a byte that only leads on keeps a sink's turn
keeps : (s next : LexState) (b : ℕ) → move s b ≡ go next → in_token next ≡ in_token s
keeps s next b e =
    let P : Step → Type 0 = λ m. IfSome m.next (λ t. in_token t ≡ in_token s) in
    subst P e (told (λ inside. inside ≡ in_token s) (λ inside. inside ≡ in_token s) s b refl (subst (λ (m : Step). Leaves (λ inside. inside ≡ in_token s) (λ inside. inside ≡ in_token s) m.begin m.end) (sym e) (λ inside w. w)))

pub leads_inside : (s : LexState) (u : List ℕ) (t : LexState) → Leads s u t → in_token t ≡ in_token s
leads_inside s [] t h = ap in_token (sym h)
leads_inside s (b ∷ u) t h = leads_inside h.0 u t h.2 ∙ keeps s h.0 b h.1
