-- Each lexical state stands in its place among all of them.
use Rattle.std.proofs.Common.{◌≡◌, ℕ, ◌<◌, true, get_or, Some, refl, sym, ap, ◌∙◌, arith}
use Rattle.std.specs.Prelude.{slice_get, ◌==◌}
use Rattle.std.proofs.lemmas.Option.{get_or_from_slice_get}
use Rattle.jx_lex.specs.declared.alphabet.state.LexState.{LexState}
use Rattle.jx_lex.specs.declared.alphabet.state.LexState.TheVariants as state
use Rattle.jx_lex.specs.Ordinal.{all_states, ordinal}
use Rattle.jx_lex.proofs.ClassTable.{all_below, all_below-at}

pub ordinal-low : (s : LexState) → ordinal s < 32
ordinal-low state.Gap = omega arith
ordinal-low state.Str = omega arith
ordinal-low state.Esc = omega arith
ordinal-low state.Hex4 = omega arith
ordinal-low state.Hex3 = omega arith
ordinal-low state.Hex2 = omega arith
ordinal-low state.Hex1 = omega arith
ordinal-low state.Tail1 = omega arith
ordinal-low state.Tail2 = omega arith
ordinal-low state.Tail3 = omega arith
ordinal-low state.AfterE0 = omega arith
ordinal-low state.AfterEd = omega arith
ordinal-low state.AfterF0 = omega arith
ordinal-low state.AfterF4 = omega arith
ordinal-low state.Minus = omega arith
ordinal-low state.Zero = omega arith
ordinal-low state.Int = omega arith
ordinal-low state.Dot = omega arith
ordinal-low state.Frac = omega arith
ordinal-low state.E = omega arith
ordinal-low state.ESign = omega arith
ordinal-low state.Exp = omega arith
ordinal-low state.T = omega arith
ordinal-low state.Tr = omega arith
ordinal-low state.Tru = omega arith
ordinal-low state.F = omega arith
ordinal-low state.Fa = omega arith
ordinal-low state.Fal = omega arith
ordinal-low state.Fals = omega arith
ordinal-low state.N = omega arith
ordinal-low state.Nu = omega arith
ordinal-low state.Nul = omega arith

pub state-at : (s : LexState) → slice_get all_states (ordinal s) ≡ Some s
state-at state.Gap = refl
state-at state.Str = refl
state-at state.Esc = refl
state-at state.Hex4 = refl
state-at state.Hex3 = refl
state-at state.Hex2 = refl
state-at state.Hex1 = refl
state-at state.Tail1 = refl
state-at state.Tail2 = refl
state-at state.Tail3 = refl
state-at state.AfterE0 = refl
state-at state.AfterEd = refl
state-at state.AfterF0 = refl
state-at state.AfterF4 = refl
state-at state.Minus = refl
state-at state.Zero = refl
state-at state.Int = refl
state-at state.Dot = refl
state-at state.Frac = refl
state-at state.E = refl
state-at state.ESign = refl
state-at state.Exp = refl
state-at state.T = refl
state-at state.Tr = refl
state-at state.Tru = refl
state-at state.F = refl
state-at state.Fa = refl
state-at state.Fal = refl
state-at state.Fals = refl
state-at state.N = refl
state-at state.Nu = refl
state-at state.Nul = refl

pub state-read : (s : LexState) → get_or all_states (ordinal s) state.Gap ≡ s
state-read s = get_or_from_slice_get all_states (ordinal s) s state.Gap (state-at s)

pub same_ordinal : (s t : LexState) → ordinal s ≡ ordinal t → s ≡ t
same_ordinal s t e = sym (state-read s) ∙ ap (λ n. get_or all_states n state.Gap) e ∙ state-read t

ordinals-right : all_below 32 (λ i. ordinal (get_or all_states i state.Gap) == i) ≡ true
ordinals-right = refl

pub ordinal-at : (i : ℕ) → i < 32 → ordinal (get_or all_states i state.Gap) ≡ i
ordinal-at i low = let e = all_below-at (λ i. ordinal (get_or all_states i state.Gap) == i) 32 ordinals-right i low in grind (arith, e)
