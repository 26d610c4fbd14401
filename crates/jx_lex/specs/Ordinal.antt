-- The lexical states in order.
use Rattle.std.specs.Prelude.{ℕ, List, [], ◌∷◌}
use Rattle.jx_lex.specs.declared.alphabet.state.LexState.{LexState}
use Rattle.jx_lex.specs.declared.alphabet.state.LexState.TheVariants as state

abbrev pub ordinal : LexState → ℕ
ordinal state.Gap = 0
ordinal state.Str = 1
ordinal state.Esc = 2
ordinal state.Hex4 = 3
ordinal state.Hex3 = 4
ordinal state.Hex2 = 5
ordinal state.Hex1 = 6
ordinal state.Tail1 = 7
ordinal state.Tail2 = 8
ordinal state.Tail3 = 9
ordinal state.AfterE0 = 10
ordinal state.AfterEd = 11
ordinal state.AfterF0 = 12
ordinal state.AfterF4 = 13
ordinal state.Minus = 14
ordinal state.Zero = 15
ordinal state.Int = 16
ordinal state.Dot = 17
ordinal state.Frac = 18
ordinal state.E = 19
ordinal state.ESign = 20
ordinal state.Exp = 21
ordinal state.T = 22
ordinal state.Tr = 23
ordinal state.Tru = 24
ordinal state.F = 25
ordinal state.Fa = 26
ordinal state.Fal = 27
ordinal state.Fals = 28
ordinal state.N = 29
ordinal state.Nu = 30
ordinal state.Nul = 31

abbrev pub all_states : List LexState
all_states =
    state.Gap ∷
    state.Str ∷
    state.Esc ∷
    state.Hex4 ∷
    state.Hex3 ∷
    state.Hex2 ∷
    state.Hex1 ∷
    state.Tail1 ∷
    state.Tail2 ∷
    state.Tail3 ∷
    state.AfterE0 ∷
    state.AfterEd ∷
    state.AfterF0 ∷
    state.AfterF4 ∷
    state.Minus ∷
    state.Zero ∷
    state.Int ∷
    state.Dot ∷
    state.Frac ∷
    state.E ∷
    state.ESign ∷
    state.Exp ∷
    state.T ∷
    state.Tr ∷
    state.Tru ∷
    state.F ∷
    state.Fa ∷
    state.Fal ∷
    state.Fals ∷
    state.N ∷
    state.Nu ∷
    state.Nul ∷
    []
