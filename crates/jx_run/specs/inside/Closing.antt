-- Fixed bytes that end a text which was begun.
use Rattle.std.specs.Prelude.{ℕ, List, [], ◌∷◌, ◌++◌}
use Rattle.jx_lex.specs.declared.alphabet.state.LexState.{LexState}
use Rattle.jx_lex.specs.declared.alphabet.state.LexState.TheVariants as state
use Rattle.jx_reduce.specs.declared.table.expect.Expect.{Expect}
use Rattle.jx_reduce.specs.declared.table.expect.Expect.TheVariants as expect
use Rattle.jx_reduce.specs.declared.table.holder.Holder.{Holder}
use Rattle.jx_reduce.specs.declared.table.holder.Holder.TheVariants as holder

-- the bytes that end the token that a state is in; a number ends before the space
abbrev pub finish : LexState → List ℕ
finish state.Gap = []
finish state.Str = 0x22 ∷ []
finish state.Esc = 0x6e ∷ 0x22 ∷ []
finish state.Hex4 = 0x30 ∷ 0x30 ∷ 0x30 ∷ 0x30 ∷ 0x22 ∷ []
finish state.Hex3 = 0x30 ∷ 0x30 ∷ 0x30 ∷ 0x22 ∷ []
finish state.Hex2 = 0x30 ∷ 0x30 ∷ 0x22 ∷ []
finish state.Hex1 = 0x30 ∷ 0x22 ∷ []
finish state.Tail1 = 0x80 ∷ 0x22 ∷ []
finish state.Tail2 = 0x80 ∷ 0x80 ∷ 0x22 ∷ []
finish state.Tail3 = 0x80 ∷ 0x80 ∷ 0x80 ∷ 0x22 ∷ []
finish state.AfterE0 = 0xa0 ∷ 0x80 ∷ 0x22 ∷ []
finish state.AfterEd = 0x80 ∷ 0x80 ∷ 0x22 ∷ []
finish state.AfterF0 = 0x90 ∷ 0x80 ∷ 0x80 ∷ 0x22 ∷ []
finish state.AfterF4 = 0x80 ∷ 0x80 ∷ 0x80 ∷ 0x22 ∷ []
finish state.Minus = 0x30 ∷ 0x20 ∷ []
finish state.Zero = 0x20 ∷ []
finish state.Int = 0x20 ∷ []
finish state.Dot = 0x30 ∷ 0x20 ∷ []
finish state.Frac = 0x20 ∷ []
finish state.E = 0x30 ∷ 0x20 ∷ []
finish state.ESign = 0x30 ∷ 0x20 ∷ []
finish state.Exp = 0x20 ∷ []
finish state.T = 0x72 ∷ 0x75 ∷ 0x65 ∷ []
finish state.Tr = 0x75 ∷ 0x65 ∷ []
finish state.Tru = 0x65 ∷ []
finish state.F = 0x61 ∷ 0x6c ∷ 0x73 ∷ 0x65 ∷ []
finish state.Fa = 0x6c ∷ 0x73 ∷ 0x65 ∷ []
finish state.Fal = 0x73 ∷ 0x65 ∷ []
finish state.Fals = 0x65 ∷ []
finish state.N = 0x75 ∷ 0x6c ∷ 0x6c ∷ []
finish state.Nu = 0x6c ∷ 0x6c ∷ []
finish state.Nul = 0x6c ∷ []

-- the bytes that are due where this may stand next, up to the end of a value
abbrev pub fill : Expect → List ℕ
fill expect.Value = 0x30 ∷ 0x20 ∷ []
fill expect.ArrayFirst = 0x30 ∷ 0x20 ∷ []
fill expect.ObjectFirst = 0x22 ∷ 0x22 ∷ 0x3a ∷ 0x30 ∷ 0x20 ∷ []
fill expect.Name = 0x22 ∷ 0x22 ∷ 0x3a ∷ 0x30 ∷ 0x20 ∷ []
fill expect.Colon = 0x3a ∷ 0x30 ∷ 0x20 ∷ []
fill expect.After = []

-- the closing brackets of open containers, innermost first
abbrev pub shut : List Holder → List ℕ
shut [] = []
shut (holder.Array ∷ o) = 0x5d ∷ shut o
shut (holder.Object ∷ o) = 0x7d ∷ shut o
shut (holder.Bottom ∷ o) = []

abbrev pub completion : LexState → Expect → List Holder → List ℕ
completion s e o = finish s ++ (fill e ++ shut o)
