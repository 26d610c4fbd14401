-- The choices are exactly what the lexical machine and the table of moves allow: by cases, each by computing.
use Rattle.std.proofs.Common.{◌≡◌, true, refl}
use Rattle.std.specs.Prelude.{◌||◌, is_none, is_some}
use Rattle.jx_lex.specs.Moves.{as_gap, row}
use Rattle.jx_lex.specs.declared.alphabet.class.Class.{Class}
use Rattle.jx_lex.specs.declared.alphabet.class.Class.TheVariants as class
use Rattle.jx_lex.specs.declared.alphabet.state.LexState.{LexState}
use Rattle.jx_lex.specs.declared.alphabet.state.LexState.TheVariants as state
use Rattle.jx_reduce.specs.declared.table.expect.Expect.{Expect}
use Rattle.jx_reduce.specs.declared.table.expect.Expect.TheVariants as expect
use Rattle.jx_reduce.specs.declared.table.holder.Holder.{Holder}
use Rattle.jx_reduce.specs.declared.table.holder.Holder.TheVariants as holder
use Rattle.jx_sentence.specs.Choices.{allowed, are_named, choices}

-- in this state, before bytes of this class
abbrev AreExact : LexState → Expect → Holder → Class → Type 0
AreExact from next top byte_class = are_named (choices from next top) byte_class ≡ allowed from next top byte_class

-- between tokens, by what may stand next
gap-Value : (top : Holder) (byte_class : Class) → AreExact state.Gap expect.Value top byte_class
gap-Value top class.Ctl = refl
gap-Value top _ = refl

gap-ArrayFirst-Array : (byte_class : Class) → AreExact state.Gap expect.ArrayFirst holder.Array byte_class
gap-ArrayFirst-Array class.Ctl = refl
gap-ArrayFirst-Array _ = refl

gap-ArrayFirst-Object : (byte_class : Class) → AreExact state.Gap expect.ArrayFirst holder.Object byte_class
gap-ArrayFirst-Object class.Ctl = refl
gap-ArrayFirst-Object _ = refl

gap-ArrayFirst-Bottom : (byte_class : Class) → AreExact state.Gap expect.ArrayFirst holder.Bottom byte_class
gap-ArrayFirst-Bottom class.Ctl = refl
gap-ArrayFirst-Bottom _ = refl

gap-ObjectFirst-Array : (byte_class : Class) → AreExact state.Gap expect.ObjectFirst holder.Array byte_class
gap-ObjectFirst-Array class.Ctl = refl
gap-ObjectFirst-Array _ = refl

gap-ObjectFirst-Object : (byte_class : Class) → AreExact state.Gap expect.ObjectFirst holder.Object byte_class
gap-ObjectFirst-Object class.Ctl = refl
gap-ObjectFirst-Object _ = refl

gap-ObjectFirst-Bottom : (byte_class : Class) → AreExact state.Gap expect.ObjectFirst holder.Bottom byte_class
gap-ObjectFirst-Bottom class.Ctl = refl
gap-ObjectFirst-Bottom _ = refl

gap-Name : (top : Holder) (byte_class : Class) → AreExact state.Gap expect.Name top byte_class
gap-Name top class.Ctl = refl
gap-Name top _ = refl

gap-Colon : (top : Holder) (byte_class : Class) → AreExact state.Gap expect.Colon top byte_class
gap-Colon top class.Ctl = refl
gap-Colon top _ = refl

gap-After-Array : (byte_class : Class) → AreExact state.Gap expect.After holder.Array byte_class
gap-After-Array class.Ctl = refl
gap-After-Array _ = refl

gap-After-Object : (byte_class : Class) → AreExact state.Gap expect.After holder.Object byte_class
gap-After-Object class.Ctl = refl
gap-After-Object _ = refl

gap-After-Bottom : (byte_class : Class) → AreExact state.Gap expect.After holder.Bottom byte_class
gap-After-Bottom class.Ctl = refl
gap-After-Bottom _ = refl

exact_between : (next : Expect) (top : Holder) (byte_class : Class) → AreExact state.Gap next top byte_class
exact_between expect.Value top c = gap-Value top c
exact_between expect.ArrayFirst holder.Array c = gap-ArrayFirst-Array c
exact_between expect.ArrayFirst holder.Object c = gap-ArrayFirst-Object c
exact_between expect.ArrayFirst holder.Bottom c = gap-ArrayFirst-Bottom c
exact_between expect.ObjectFirst holder.Array c = gap-ObjectFirst-Array c
exact_between expect.ObjectFirst holder.Object c = gap-ObjectFirst-Object c
exact_between expect.ObjectFirst holder.Bottom c = gap-ObjectFirst-Bottom c
exact_between expect.Name top c = gap-Name top c
exact_between expect.Colon top c = gap-Colon top c
exact_between expect.After holder.Array c = gap-After-Array c
exact_between expect.After holder.Object c = gap-After-Object c
exact_between expect.After holder.Bottom c = gap-After-Bottom c

-- inside a token that may not end
in-Str : (next : Expect) (top : Holder) (byte_class : Class) → AreExact state.Str next top byte_class
in-Str next top class.Ctl = refl
in-Str next top _ = refl

in-Esc : (next : Expect) (top : Holder) (byte_class : Class) → AreExact state.Esc next top byte_class
in-Esc next top class.Ctl = refl
in-Esc next top _ = refl

in-Hex4 : (next : Expect) (top : Holder) (byte_class : Class) → AreExact state.Hex4 next top byte_class
in-Hex4 next top class.Ctl = refl
in-Hex4 next top _ = refl

in-Hex3 : (next : Expect) (top : Holder) (byte_class : Class) → AreExact state.Hex3 next top byte_class
in-Hex3 next top class.Ctl = refl
in-Hex3 next top _ = refl

in-Hex2 : (next : Expect) (top : Holder) (byte_class : Class) → AreExact state.Hex2 next top byte_class
in-Hex2 next top class.Ctl = refl
in-Hex2 next top _ = refl

in-Hex1 : (next : Expect) (top : Holder) (byte_class : Class) → AreExact state.Hex1 next top byte_class
in-Hex1 next top class.Ctl = refl
in-Hex1 next top _ = refl

in-Tail1 : (next : Expect) (top : Holder) (byte_class : Class) → AreExact state.Tail1 next top byte_class
in-Tail1 next top class.Ctl = refl
in-Tail1 next top _ = refl

in-Tail2 : (next : Expect) (top : Holder) (byte_class : Class) → AreExact state.Tail2 next top byte_class
in-Tail2 next top class.Ctl = refl
in-Tail2 next top _ = refl

in-Tail3 : (next : Expect) (top : Holder) (byte_class : Class) → AreExact state.Tail3 next top byte_class
in-Tail3 next top class.Ctl = refl
in-Tail3 next top _ = refl

in-AfterE0 : (next : Expect) (top : Holder) (byte_class : Class) → AreExact state.AfterE0 next top byte_class
in-AfterE0 next top class.Ctl = refl
in-AfterE0 next top _ = refl

in-AfterEd : (next : Expect) (top : Holder) (byte_class : Class) → AreExact state.AfterEd next top byte_class
in-AfterEd next top class.Ctl = refl
in-AfterEd next top _ = refl

in-AfterF0 : (next : Expect) (top : Holder) (byte_class : Class) → AreExact state.AfterF0 next top byte_class
in-AfterF0 next top class.Ctl = refl
in-AfterF0 next top _ = refl

in-AfterF4 : (next : Expect) (top : Holder) (byte_class : Class) → AreExact state.AfterF4 next top byte_class
in-AfterF4 next top class.Ctl = refl
in-AfterF4 next top _ = refl

in-Minus : (next : Expect) (top : Holder) (byte_class : Class) → AreExact state.Minus next top byte_class
in-Minus next top class.Ctl = refl
in-Minus next top _ = refl

in-Dot : (next : Expect) (top : Holder) (byte_class : Class) → AreExact state.Dot next top byte_class
in-Dot next top class.Ctl = refl
in-Dot next top _ = refl

in-E : (next : Expect) (top : Holder) (byte_class : Class) → AreExact state.E next top byte_class
in-E next top class.Ctl = refl
in-E next top _ = refl

in-ESign : (next : Expect) (top : Holder) (byte_class : Class) → AreExact state.ESign next top byte_class
in-ESign next top class.Ctl = refl
in-ESign next top _ = refl

in-T : (next : Expect) (top : Holder) (byte_class : Class) → AreExact state.T next top byte_class
in-T next top class.Ctl = refl
in-T next top _ = refl

in-Tr : (next : Expect) (top : Holder) (byte_class : Class) → AreExact state.Tr next top byte_class
in-Tr next top class.Ctl = refl
in-Tr next top _ = refl

in-Tru : (next : Expect) (top : Holder) (byte_class : Class) → AreExact state.Tru next top byte_class
in-Tru next top class.Ctl = refl
in-Tru next top _ = refl

in-F : (next : Expect) (top : Holder) (byte_class : Class) → AreExact state.F next top byte_class
in-F next top class.Ctl = refl
in-F next top _ = refl

in-Fa : (next : Expect) (top : Holder) (byte_class : Class) → AreExact state.Fa next top byte_class
in-Fa next top class.Ctl = refl
in-Fa next top _ = refl

in-Fal : (next : Expect) (top : Holder) (byte_class : Class) → AreExact state.Fal next top byte_class
in-Fal next top class.Ctl = refl
in-Fal next top _ = refl

in-Fals : (next : Expect) (top : Holder) (byte_class : Class) → AreExact state.Fals next top byte_class
in-Fals next top class.Ctl = refl
in-Fals next top _ = refl

in-N : (next : Expect) (top : Holder) (byte_class : Class) → AreExact state.N next top byte_class
in-N next top class.Ctl = refl
in-N next top _ = refl

in-Nu : (next : Expect) (top : Holder) (byte_class : Class) → AreExact state.Nu next top byte_class
in-Nu next top class.Ctl = refl
in-Nu next top _ = refl

in-Nul : (next : Expect) (top : Holder) (byte_class : Class) → AreExact state.Nul next top byte_class
in-Nul next top class.Ctl = refl
in-Nul next top _ = refl

-- in a number that may end: what goes on with it, or what stands between tokens
in-Zero : (next : Expect) (top : Holder) (byte_class : Class) → AreExact state.Zero next top byte_class
unfolding as_gap
in-Zero next top class.Dot = refl
in-Zero next top class.LowE = refl
in-Zero next top class.UpE = refl
in-Zero next top byte_class = exact_between next top byte_class

in-Int : (next : Expect) (top : Holder) (byte_class : Class) → AreExact state.Int next top byte_class
unfolding as_gap
in-Int next top class.Zero = refl
in-Int next top class.Digit = refl
in-Int next top class.Dot = refl
in-Int next top class.LowE = refl
in-Int next top class.UpE = refl
in-Int next top byte_class = exact_between next top byte_class

in-Frac : (next : Expect) (top : Holder) (byte_class : Class) → AreExact state.Frac next top byte_class
unfolding as_gap
in-Frac next top class.Zero = refl
in-Frac next top class.Digit = refl
in-Frac next top class.LowE = refl
in-Frac next top class.UpE = refl
in-Frac next top byte_class = exact_between next top byte_class

in-Exp : (next : Expect) (top : Holder) (byte_class : Class) → AreExact state.Exp next top byte_class
unfolding as_gap
in-Exp next top class.Zero = refl
in-Exp next top class.Digit = refl
in-Exp next top byte_class = exact_between next top byte_class

-- ---- the whole table

pub exact_choices : (from : LexState) (next : Expect) (top : Holder) (byte_class : Class) → AreExact from next top byte_class
exact_choices state.Gap next top byte_class = exact_between next top byte_class
exact_choices state.Str next top byte_class = in-Str next top byte_class
exact_choices state.Esc next top byte_class = in-Esc next top byte_class
exact_choices state.Hex4 next top byte_class = in-Hex4 next top byte_class
exact_choices state.Hex3 next top byte_class = in-Hex3 next top byte_class
exact_choices state.Hex2 next top byte_class = in-Hex2 next top byte_class
exact_choices state.Hex1 next top byte_class = in-Hex1 next top byte_class
exact_choices state.Tail1 next top byte_class = in-Tail1 next top byte_class
exact_choices state.Tail2 next top byte_class = in-Tail2 next top byte_class
exact_choices state.Tail3 next top byte_class = in-Tail3 next top byte_class
exact_choices state.AfterE0 next top byte_class = in-AfterE0 next top byte_class
exact_choices state.AfterEd next top byte_class = in-AfterEd next top byte_class
exact_choices state.AfterF0 next top byte_class = in-AfterF0 next top byte_class
exact_choices state.AfterF4 next top byte_class = in-AfterF4 next top byte_class
exact_choices state.Minus next top byte_class = in-Minus next top byte_class
exact_choices state.Zero next top byte_class = in-Zero next top byte_class
exact_choices state.Int next top byte_class = in-Int next top byte_class
exact_choices state.Dot next top byte_class = in-Dot next top byte_class
exact_choices state.Frac next top byte_class = in-Frac next top byte_class
exact_choices state.E next top byte_class = in-E next top byte_class
exact_choices state.ESign next top byte_class = in-ESign next top byte_class
exact_choices state.Exp next top byte_class = in-Exp next top byte_class
exact_choices state.T next top byte_class = in-T next top byte_class
exact_choices state.Tr next top byte_class = in-Tr next top byte_class
exact_choices state.Tru next top byte_class = in-Tru next top byte_class
exact_choices state.F next top byte_class = in-F next top byte_class
exact_choices state.Fa next top byte_class = in-Fa next top byte_class
exact_choices state.Fal next top byte_class = in-Fal next top byte_class
exact_choices state.Fals next top byte_class = in-Fals next top byte_class
exact_choices state.N next top byte_class = in-N next top byte_class
exact_choices state.Nu next top byte_class = in-Nu next top byte_class
exact_choices state.Nul next top byte_class = in-Nul next top byte_class

-- ---- a mark begins only where the machine goes on

abbrev IsWhole : LexState → Class → Type 0
IsWhole from byte_class = (is_none ((row from byte_class).begin) || is_some ((row from byte_class).next)) ≡ true

whole-Gap : (byte_class : Class) → IsWhole state.Gap byte_class
whole-Gap class.Ctl = refl
whole-Gap _ = refl

whole-Str : (byte_class : Class) → IsWhole state.Str byte_class
whole-Str class.Ctl = refl
whole-Str _ = refl

whole-Esc : (byte_class : Class) → IsWhole state.Esc byte_class
whole-Esc class.Ctl = refl
whole-Esc _ = refl

whole-Hex4 : (byte_class : Class) → IsWhole state.Hex4 byte_class
whole-Hex4 class.Ctl = refl
whole-Hex4 _ = refl

whole-Hex3 : (byte_class : Class) → IsWhole state.Hex3 byte_class
whole-Hex3 class.Ctl = refl
whole-Hex3 _ = refl

whole-Hex2 : (byte_class : Class) → IsWhole state.Hex2 byte_class
whole-Hex2 class.Ctl = refl
whole-Hex2 _ = refl

whole-Hex1 : (byte_class : Class) → IsWhole state.Hex1 byte_class
whole-Hex1 class.Ctl = refl
whole-Hex1 _ = refl

whole-Tail1 : (byte_class : Class) → IsWhole state.Tail1 byte_class
whole-Tail1 class.Ctl = refl
whole-Tail1 _ = refl

whole-Tail2 : (byte_class : Class) → IsWhole state.Tail2 byte_class
whole-Tail2 class.Ctl = refl
whole-Tail2 _ = refl

whole-Tail3 : (byte_class : Class) → IsWhole state.Tail3 byte_class
whole-Tail3 class.Ctl = refl
whole-Tail3 _ = refl

whole-AfterE0 : (byte_class : Class) → IsWhole state.AfterE0 byte_class
whole-AfterE0 class.Ctl = refl
whole-AfterE0 _ = refl

whole-AfterEd : (byte_class : Class) → IsWhole state.AfterEd byte_class
whole-AfterEd class.Ctl = refl
whole-AfterEd _ = refl

whole-AfterF0 : (byte_class : Class) → IsWhole state.AfterF0 byte_class
whole-AfterF0 class.Ctl = refl
whole-AfterF0 _ = refl

whole-AfterF4 : (byte_class : Class) → IsWhole state.AfterF4 byte_class
whole-AfterF4 class.Ctl = refl
whole-AfterF4 _ = refl

whole-Minus : (byte_class : Class) → IsWhole state.Minus byte_class
whole-Minus class.Ctl = refl
whole-Minus _ = refl

whole-Zero : (byte_class : Class) → IsWhole state.Zero byte_class
unfolding as_gap
whole-Zero class.Ctl = refl
whole-Zero _ = refl

whole-Int : (byte_class : Class) → IsWhole state.Int byte_class
unfolding as_gap
whole-Int class.Ctl = refl
whole-Int _ = refl

whole-Dot : (byte_class : Class) → IsWhole state.Dot byte_class
whole-Dot class.Ctl = refl
whole-Dot _ = refl

whole-Frac : (byte_class : Class) → IsWhole state.Frac byte_class
unfolding as_gap
whole-Frac class.Ctl = refl
whole-Frac _ = refl

whole-E : (byte_class : Class) → IsWhole state.E byte_class
whole-E class.Ctl = refl
whole-E _ = refl

whole-ESign : (byte_class : Class) → IsWhole state.ESign byte_class
whole-ESign class.Ctl = refl
whole-ESign _ = refl

whole-Exp : (byte_class : Class) → IsWhole state.Exp byte_class
unfolding as_gap
whole-Exp class.Ctl = refl
whole-Exp _ = refl

whole-T : (byte_class : Class) → IsWhole state.T byte_class
whole-T class.Ctl = refl
whole-T _ = refl

whole-Tr : (byte_class : Class) → IsWhole state.Tr byte_class
whole-Tr class.Ctl = refl
whole-Tr _ = refl

whole-Tru : (byte_class : Class) → IsWhole state.Tru byte_class
whole-Tru class.Ctl = refl
whole-Tru _ = refl

whole-F : (byte_class : Class) → IsWhole state.F byte_class
whole-F class.Ctl = refl
whole-F _ = refl

whole-Fa : (byte_class : Class) → IsWhole state.Fa byte_class
whole-Fa class.Ctl = refl
whole-Fa _ = refl

whole-Fal : (byte_class : Class) → IsWhole state.Fal byte_class
whole-Fal class.Ctl = refl
whole-Fal _ = refl

whole-Fals : (byte_class : Class) → IsWhole state.Fals byte_class
whole-Fals class.Ctl = refl
whole-Fals _ = refl

whole-N : (byte_class : Class) → IsWhole state.N byte_class
whole-N class.Ctl = refl
whole-N _ = refl

whole-Nu : (byte_class : Class) → IsWhole state.Nu byte_class
whole-Nu class.Ctl = refl
whole-Nu _ = refl

whole-Nul : (byte_class : Class) → IsWhole state.Nul byte_class
whole-Nul class.Ctl = refl
whole-Nul _ = refl

pub whole_steps : (from : LexState) (byte_class : Class) → IsWhole from byte_class
whole_steps state.Gap byte_class = whole-Gap byte_class
whole_steps state.Str byte_class = whole-Str byte_class
whole_steps state.Esc byte_class = whole-Esc byte_class
whole_steps state.Hex4 byte_class = whole-Hex4 byte_class
whole_steps state.Hex3 byte_class = whole-Hex3 byte_class
whole_steps state.Hex2 byte_class = whole-Hex2 byte_class
whole_steps state.Hex1 byte_class = whole-Hex1 byte_class
whole_steps state.Tail1 byte_class = whole-Tail1 byte_class
whole_steps state.Tail2 byte_class = whole-Tail2 byte_class
whole_steps state.Tail3 byte_class = whole-Tail3 byte_class
whole_steps state.AfterE0 byte_class = whole-AfterE0 byte_class
whole_steps state.AfterEd byte_class = whole-AfterEd byte_class
whole_steps state.AfterF0 byte_class = whole-AfterF0 byte_class
whole_steps state.AfterF4 byte_class = whole-AfterF4 byte_class
whole_steps state.Minus byte_class = whole-Minus byte_class
whole_steps state.Zero byte_class = whole-Zero byte_class
whole_steps state.Int byte_class = whole-Int byte_class
whole_steps state.Dot byte_class = whole-Dot byte_class
whole_steps state.Frac byte_class = whole-Frac byte_class
whole_steps state.E byte_class = whole-E byte_class
whole_steps state.ESign byte_class = whole-ESign byte_class
whole_steps state.Exp byte_class = whole-Exp byte_class
whole_steps state.T byte_class = whole-T byte_class
whole_steps state.Tr byte_class = whole-Tr byte_class
whole_steps state.Tru byte_class = whole-Tru byte_class
whole_steps state.F byte_class = whole-F byte_class
whole_steps state.Fa byte_class = whole-Fa byte_class
whole_steps state.Fal byte_class = whole-Fal byte_class
whole_steps state.Fals byte_class = whole-Fals byte_class
whole_steps state.N byte_class = whole-N byte_class
whole_steps state.Nu byte_class = whole-Nu byte_class
whole_steps state.Nul byte_class = whole-Nul byte_class
