-- The bytes that may stand at a place of a text, by their classes, and what the lexical machine and the table of moves
-- allow there.
use Rattle.std.specs.Prelude.{List, [], ◌∷◌, ◌++◌, Bool, true, false, ◌&&◌, Option, Some, None, is_some}
use Rattle.std.specs.List.{list_any}
use Rattle.jx_lex.specs.Moves.{row}
use Rattle.jx_lex.specs.declared.alphabet.class.Class.{Class}
use Rattle.jx_lex.specs.declared.alphabet.class.Class.TheVariants as class
use Rattle.jx_lex.specs.declared.alphabet.mark.MarkKind.{MarkKind}
use Rattle.jx_lex.specs.declared.alphabet.state.LexState.{LexState}
use Rattle.jx_lex.specs.declared.alphabet.state.LexState.TheVariants as state
use Rattle.jx_lex.specs.declared.alphabet.state.Step.{Step}
use Rattle.jx_reduce.specs.Table.{next_of}
use Rattle.jx_reduce.specs.declared.table.expect.Expect.{Expect}
use Rattle.jx_reduce.specs.declared.table.expect.Expect.TheVariants as expect
use Rattle.jx_reduce.specs.declared.table.holder.Holder.{Holder}
use Rattle.jx_reduce.specs.declared.table.holder.Holder.TheVariants as holder
use Rattle.jx_sentence.specs.declared.choice.Choice.{Choice}
use Rattle.jx_sentence.specs.declared.choice.Choice.TheVariants.{Blank, Value, Name, Colon, Comma, ArrayEnd, ObjectEnd, Digit, Point, Exponent, Sign, Character, Escape, HexDigit, Tail, Tail80To8F, Tail80To9F, Tail90ToBF, TailA0ToBF, A, E, L, R, S, U}
use Rattle.jx_sentence.specs.declared.choice.Choices.{Choices}

-- ---- what is named

-- whether bytes of a class are named
abbrev pub names : Choice → Class → Bool
names Blank class.Blank = true
names Blank class.Space = true
names Value class.Quote = true
names Value class.Minus = true
names Value class.Zero = true
names Value class.Digit = true
names Value class.LowT = true
names Value class.LowF = true
names Value class.LowN = true
names Value class.OpenArray = true
names Value class.OpenObject = true
names Name class.Quote = true
names Colon class.Colon = true
names Comma class.Comma = true
names ArrayEnd class.CloseArray = true
names ObjectEnd class.CloseObject = true
names Digit class.Zero = true
names Digit class.Digit = true
names Point class.Dot = true
names Exponent class.LowE = true
names Exponent class.UpE = true
names Sign class.Plus = true
names Sign class.Minus = true
names Character class.Ctl = false
names Character class.Blank = false
names Character class.TailA = false
names Character class.TailB = false
names Character class.TailC = false
names Character class.Bad = false
names Character _ = true
names Escape class.Quote = true
names Escape class.Backslash = true
names Escape class.Slash = true
names Escape class.LowB = true
names Escape class.LowF = true
names Escape class.LowN = true
names Escape class.LowR = true
names Escape class.LowT = true
names Escape class.LowU = true
names HexDigit class.Zero = true
names HexDigit class.Digit = true
names HexDigit class.UpHex = true
names HexDigit class.UpE = true
names HexDigit class.LowA = true
names HexDigit class.LowB = true
names HexDigit class.LowCD = true
names HexDigit class.LowE = true
names HexDigit class.LowF = true
names Tail class.TailA = true
names Tail class.TailB = true
names Tail class.TailC = true
names Tail80To8F class.TailA = true
names Tail80To9F class.TailA = true
names Tail80To9F class.TailB = true
names Tail90ToBF class.TailB = true
names Tail90ToBF class.TailC = true
names TailA0ToBF class.TailC = true
names A class.LowA = true
names E class.LowE = true
names L class.LowL = true
names R class.LowR = true
names S class.LowS = true
names U class.LowU = true
names _ _ = false

-- whether one of these names bytes of a class
abbrev pub are_named : List Choice → Class → Bool
are_named choices byte_class = list_any (λ choice. names choice byte_class) choices

-- ---- the table

-- the choices that go on with a token
abbrev pub choices_inside : LexState → List Choice
choices_inside state.Gap = []
choices_inside state.Str = Character ∷ []
choices_inside state.Esc = Escape ∷ []
choices_inside state.Hex4 = HexDigit ∷ []
choices_inside state.Hex3 = HexDigit ∷ []
choices_inside state.Hex2 = HexDigit ∷ []
choices_inside state.Hex1 = HexDigit ∷ []
choices_inside state.Tail1 = Tail ∷ []
choices_inside state.Tail2 = Tail ∷ []
choices_inside state.Tail3 = Tail ∷ []
choices_inside state.AfterE0 = TailA0ToBF ∷ []
choices_inside state.AfterEd = Tail80To9F ∷ []
choices_inside state.AfterF0 = Tail90ToBF ∷ []
choices_inside state.AfterF4 = Tail80To8F ∷ []
choices_inside state.Minus = Digit ∷ []
choices_inside state.Zero = Point ∷ Exponent ∷ []
choices_inside state.Int = Digit ∷ Point ∷ Exponent ∷ []
choices_inside state.Dot = Digit ∷ []
choices_inside state.Frac = Digit ∷ Exponent ∷ []
choices_inside state.E = Digit ∷ Sign ∷ []
choices_inside state.ESign = Digit ∷ []
choices_inside state.Exp = Digit ∷ []
choices_inside state.T = R ∷ []
choices_inside state.Tr = U ∷ []
choices_inside state.Tru = E ∷ []
choices_inside state.F = A ∷ []
choices_inside state.Fa = L ∷ []
choices_inside state.Fal = S ∷ []
choices_inside state.Fals = E ∷ []
choices_inside state.N = U ∷ []
choices_inside state.Nu = L ∷ []
choices_inside state.Nul = L ∷ []

-- between tokens, or in a number that may end
abbrev pub may_end : LexState → Bool
may_end state.Gap = true
may_end state.Zero = true
may_end state.Int = true
may_end state.Frac = true
may_end state.Exp = true
may_end _ = false

-- the choices that may stand between tokens
abbrev pub choices_between : Expect → Holder → List Choice
choices_between expect.Value top = Value ∷ Blank ∷ []
choices_between expect.ArrayFirst holder.Array = Value ∷ ArrayEnd ∷ Blank ∷ []
choices_between expect.ArrayFirst holder.Object = Value ∷ Blank ∷ []
choices_between expect.ArrayFirst holder.Bottom = Value ∷ Blank ∷ []
choices_between expect.ObjectFirst holder.Array = Name ∷ Blank ∷ []
choices_between expect.ObjectFirst holder.Object = Name ∷ ObjectEnd ∷ Blank ∷ []
choices_between expect.ObjectFirst holder.Bottom = Name ∷ Blank ∷ []
choices_between expect.Name top = Name ∷ Blank ∷ []
choices_between expect.Colon top = Colon ∷ Blank ∷ []
choices_between expect.After holder.Array = Comma ∷ ArrayEnd ∷ Blank ∷ []
choices_between expect.After holder.Object = Comma ∷ ObjectEnd ∷ Blank ∷ []
choices_between expect.After holder.Bottom = Blank ∷ []

abbrev pub where_ended : Bool → List Choice → List Choice
where_ended true choices = choices
where_ended false choices = []

-- all that may stand
abbrev pub choices : LexState → Expect → Holder → List Choice
choices from next top = choices_inside from ++ where_ended (may_end from) (choices_between next top)

-- those that the program has found
abbrev pub choices_of : Choices → List Choice
choices_of found = found.inside.now ++ found.between.now

-- ---- what the machine and the moves allow

-- the table of moves allows the token, if there is one
abbrev pub mark_allowed : Option MarkKind → Expect → Holder → Bool
mark_allowed None next top = true
mark_allowed (Some kind) next top = is_some (next_of kind next top)

-- neither the machine nor the table of moves has a fault there
abbrev pub step_allowed : Step → Expect → Holder → Bool
step_allowed step next top = is_some step.next && mark_allowed step.begin next top

-- whether bytes of a class are allowed, whatever the depth
abbrev pub allowed : LexState → Expect → Holder → Class → Bool
allowed from next top byte_class = step_allowed (row from byte_class) next top
