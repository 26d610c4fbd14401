-- The lexical machine: what each state does with each class of bytes (RFC 8259, sections 2, 3, 6 and 7; inside strings
-- RFC 3629, section 4). What no line names is a fault.
use Rattle.std.specs.Prelude.{ℕ, Some, None}
use Rattle.jx_lex.specs.declared.alphabet.class.Class.{Class}
use Rattle.jx_lex.specs.declared.alphabet.class.Class.TheVariants as class
use Rattle.jx_lex.specs.declared.alphabet.state.LexState.{LexState}
use Rattle.jx_lex.specs.declared.alphabet.state.LexState.TheVariants as state
use Rattle.jx_lex.specs.declared.alphabet.mark.MarkKind.{MarkKind}
use Rattle.jx_lex.specs.declared.alphabet.mark.MarkKind.TheVariants as mark
use Rattle.jx_lex.specs.declared.alphabet.state.TokenEnd.TheVariants.{Before, After}
use Rattle.jx_lex.specs.declared.alphabet.state.Step.{Step}
use Rattle.jx_lex.specs.Classes.{class_at}

-- the byte stands nowhere in a text from here
abbrev pub fault : Step
fault = record { end = None; begin = None; next = None }

-- to another state, inside a token or between tokens
abbrev pub go : LexState → Step
go next = record { end = None; begin = None; next = Some next }

-- a token begins with this byte
abbrev pub begin : MarkKind → LexState → Step
begin kind next = record { end = None; begin = Some kind; next = Some next }

-- a structural byte
abbrev pub structural : MarkKind → Step
structural kind = record { end = None; begin = Some kind; next = Some state.Gap }

-- a string or a literal ends with this byte
abbrev pub close : Step
close = record { end = Some After; begin = None; next = Some state.Gap }

-- ---- between tokens

-- white space, structural bytes and the first bytes of tokens
abbrev pub in_Gap : Class → Step
in_Gap class.Blank = go state.Gap
in_Gap class.Space = go state.Gap
in_Gap class.Quote = begin mark.String state.Str
in_Gap class.Minus = begin mark.Number state.Minus
in_Gap class.Zero = begin mark.Number state.Zero
in_Gap class.Digit = begin mark.Number state.Int
in_Gap class.LowT = begin mark.True state.T
in_Gap class.LowF = begin mark.False state.F
in_Gap class.LowN = begin mark.Null state.N
in_Gap class.OpenArray = structural mark.OpenArray
in_Gap class.CloseArray = structural mark.CloseArray
in_Gap class.OpenObject = structural mark.OpenObject
in_Gap class.CloseObject = structural mark.CloseObject
in_Gap class.Colon = structural mark.Colon
in_Gap class.Comma = structural mark.Comma
in_Gap _ = fault

-- a number ends before this byte, which is then read as between tokens
unfoldable pub as_gap : Class → Step
as_gap byte_class = record (in_Gap byte_class) { end = Some Before }

-- ---- strings

-- the quotation mark that ends it, a backslash, ordinary ASCII, or the first byte of a longer character
abbrev pub in_Str : Class → Step
in_Str class.Quote = close
in_Str class.Backslash = go state.Esc
in_Str class.Space = go state.Str
in_Str class.Plus = go state.Str
in_Str class.Comma = go state.Str
in_Str class.Minus = go state.Str
in_Str class.Dot = go state.Str
in_Str class.Slash = go state.Str
in_Str class.Zero = go state.Str
in_Str class.Digit = go state.Str
in_Str class.Colon = go state.Str
in_Str class.UpHex = go state.Str
in_Str class.UpE = go state.Str
in_Str class.OpenArray = go state.Str
in_Str class.CloseArray = go state.Str
in_Str class.LowA = go state.Str
in_Str class.LowB = go state.Str
in_Str class.LowCD = go state.Str
in_Str class.LowE = go state.Str
in_Str class.LowF = go state.Str
in_Str class.LowL = go state.Str
in_Str class.LowN = go state.Str
in_Str class.LowR = go state.Str
in_Str class.LowS = go state.Str
in_Str class.LowT = go state.Str
in_Str class.LowU = go state.Str
in_Str class.OpenObject = go state.Str
in_Str class.CloseObject = go state.Str
in_Str class.Plain = go state.Str
in_Str class.Lead2 = go state.Tail1
in_Str class.LeadE0 = go state.AfterE0
in_Str class.Lead3 = go state.Tail2
in_Str class.LeadEd = go state.AfterEd
in_Str class.LeadF0 = go state.AfterF0
in_Str class.Lead4 = go state.Tail3
in_Str class.LeadF4 = go state.AfterF4
in_Str _ = fault

-- after a backslash: the letter of an escape
abbrev pub in_Esc : Class → Step
in_Esc class.Quote = go state.Str
in_Esc class.Backslash = go state.Str
in_Esc class.Slash = go state.Str
in_Esc class.LowB = go state.Str
in_Esc class.LowF = go state.Str
in_Esc class.LowN = go state.Str
in_Esc class.LowR = go state.Str
in_Esc class.LowT = go state.Str
in_Esc class.LowU = go state.Hex4
in_Esc _ = fault

-- four hexadecimal digits, from the first one on
abbrev pub in_Hex4 : Class → Step
in_Hex4 class.Zero = go state.Hex3
in_Hex4 class.Digit = go state.Hex3
in_Hex4 class.UpHex = go state.Hex3
in_Hex4 class.UpE = go state.Hex3
in_Hex4 class.LowA = go state.Hex3
in_Hex4 class.LowB = go state.Hex3
in_Hex4 class.LowCD = go state.Hex3
in_Hex4 class.LowE = go state.Hex3
in_Hex4 class.LowF = go state.Hex3
in_Hex4 _ = fault

abbrev pub in_Hex3 : Class → Step
in_Hex3 class.Zero = go state.Hex2
in_Hex3 class.Digit = go state.Hex2
in_Hex3 class.UpHex = go state.Hex2
in_Hex3 class.UpE = go state.Hex2
in_Hex3 class.LowA = go state.Hex2
in_Hex3 class.LowB = go state.Hex2
in_Hex3 class.LowCD = go state.Hex2
in_Hex3 class.LowE = go state.Hex2
in_Hex3 class.LowF = go state.Hex2
in_Hex3 _ = fault

abbrev pub in_Hex2 : Class → Step
in_Hex2 class.Zero = go state.Hex1
in_Hex2 class.Digit = go state.Hex1
in_Hex2 class.UpHex = go state.Hex1
in_Hex2 class.UpE = go state.Hex1
in_Hex2 class.LowA = go state.Hex1
in_Hex2 class.LowB = go state.Hex1
in_Hex2 class.LowCD = go state.Hex1
in_Hex2 class.LowE = go state.Hex1
in_Hex2 class.LowF = go state.Hex1
in_Hex2 _ = fault

abbrev pub in_Hex1 : Class → Step
in_Hex1 class.Zero = go state.Str
in_Hex1 class.Digit = go state.Str
in_Hex1 class.UpHex = go state.Str
in_Hex1 class.UpE = go state.Str
in_Hex1 class.LowA = go state.Str
in_Hex1 class.LowB = go state.Str
in_Hex1 class.LowCD = go state.Str
in_Hex1 class.LowE = go state.Str
in_Hex1 class.LowF = go state.Str
in_Hex1 _ = fault

-- the rest of a character, by how many tails are to come
abbrev pub in_Tail1 : Class → Step
in_Tail1 class.TailA = go state.Str
in_Tail1 class.TailB = go state.Str
in_Tail1 class.TailC = go state.Str
in_Tail1 _ = fault

abbrev pub in_Tail2 : Class → Step
in_Tail2 class.TailA = go state.Tail1
in_Tail2 class.TailB = go state.Tail1
in_Tail2 class.TailC = go state.Tail1
in_Tail2 _ = fault

abbrev pub in_Tail3 : Class → Step
in_Tail3 class.TailA = go state.Tail2
in_Tail3 class.TailB = go state.Tail2
in_Tail3 class.TailC = go state.Tail2
in_Tail3 _ = fault

-- the second byte of a character, where not every tail may stand
abbrev pub in_AfterE0 : Class → Step
in_AfterE0 class.TailC = go state.Tail1
in_AfterE0 _ = fault

abbrev pub in_AfterEd : Class → Step
in_AfterEd class.TailA = go state.Tail1
in_AfterEd class.TailB = go state.Tail1
in_AfterEd _ = fault

abbrev pub in_AfterF0 : Class → Step
in_AfterF0 class.TailB = go state.Tail2
in_AfterF0 class.TailC = go state.Tail2
in_AfterF0 _ = fault

abbrev pub in_AfterF4 : Class → Step
in_AfterF4 class.TailA = go state.Tail2
in_AfterF4 _ = fault

-- ---- numbers

-- after a minus sign: zero, or another digit
abbrev pub in_Minus : Class → Step
in_Minus class.Zero = go state.Zero
in_Minus class.Digit = go state.Int
in_Minus _ = fault

-- after a leading zero: no digit
abbrev pub in_Zero : Class → Step
in_Zero class.Dot = go state.Dot
in_Zero class.LowE = go state.E
in_Zero class.UpE = go state.E
in_Zero byte_class = as_gap byte_class

-- the integer part
abbrev pub in_Int : Class → Step
in_Int class.Zero = go state.Int
in_Int class.Digit = go state.Int
in_Int class.Dot = go state.Dot
in_Int class.LowE = go state.E
in_Int class.UpE = go state.E
in_Int byte_class = as_gap byte_class

-- the fraction: at least one digit
abbrev pub in_Dot : Class → Step
in_Dot class.Zero = go state.Frac
in_Dot class.Digit = go state.Frac
in_Dot _ = fault

abbrev pub in_Frac : Class → Step
in_Frac class.Zero = go state.Frac
in_Frac class.Digit = go state.Frac
in_Frac class.LowE = go state.E
in_Frac class.UpE = go state.E
in_Frac byte_class = as_gap byte_class

-- the exponent: a sign or none, and at least one digit
abbrev pub in_E : Class → Step
in_E class.Plus = go state.ESign
in_E class.Minus = go state.ESign
in_E class.Zero = go state.Exp
in_E class.Digit = go state.Exp
in_E _ = fault

abbrev pub in_ESign : Class → Step
in_ESign class.Zero = go state.Exp
in_ESign class.Digit = go state.Exp
in_ESign _ = fault

abbrev pub in_Exp : Class → Step
in_Exp class.Zero = go state.Exp
in_Exp class.Digit = go state.Exp
in_Exp byte_class = as_gap byte_class

-- ---- literals

-- true, letter by letter
abbrev pub in_T : Class → Step
in_T class.LowR = go state.Tr
in_T _ = fault

abbrev pub in_Tr : Class → Step
in_Tr class.LowU = go state.Tru
in_Tr _ = fault

abbrev pub in_Tru : Class → Step
in_Tru class.LowE = close
in_Tru _ = fault

-- false
abbrev pub in_F : Class → Step
in_F class.LowA = go state.Fa
in_F _ = fault

abbrev pub in_Fa : Class → Step
in_Fa class.LowL = go state.Fal
in_Fa _ = fault

abbrev pub in_Fal : Class → Step
in_Fal class.LowS = go state.Fals
in_Fal _ = fault

abbrev pub in_Fals : Class → Step
in_Fals class.LowE = close
in_Fals _ = fault

-- null
abbrev pub in_N : Class → Step
in_N class.LowU = go state.Nu
in_N _ = fault

abbrev pub in_Nu : Class → Step
in_Nu class.LowL = go state.Nul
in_Nu _ = fault

abbrev pub in_Nul : Class → Step
in_Nul class.LowL = close
in_Nul _ = fault

-- ---- the machine

-- the step of a state at each class
abbrev pub row : LexState → Class → Step
row state.Gap = in_Gap
row state.Str = in_Str
row state.Esc = in_Esc
row state.Hex4 = in_Hex4
row state.Hex3 = in_Hex3
row state.Hex2 = in_Hex2
row state.Hex1 = in_Hex1
row state.Tail1 = in_Tail1
row state.Tail2 = in_Tail2
row state.Tail3 = in_Tail3
row state.AfterE0 = in_AfterE0
row state.AfterEd = in_AfterEd
row state.AfterF0 = in_AfterF0
row state.AfterF4 = in_AfterF4
row state.Minus = in_Minus
row state.Zero = in_Zero
row state.Int = in_Int
row state.Dot = in_Dot
row state.Frac = in_Frac
row state.E = in_E
row state.ESign = in_ESign
row state.Exp = in_Exp
row state.T = in_T
row state.Tr = in_Tr
row state.Tru = in_Tru
row state.F = in_F
row state.Fa = in_Fa
row state.Fal = in_Fal
row state.Fals = in_Fals
row state.N = in_N
row state.Nu = in_Nu
row state.Nul = in_Nul

-- the step of a state at a byte
abbrev pub move : LexState → ℕ → Step
move from byte = row from (class_at byte)
