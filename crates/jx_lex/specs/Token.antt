-- White space, strings, numbers and literals (RFC 8259, sections 2, 3, 6 and 7), each as a whole list of bytes. Over
-- each definition stands the rule of the standard's grammar (RFC 5234) that it says.
use Rattle.std.specs.Prelude.{◌≡◌, ◌≢◌, ℕ, ◌+◌, ◌*◌, ◌≤◌, ◌⊎◌, ◌==◌, if◌then◌else◌, List, [], ◌∷◌, ◌++◌, codes}
use Rattle.std.specs.Char.{digit_value}
use Rattle.std.specs.Char.Escape.{encode_utf16}
use Rattle.jx_lex.specs.Character.{IsWithin, Utf8}
use Rattle.jx_lex.specs.declared.kind.Kind.{Kind}
use Rattle.jx_lex.specs.declared.kind.Kind.TheVariants.{Object, Array, String, Number, True, False, Null}

-- ---- between tokens (section 2)

-- space, tab, line feed, carriage return
--   one of those in ws = *( %x20 / %x09 / %x0A / %x0D )
pub data IsBlank : ℕ → Type 0 where
  space : IsBlank 0x20
  tab : IsBlank 0x09
  line_feed : IsBlank 0x0a
  carriage_return : IsBlank 0x0d

-- ---- numbers (section 6)

-- 0 to 9
--   DIGIT = %x30-39
abbrev pub IsDigit : ℕ → Type 0
IsDigit byte = IsWithin 0x30 0x39 byte

-- any number of digits
--   *DIGIT
pub data Digits : List ℕ → Type 0 where
  no_digits : Digits []
  digit : {b : ℕ} {bs : List ℕ} → IsDigit b → Digits bs → Digits (b ∷ bs)

-- a minus sign or none
--   [ minus ], minus = %x2D
pub data IsMinus : List ℕ → Type 0 where
  unsigned : IsMinus []
  minus : IsMinus (0x2d ∷ [])

-- 0, or 1 to 9 and any digits
--   int = zero / ( digit1-9 *DIGIT ), zero = %x30, digit1-9 = %x31-39
pub data IsInt : List ℕ → Type 0 where
  zero_alone : IsInt (0x30 ∷ [])
  leading : {b : ℕ} {bs : List ℕ} → IsWithin 0x31 0x39 b → Digits bs → IsInt (b ∷ bs)

-- nothing, or a dot and at least one digit
--   [ frac ], frac = decimal-point 1*DIGIT, decimal-point = %x2E
pub data IsFrac : List ℕ → Type 0 where
  no_frac : IsFrac []
  frac : {b : ℕ} {bs : List ℕ} → IsDigit b → Digits bs → IsFrac (0x2e ∷ b ∷ bs)

-- a sign of an exponent, or none
--   [ minus / plus ], plus = %x2B
pub data IsSign : List ℕ → Type 0 where
  no_sign : IsSign []
  plus : IsSign (0x2b ∷ [])
  minus_sign : IsSign (0x2d ∷ [])

-- e or E
--   e = %x65 / %x45
abbrev pub IsE : ℕ → Type 0
IsE byte = (byte ≡ 0x65) ⊎ (byte ≡ 0x45)

-- nothing, or e or E, an optional sign and at least one digit
--   [ exp ], exp = e [ minus / plus ] 1*DIGIT
pub data IsExp : List ℕ → Type 0 where
  no_exp : IsExp []
  exp : {e b : ℕ} {sign bs : List ℕ} → IsE e → IsSign sign → IsDigit b → Digits bs → IsExp (e ∷ (sign ++ (b ∷ bs)))

-- a number: the four of them one after another
--   number = [ minus ] int [ frac ] [ exp ]
pub data IsNumber : List ℕ → Type 0 where
  number : {minus int frac exp : List ℕ} → IsMinus minus → IsInt int → IsFrac frac → IsExp exp → IsNumber (minus ++ (int ++ (frac ++ exp)))

-- ---- strings (section 7)

-- 0 to 9, A to F, a to f
--   HEXDIG, in either case
pub data IsHexDigit : ℕ → Type 0 where
  decimal : {b : ℕ} → IsDigit b → IsHexDigit b
  upper : {b : ℕ} → IsWithin 0x41 0x46 b → IsHexDigit b
  lower : {b : ℕ} → IsWithin 0x61 0x66 b → IsHexDigit b

-- the bytes that may stand after a backslash, other than u
--   %x22 / %x5C / %x2F / %x62 / %x66 / %x6E / %x72 / %x74
pub data IsEscaped : ℕ → Type 0 where
  quotation_mark : IsEscaped 0x22
  backslash : IsEscaped 0x5c
  slash : IsEscaped 0x2f
  backspace : IsEscaped 0x62
  form_feed : IsEscaped 0x66
  new_line : IsEscaped 0x6e
  return : IsEscaped 0x72
  tabulator : IsEscaped 0x74

-- the unit that an escape of one letter stands for
abbrev pub escaped_unit : ℕ → ℕ
escaped_unit b =
    if b == 0x62 then 0x08 else
    if b == 0x66 then 0x0c else
    if b == 0x6e then 0x0a else
    if b == 0x72 then 0x0d else
    if b == 0x74 then 0x09 else b

-- the number that four hexadecimal digits encode
abbrev pub hex_unit : ℕ → ℕ → ℕ → ℕ → ℕ
hex_unit a b c d = digit_value a * 4096 + digit_value b * 256 + digit_value c * 16 + digit_value d

-- a character of a string, and its UTF-16 units: it stands for itself, or is an escape
--   char = unescaped / escape ( one of the above / %x75 4HEXDIG ), escape = %x5C,
--   unescaped = %x20-21 / %x23-5B / %x5D-10FFFF
pub data IsChar : List ℕ → List ℕ → Type 0 where
  character : {w : List ℕ} {c : ℕ} → Utf8 w c → 0x20 ≤ c → c ≢ 0x22 → c ≢ 0x5c → IsChar w (encode_utf16 c)
  escape : {b : ℕ} → IsEscaped b → IsChar (0x5c ∷ b ∷ []) (escaped_unit b ∷ [])
  unit : {a b c d : ℕ} → IsHexDigit a → IsHexDigit b → IsHexDigit c → IsHexDigit d → IsChar (0x5c ∷ 0x75 ∷ a ∷ b ∷ c ∷ d ∷ []) (hex_unit a b c d ∷ [])

-- any number of them, and their units
--   *char
pub data Chars : List ℕ → List ℕ → Type 0 where
  no_chars : Chars [] []
  one_char : {w v us vs : List ℕ} → IsChar w us → Chars v vs → Chars (w ++ v) (us ++ vs)

-- a string, and its value as UTF-16 units
--   string = quotation-mark *char quotation-mark, quotation-mark = %x22
pub data IsString : List ℕ → List ℕ → Type 0 where
  quoted : {w us : List ℕ} → Chars w us → IsString (0x22 ∷ (w ++ (0x22 ∷ []))) us

-- ---- tokens (section 3)

-- a token of a kind; an object and an array are no tokens
--   false = %x66.61.6C.73.65, null = %x6E.75.6C.6C, true = %x74.72.75.65
abbrev pub IsToken : Kind → List ℕ → Type 0
IsToken String w = (units : List ℕ) × IsString w units
IsToken Number w = IsNumber w
IsToken True w = w ≡ codes "true"
IsToken False w = w ≡ codes "false"
IsToken Null w = w ≡ codes "null"
IsToken Object w = ⊥
IsToken Array w = ⊥
