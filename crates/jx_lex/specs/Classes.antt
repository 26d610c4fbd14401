-- Byte classes (RFC 8259, sections 2, 3, 6 and 7; RFC 3629, section 4). The table of ranges says which bytes a class has. Every byte is
-- in exactly one class, as `class_of` ensures by its clauses `row` and `only`. So the search through the classes, at the end, need not be
-- believed: every search for a class that has the byte gives this one, in whatever order it goes.
use Rattle.std.specs.Prelude.{ℕ, Bool, ◌&&◌, List, [], ◌∷◌, if◌then◌else◌, nat_le}
use Rattle.std.specs.List.{list_any}
use Rattle.jx_lex.specs.declared.alphabet.class.Class.{Class}
use Rattle.jx_lex.specs.declared.alphabet.class.Class.TheVariants.{Ctl, Blank, Space, Quote, Plus, Comma, Minus, Dot, Slash, Zero, Digit, Colon, UpHex, UpE, OpenArray, Backslash, CloseArray, LowA, LowB, LowCD, LowE, LowF, LowL, LowN, LowR, LowS, LowT, LowU, OpenObject, CloseObject, TailA, TailB, TailC, Lead2, LeadE0, Lead3, LeadEd, LeadF0, Lead4, LeadF4, Bad, Plain}

-- the bytes of a class, from a first byte to a last one; Plain has all the others from 21 to 7F
abbrev pub ranges_of : Class → List (ℕ × ℕ)
ranges_of Ctl = (0x00, 0x08) ∷ (0x0b, 0x0c) ∷ (0x0e, 0x1f) ∷ []
ranges_of Blank = (0x09, 0x0a) ∷ (0x0d, 0x0d) ∷ []
ranges_of Space = (0x20, 0x20) ∷ []
ranges_of Quote = (0x22, 0x22) ∷ []
ranges_of Plus = (0x2b, 0x2b) ∷ []
ranges_of Comma = (0x2c, 0x2c) ∷ []
ranges_of Minus = (0x2d, 0x2d) ∷ []
ranges_of Dot = (0x2e, 0x2e) ∷ []
ranges_of Slash = (0x2f, 0x2f) ∷ []
ranges_of Zero = (0x30, 0x30) ∷ []
ranges_of Digit = (0x31, 0x39) ∷ []
ranges_of Colon = (0x3a, 0x3a) ∷ []
ranges_of UpHex = (0x41, 0x44) ∷ (0x46, 0x46) ∷ []
ranges_of UpE = (0x45, 0x45) ∷ []
ranges_of OpenArray = (0x5b, 0x5b) ∷ []
ranges_of Backslash = (0x5c, 0x5c) ∷ []
ranges_of CloseArray = (0x5d, 0x5d) ∷ []
ranges_of LowA = (0x61, 0x61) ∷ []
ranges_of LowB = (0x62, 0x62) ∷ []
ranges_of LowCD = (0x63, 0x64) ∷ []
ranges_of LowE = (0x65, 0x65) ∷ []
ranges_of LowF = (0x66, 0x66) ∷ []
ranges_of LowL = (0x6c, 0x6c) ∷ []
ranges_of LowN = (0x6e, 0x6e) ∷ []
ranges_of LowR = (0x72, 0x72) ∷ []
ranges_of LowS = (0x73, 0x73) ∷ []
ranges_of LowT = (0x74, 0x74) ∷ []
ranges_of LowU = (0x75, 0x75) ∷ []
ranges_of OpenObject = (0x7b, 0x7b) ∷ []
ranges_of CloseObject = (0x7d, 0x7d) ∷ []
ranges_of TailA = (0x80, 0x8f) ∷ []
ranges_of TailB = (0x90, 0x9f) ∷ []
ranges_of TailC = (0xa0, 0xbf) ∷ []
ranges_of Lead2 = (0xc2, 0xdf) ∷ []
ranges_of LeadE0 = (0xe0, 0xe0) ∷ []
ranges_of Lead3 = (0xe1, 0xec) ∷ (0xee, 0xef) ∷ []
ranges_of LeadEd = (0xed, 0xed) ∷ []
ranges_of LeadF0 = (0xf0, 0xf0) ∷ []
ranges_of Lead4 = (0xf1, 0xf3) ∷ []
ranges_of LeadF4 = (0xf4, 0xf4) ∷ []
ranges_of Bad = (0xc0, 0xc1) ∷ (0xf5, 0xff) ∷ []
ranges_of Plain = (0x21, 0x21) ∷ (0x23, 0x2a) ∷ (0x3b, 0x40) ∷ (0x47, 0x5a) ∷ (0x5e, 0x60) ∷ (0x67, 0x6b) ∷ (0x6d, 0x6d) ∷ (0x6f, 0x71) ∷ (0x76, 0x7a) ∷ (0x7c, 0x7c) ∷ (0x7e, 0x7f) ∷ []

-- one of the ranges of the class has the byte
abbrev pub is_in : Class → ℕ → Bool
is_in class byte = list_any (λ range. nat_le range.0 byte && nat_le byte range.1) (ranges_of class)

-- the classes in their order
abbrev pub all_classes : List Class
all_classes =
    Ctl ∷
    Blank ∷
    Space ∷
    Quote ∷
    Plus ∷
    Comma ∷
    Minus ∷
    Dot ∷
    Slash ∷
    Zero ∷
    Digit ∷
    Colon ∷
    UpHex ∷
    UpE ∷
    OpenArray ∷
    Backslash ∷
    CloseArray ∷
    LowA ∷
    LowB ∷
    LowCD ∷
    LowE ∷
    LowF ∷
    LowL ∷
    LowN ∷
    LowR ∷
    LowS ∷
    LowT ∷
    LowU ∷
    OpenObject ∷
    CloseObject ∷
    TailA ∷
    TailB ∷
    TailC ∷
    Lead2 ∷
    LeadE0 ∷
    Lead3 ∷
    LeadEd ∷
    LeadF0 ∷
    Lead4 ∷
    LeadF4 ∷
    Bad ∷
    Plain ∷
    []

-- the first of these classes that has the byte
abbrev pub first_with : List Class → ℕ → Class
first_with [] byte = Bad
first_with (class ∷ more) byte = if is_in class byte then class else first_with more byte

-- the class of a byte, the one that has it; a number above 255 is Bad
unfoldable pub class_at : ℕ → Class
class_at byte = first_with all_classes byte
