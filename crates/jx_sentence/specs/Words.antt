-- The sentences on refused texts, as bytes. What they name at a place are the choices there.
use Rattle.std.specs.Prelude.{ℕ, suc, zero, ◌+◌, ◌==◌, nat_lt, Bool, true, false, ◌&&◌, List, [], ◌∷◌, ◌++◌, Option, Some, None, codes, length, take, slice_get, slice_index, unwrap_or, if◌then◌else◌}
use Rattle.std.specs.Char.{is_ascii_digit}
use Rattle.std.specs.Fmt.{decimal}
use Rattle.std.specs.List.{filter_map}
use Rattle.jx_lex.specs.declared.alphabet.state.LexState.{LexState}
use Rattle.jx_lex.specs.declared.alphabet.state.LexState.TheVariants as state
use Rattle.jx_sentence.specs.Choices.{choices}
use Rattle.jx_sentence.specs.Shown.{first_size, shown}
use Rattle.jx_sentence.specs.declared.choice.Choice.{Choice}
use Rattle.jx_sentence.specs.declared.choice.Choice.TheVariants.{Blank, Value, Name, Colon, Comma, ArrayEnd, ObjectEnd, Digit, Point, Exponent, Sign, Character, Escape, HexDigit, Tail, Tail80To8F, Tail80To9F, Tail90ToBF, TailA0ToBF, A, E, L, R, S, U}
use Rattle.jx_sentence.specs.declared.place.Place.{Place}
use Rattle.jx_sentence.specs.declared.standing.Standing.{Standing}

-- ---- what may stand at a place

-- white space is not named
unfoldable pub name_of : Choice → Option (List ℕ)
name_of Blank = None
name_of Value = Some (codes "a value")
name_of Name = Some (codes "a string")
name_of Colon = Some (codes "a colon")
name_of Comma = Some (codes "a comma")
name_of ArrayEnd = Some (codes "]")
name_of ObjectEnd = Some (codes "}")
name_of Digit = Some (codes "a digit")
name_of Point = Some (codes "a decimal point")
name_of Exponent = Some (codes "an exponent")
name_of Sign = Some (codes "a sign")
name_of Character = Some (codes "a character in UTF-8")
name_of Escape = Some (codes "one of \" \\ / b f n r t u")
name_of HexDigit = Some (codes "a hexadecimal digit")
name_of Tail = Some (codes "a byte from 80 to BF")
name_of Tail80To8F = Some (codes "a byte from 80 to 8F")
name_of Tail80To9F = Some (codes "a byte from 80 to 9F")
name_of Tail90ToBF = Some (codes "a byte from 90 to BF")
name_of TailA0ToBF = Some (codes "a byte from A0 to BF")
name_of A = Some (codes "a")
name_of E = Some (codes "e")
name_of L = Some (codes "l")
name_of R = Some (codes "r")
name_of S = Some (codes "s")
name_of U = Some (codes "u")

-- the separator after a name that is followed by so many
unfoldable pub separator : ℕ → List ℕ
separator zero = []
separator (suc zero) = codes " or "
separator (suc (suc n)) = codes ", "

-- names in a row that are followed by so many
unfoldable pub listed_before : ℕ → List (List ℕ) → List ℕ
listed_before n [] = []
listed_before n (name ∷ more) = name ++ (separator (length more + n) ++ listed_before n more)

-- `A, B or C`, or that the text has to end
unfoldable pub listed : List (List ℕ) → List ℕ
listed [] = codes "the end of the text"
listed (name ∷ more) = listed_before 0 (name ∷ more)

abbrev pub names_of : List Choice → List (List ℕ)
names_of found = filter_map name_of found

unfoldable pub named_at : Standing → List ℕ
named_at s = listed (names_of (choices s.state s.expect s.top))

-- the literal that is begun there, with what leads to it
unfoldable pub literal_of : LexState → List ℕ
literal_of state.T = codes ", as in true"
literal_of state.Tr = codes ", as in true"
literal_of state.Tru = codes ", as in true"
literal_of state.F = codes ", as in false"
literal_of state.Fa = codes ", as in false"
literal_of state.Fal = codes ", as in false"
literal_of state.Fals = codes ", as in false"
literal_of state.N = codes ", as in null"
literal_of state.Nu = codes ", as in null"
literal_of state.Nul = codes ", as in null"
literal_of _ = []

-- ---- a text that stopped

-- the first character of these bytes, of which this is the first
abbrev pub found_at : Option ℕ → List ℕ → List ℕ
found_at None rest = codes "the end of the text"
found_at (Some byte) rest =
    if byte == 10 then codes "the end of the line"
    else (if byte == 13 then codes "a carriage return"
    else (if byte == 9 then codes "a tab"
    else (if byte == 32 then codes "a space"
    else (if byte == 44 then codes "a comma"
    else (if byte == 58 then codes "a colon"
    else (if byte == 46 then codes "a point"
    else shown (take (first_size rest) rest)))))))

unfoldable pub found : List ℕ → List ℕ
found rest = found_at (slice_get rest 0) rest

-- the words that say more than the choices, of a byte that stands there
unfoldable pub mistake_of : LexState → ℕ → Option (List ℕ)
mistake_of state.Str byte = if nat_lt byte 0x20 then Some (codes "a control character in a string must be escaped") else None
mistake_of state.Zero byte = if is_ascii_digit byte then Some (codes "no digit may follow a 0 that begins a number") else None
mistake_of _ byte = None

abbrev pub mistake_or : Option (List ℕ) → List ℕ → List ℕ
mistake_or None words = words
mistake_or (Some mistake) words = mistake

unfoldable pub begins_with_mark : List ℕ → Bool
begins_with_mark bytes = (slice_index bytes 0 == 0xef) && (slice_index bytes 1 == 0xbb) && (slice_index bytes 2 == 0xbf)

-- the bytes from the fault on, their offset, and where the reading stood
unfoldable pub stopped : List ℕ → ℕ → Option Standing → List ℕ
stopped rest at None = codes "a byte order mark is begun and not ended"
stopped rest at (Some s) =
    if (at == 0) && begins_with_mark rest then codes "a byte order mark stands in front of the text"
    else mistake_or (mistake_of s.state (unwrap_or (slice_get rest 0) 32)) (codes "expected " ++ named_at s ++ literal_of s.state ++ codes ", found " ++ found rest)

-- ---- a text that ends too early

-- the comma that ends words that are put in, if there are any
unfoldable pub comma_after : List ℕ → List ℕ
comma_after words = if length words == 0 then [] else codes ","

unfoldable pub truncated : Option Standing → List ℕ
truncated None = codes "the text ends inside a byte order mark"
truncated (Some s) = codes "the text ends where " ++ named_at s ++ literal_of s.state ++ comma_after (literal_of s.state) ++ codes " is expected"

unfoldable pub place_words : Place → List ℕ
place_words place = codes " at line " ++ decimal place.line ++ codes ", column " ++ decimal place.column

-- where the string began, if that is known
unfoldable pub string_open : Option Place → List ℕ
string_open None = codes "the text ends inside a string"
string_open (Some began) = codes "the text ends inside a string that began" ++ place_words began

unfoldable pub is_in_string : LexState → Bool
is_in_string state.Str = true
is_in_string state.Esc = true
is_in_string state.Hex4 = true
is_in_string state.Hex3 = true
is_in_string state.Hex2 = true
is_in_string state.Hex1 = true
is_in_string state.Tail1 = true
is_in_string state.Tail2 = true
is_in_string state.Tail3 = true
is_in_string state.AfterE0 = true
is_in_string state.AfterEd = true
is_in_string state.AfterF0 = true
is_in_string state.AfterF4 = true
is_in_string _ = false

-- ---- the others

unfoldable pub too_deep : ℕ → List ℕ
too_deep depth = codes "more than " ++ decimal depth ++ codes " containers open"

-- a name, which stands at these bytes, and the place of the earlier one
unfoldable pub repeated : List ℕ → Option Place → List ℕ
repeated name None = codes "the name " ++ shown name ++ codes " was used before"
repeated name (Some earlier) = codes "the name " ++ shown name ++ codes " was used" ++ place_words earlier
