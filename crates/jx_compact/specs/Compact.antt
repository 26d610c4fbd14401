-- The tokens of a value, one after another. White space may stand between tokens, and mean nothing there (RFC 8259,
-- section 2). A string goes on to the first quotation mark that no backslash escapes (section 7).
use Rattle.std.specs.Prelude.{◌≢◌, ℕ, List, [], ◌∷◌, ◌++◌, ◌==◌, if◌then◌else◌, Bool, true, false}
use Rattle.jx_compact.specs.declared.place.Place.{Place}
use Rattle.jx_compact.specs.declared.place.Place.TheVariants.{Between, Inside, Escaped}

-- a space, a tab, a line feed and a carriage return are white space
abbrev pub is_no_blank : ℕ → Bool
is_no_blank byte =
    if byte == 0x20 then false else
    if byte == 0x09 then false else
    if byte == 0x0a then false else
    if byte == 0x0d then false else true

-- outside of strings no white space stays
abbrev pub is_kept : Place → ℕ → Bool
is_kept Between byte = is_no_blank byte
is_kept Inside byte = true
is_kept Escaped byte = true

-- a quotation mark begins and ends a string, but after a backslash
abbrev pub next : Place → ℕ → Place
next Between byte = if byte == 0x22 then Inside else Between
next Inside byte = if byte == 0x22 then Between else if byte == 0x5c then Escaped else Inside
next Escaped byte = Inside

-- where the byte after some bytes stands
abbrev pub place_behind : Place → List ℕ → Place
place_behind place [] = place
place_behind place (byte ∷ bytes) = place_behind (next place byte) bytes

abbrev pub kept : Place → ℕ → List ℕ
kept place byte = if is_kept place byte then byte ∷ [] else []

-- the bytes that stay, of those from a place on
abbrev pub compact_from : Place → List ℕ → List ℕ
compact_from place [] = []
compact_from place (byte ∷ bytes) = kept place byte ++ compact_from (next place byte) bytes

abbrev pub compact : List ℕ → List ℕ
compact bytes = compact_from Between bytes

-- ---- lines

-- a tab, a line feed or a carriage return
abbrev pub IsNoControl : ℕ → Type 0
IsNoControl byte = (byte ≢ 0x09) × (byte ≢ 0x0a) × (byte ≢ 0x0d)

-- no byte of a string is one of these
abbrev pub HasPlainStrings : Place → List ℕ → Type 0
HasPlainStrings place [] = Unit {0}
HasPlainStrings Between (byte ∷ bytes) = HasPlainStrings (next Between byte) bytes
HasPlainStrings Inside (byte ∷ bytes) = IsNoControl byte × HasPlainStrings (next Inside byte) bytes
HasPlainStrings Escaped (byte ∷ bytes) = IsNoControl byte × HasPlainStrings (next Escaped byte) bytes
