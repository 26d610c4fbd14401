-- How a value stands in a row: as compact JSON, or as text by the escapes of a form.
use Rattle.std.specs.Prelude.{ℕ, List, [], ◌∷◌, ◌++◌, ◌==◌, Bool, false, Option, Some, None, flat_map, if◌then◌else◌, is_none, length, nat_eq, not}
use Rattle.std.specs.List.{list_all}
use Rattle.std.specs.Option.{option_map}
use Rattle.std.specs.Cmp.Lexicographic.{pointwise}
use Rattle.jx_lex.specs.declared.kind.Kind.{Kind}
use Rattle.jx_lex.specs.declared.kind.Kind.TheVariants.{Object, Array, String, Number, True, False, Null}
use Rattle.jx_string.specs.Texts.{text_of}
use Rattle.jx_compact.specs.Compact.{compact}
use Rattle.jx_line_values.specs.declared.row_form.RowForm.{RowForm}
use Rattle.jx_line_values.specs.declared.row_form.RowForm.TheVariants.{Json, Tsv, Csv}

-- between the cells of a row: a tab, or a comma
abbrev pub separator : RowForm → ℕ
separator Json = 0x09
separator Tsv = 0x09
separator Csv = 0x2c

-- ---- the text of a value

-- of a string its characters in UTF-8, of any other value but null its compact form; none of null, and of a string with half of a
-- surrogate pair alone
abbrev pub text_in : Kind → List ℕ → Option (List ℕ)
text_in Object bytes = Some (compact bytes)
text_in Array bytes = Some (compact bytes)
text_in String bytes = text_of bytes
text_in Number bytes = Some (compact bytes)
text_in True bytes = Some (compact bytes)
text_in False bytes = Some (compact bytes)
text_in Null bytes = None

-- a string with half of a surrogate pair alone
abbrev pub is_half_alone : Kind → List ℕ → Bool
is_half_alone Object bytes = false
is_half_alone Array bytes = false
is_half_alone String bytes = is_none (text_of bytes)
is_half_alone Number bytes = false
is_half_alone True bytes = false
is_half_alone False bytes = false
is_half_alone Null bytes = false

-- ---- by tabs: in text a tab, a line feed, a carriage return and a backslash are \t, \n, \r and \\

abbrev pub escaped : ℕ → List ℕ
escaped byte =
    if byte == 0x09 then 0x5c ∷ 0x74 ∷ [] else
    if byte == 0x0a then 0x5c ∷ 0x6e ∷ [] else
    if byte == 0x0d then 0x5c ∷ 0x72 ∷ [] else
    if byte == 0x5c then 0x5c ∷ 0x5c ∷ [] else byte ∷ []

-- ---- by commas (RFC 4180, section 2): text stands between quotation marks, each of its own twice, or bare

abbrev pub doubled : ℕ → List ℕ
doubled byte = if byte == 0x22 then 0x22 ∷ 0x22 ∷ [] else byte ∷ []

abbrev pub quoted : List ℕ → List ℕ
quoted text = 0x22 ∷ (flat_map doubled text ++ 0x22 ∷ [])

-- no comma, quotation mark, line feed or carriage return; and no backslash, since PostgreSQL takes \. alone on a line for the end
abbrev pub is_plain : ℕ → Bool
is_plain byte =
    if byte == 0x2c then false else
    if byte == 0x22 then false else
    if byte == 0x0a then false else
    if byte == 0x0d then false else not (byte == 0x5c)

-- bare text has some byte, only plain ones, and is not the word that stands for no value
abbrev pub is_bare : List ℕ → List ℕ → Bool
is_bare none text =
    if length text == 0 then false else
    if pointwise nat_eq text none then false else list_all is_plain text

-- ---- the cell

-- of a text, where this word stands for no value
abbrev pub text_cell : RowForm → List ℕ → List ℕ → List ℕ
text_cell Json none text = text
text_cell Tsv none text = flat_map escaped text
text_cell Csv none text = if is_bare none text then text else quoted text

-- of a value; none where the word stands
abbrev pub cell : RowForm → List ℕ → Kind → List ℕ → Option (List ℕ)
cell Json none kind bytes = Some (compact bytes)
cell Tsv none kind bytes = option_map (text_cell Tsv none) (text_in kind bytes)
cell Csv none kind bytes = option_map (text_cell Csv none) (text_in kind bytes)

-- in a row of texts such a string has no cell, which is reported
abbrev pub lacks_text : RowForm → Kind → List ℕ → Bool
lacks_text Json kind bytes = false
lacks_text Tsv kind bytes = is_half_alone kind bytes
lacks_text Csv kind bytes = is_half_alone kind bytes
