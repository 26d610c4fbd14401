-- Lines of names as they are written, and the texts that these strings stand for (RFC 8259, section 7).
use Rattle.std.specs.Prelude.{ℕ, List, [], ◌∷◌, ◌++◌, ◌==◌, ◌||◌, Bool, true, false, codes, if◌then◌else◌, is_none, unwrap_or}
use Rattle.jx_string.specs.Texts.{text_of}
use Rattle.jx_values.specs.Values.{told_words}

-- the front of a line that has not ended, the lines of the texts so far, and whether a string had none
pub record Texts : Type 0 where
  pub part : List ℕ
  pub lines : List ℕ
  pub lone : Bool

abbrev pub no_texts : Texts
no_texts = record { part = []; lines = []; lone = false }

-- the text of a string, or nothing where it has half of a surrogate pair alone; and a line feed
abbrev pub text_line : List ℕ → List ℕ
text_line string = unwrap_or (text_of string) [] ++ 0x0a ∷ []

abbrev pub text_step : Texts → ℕ → Texts
text_step texts byte =
    if byte == 0x0a then record { part = []; lines = texts.lines ++ text_line texts.part; lone = texts.lone || is_none (text_of texts.part) }
    else record { part = texts.part ++ byte ∷ []; lines = texts.lines; lone = texts.lone }

abbrev pub text_run : Texts → List ℕ → Texts
text_run texts [] = texts
text_run texts (byte ∷ bytes) = text_run (text_step texts byte) bytes

-- lines as they are, or where texts are asked for the line of the text of each
abbrev pub shown_as : Bool → List ℕ → List ℕ
shown_as false lines = lines
shown_as true lines = (text_run no_texts lines).lines

-- whether texts are asked for, and a line has none
abbrev pub lone_in : Bool → List ℕ → Bool
lone_in false lines = false
lone_in true lines = (text_run no_texts lines).lone

-- the report on that
abbrev pub told_of_lone : List ℕ → Bool → List ℕ
told_of_lone pointer false = []
told_of_lone pointer true = told_words pointer (codes "half a surrogate pair in a name")
