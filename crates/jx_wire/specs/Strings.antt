-- Texts of characters, which are written as strings.
use Rattle.std.specs.Prelude.{ℕ, List, [], ◌++◌}
use Rattle.std.specs.Char.Escape.{encode_utf16}
use Rattle.jx_lex.specs.Character.{Utf8}

-- characters in UTF-8 (RFC 3629, section 4), and their UTF-16 code units
pub data IsTextOf : List ℕ → List ℕ → Type 0 where
  no_text : IsTextOf [] []
  one_more : {w v us : List ℕ} {c : ℕ} → Utf8 w c → IsTextOf v us → IsTextOf (w ++ v) (encode_utf16 c ++ us)
