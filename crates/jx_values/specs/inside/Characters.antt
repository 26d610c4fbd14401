-- Characters in UTF-8, one after another.
use Rattle.std.specs.Prelude.{ℕ, List, Option, map, unwrap_or}
use Rattle.std.specs.Str.{encode_utf8_all}

-- with U+FFFD for each half of a surrogate pair alone
abbrev pub spelt_characters : List (Option ℕ) → List ℕ
spelt_characters characters = encode_utf8_all (map (λ character. unwrap_or character 0xFFFD) characters)
