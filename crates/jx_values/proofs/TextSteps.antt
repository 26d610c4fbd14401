-- The text of a string, character by character.
use Rattle.std.proofs.Common.{◌≡◌, ℕ, List, ◌∷◌, ◌++◌, ap, sym, ◌∙◌}
use Rattle.std.specs.Prelude.{Option, unwrap_or}
use Rattle.std.specs.Char.{encode_utf8}
use Rattle.jx_values.specs.inside.Characters.{spelt_characters}

-- the next character, and those behind it
pub next_spelt : (all later : List (Option ℕ)) (character : Option ℕ) (code : ℕ) → all ≡ character ∷ later → code ≡ unwrap_or character 0xFFFD
    → encode_utf8 code ++ spelt_characters later ≡ spelt_characters all
next_spelt all later character code e is =
    ap (λ (c : ℕ). encode_utf8 c ++ spelt_characters later) is ∙ sym (ap spelt_characters e)
