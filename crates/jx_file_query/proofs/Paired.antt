-- Marks and ends of tokens in the order in which a reading tells them.
use Rattle.std.specs.Prelude.{◌≡◌, ℕ, List, [], ◌∷◌, Bool, true, false}
use Rattle.jx_lex.specs.declared.alphabet.mark.Mark.{Mark}
use Rattle.jx_index.specs.inside.Building.{is_token}

-- from where a token has begun and not ended, or from between tokens, to where one has, or to between tokens
pub data Paired : Bool → List Mark → List ℕ → Bool → Type 0 where
  none : {b : Bool} → Paired b [] [] b
  plain : {m : Mark} {ms : List Mark} {es : List ℕ} {b : Bool} → is_token m.kind ≡ false → Paired false ms es b → Paired false (m ∷ ms) es b
  token : {m : Mark} {ms : List Mark} {es : List ℕ} {b : Bool} → is_token m.kind ≡ true → Paired true ms es b → Paired false (m ∷ ms) es b
  ended : {e : ℕ} {ms : List Mark} {es : List ℕ} {b : Bool} → Paired false ms es b → Paired true ms (e ∷ es) b
