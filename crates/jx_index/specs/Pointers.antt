-- Pointers: tokens, each after a slash, in which ~0 stands for ~ and ~1 for a slash (RFC 6901, section 3).
use Rattle.jx_index.specs.declared.units.Spelling.TheVariants.{InToken}
use Rattle.jx_index.specs.Units.{chars_units}
use Rattle.std.specs.Prelude.{◌≡◌, ◌≢◌, ℕ, ◌+◌, ◌<◌, ◌⊎◌, ◌==◌, if◌then◌else◌, List, [], ◌∷◌, length, map, drop, slice_index}

-- ---- which texts are pointers

-- the bytes that may follow a ~
abbrev pub IsEscapeDigit : ℕ → Type 0
IsEscapeDigit byte = (byte ≡ 0x30) ⊎ (byte ≡ 0x31)

-- at an offset stands a ~ without 0 or 1 after it
pub record IsBadEscape (pointer : List ℕ) (at : ℕ) : Type 0 where
  pub within : at < length pointer
  pub tilde : slice_index pointer at ≡ 0x7e
  pub after : IsEscapeDigit (slice_index pointer (at + 1)) → ⊥

-- it is empty or begins with a slash
abbrev pub HasSlash : List ℕ → Type 0
HasSlash pointer = 0 < length pointer → slice_index pointer 0 ≡ 0x2f

pub record IsPointer (pointer : List ℕ) : Type 0 where
  pub slash : HasSlash pointer
  pub escapes : (at : ℕ) → IsBadEscape pointer at → ⊥

-- at the least offset of such a ~
pub record IsFirstBadEscape (pointer : List ℕ) (at : ℕ) : Type 0 where
  pub slash : HasSlash pointer
  pub here : IsBadEscape pointer at
  pub before : (k : ℕ) → k < at → IsBadEscape pointer k → ⊥

-- ---- the tokens

-- no slash among the bytes
abbrev pub HasNoSlash : List ℕ → Type 0
HasNoSlash [] = Unit {0}
HasNoSlash (b ∷ bs) = (b ≢ 0x2f) × HasNoSlash bs

-- a list parted at its slashes
abbrev pub onto_first : ℕ → List (List ℕ) → List (List ℕ)
onto_first b [] = (b ∷ []) ∷ []
onto_first b (first ∷ rest) = (b ∷ first) ∷ rest

unfoldable pub parted : List ℕ → List (List ℕ)
parted [] = [] ∷ []
parted (b ∷ bs) = if b == 0x2f then [] ∷ parted bs else onto_first b (parted bs)

-- the units of each token
abbrev pub tokens : List ℕ → List (List ℕ)
tokens pointer = map (chars_units InToken 0) (drop 1 (parted pointer))
