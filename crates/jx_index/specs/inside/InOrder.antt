-- The structure that is built of the tokens that a sink was given.
use Rattle.std.specs.Prelude.{◌≡◌, ◌<◌, ◌-◌, ◌^◌, ℕ, List, ◌∷◌, ◌++◌, Option, None, Some, true}
use Rattle.jx_lex.specs.declared.alphabet.mark.Mark.{Mark}
use Rattle.jx_index.specs.inside.Building.{Building, nothing_built, is_token, make}
use Rattle.jx_index.specs.inside.Built.{Fits}
use Rattle.jx_index.specs.inside.Low.{AllLow}

-- a token that has begun stands in front of what follows
abbrev pub behind : Option Mark → List Mark → List Mark
behind None more = more
behind (Some m) more = m ∷ more

abbrev pub IsToken : Option Mark → Type 0
IsToken begun = (m : Mark) → begun ≡ Some m → is_token m.kind ≡ true

-- these token starts and ends, and whatever follows, make what follows makes of this building
abbrev pub Comes : List Mark → List ℕ → Building → Option Mark → Type 0
Comes marks ends b begun = (last : ℕ) (more : List Mark) (others : List ℕ) → make last (marks ++ more) (ends ++ others) nothing_built ≡ make last (behind begun more) others b

-- the building to which these token starts and ends lead has this property
pub record SeenAs (Holds : Building → Type 0) (marks : List Mark) (ends : List ℕ) (begun : Option Mark) : Type 0 where
  pub building : Building
  pub fits : Fits building
  pub low : (m : Mark) → begun ≡ Some m → m.at < 2 ^ 64 - 1
  pub token : IsToken begun
  pub comes : Comes marks ends building begun
  pub holds : Holds building

abbrev pub HasSeen : (Building → Type 0) → List Mark → List ℕ → Option Mark → Type 0
HasSeen Holds marks ends begun = AllLow marks → SeenAs Holds marks ends begun
