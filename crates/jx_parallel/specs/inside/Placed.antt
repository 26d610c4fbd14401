-- A part that was judged, and where its bytes stand in a text.
use Rattle.std.specs.Prelude.{◌≡◌, ℕ, List, Option, Some, length}
use Rattle.jx_parallel.specs.Offsets.{StandThere}

pub record PlacedValue (Part : Type 0) : Type 0 where
  pub part : Part
  pub at : ℕ
  pub len : ℕ

abbrev pub placed : {Part : Type 0} → Part → ℕ → ℕ → PlacedValue Part
placed part at len = record { part = part; at = at; len = len }

-- judging these bytes from an offset on gives this, by the rule if there is one
abbrev pub IsPartBy : {Rule Part : Type 0} → (Rule → ℕ → List ℕ → Part → Type 0) → Option Rule → ℕ → List ℕ → Part → Type 0
IsPartBy {Rule} is_part ruled at bytes part = (rule : Rule) → ruled ≡ Some rule → is_part rule at bytes part

-- it begins after so many bytes; where the text is known, its bytes are those there
pub record IsPlaced {Part : Type 0} (known : Option (List ℕ)) (is_part : ℕ → List ℕ → Part → Type 0) (p : PlacedValue Part) : Type 0 where
  pub bytes : List ℕ
  pub long : length bytes ≡ p.len
  pub there : StandThere known p.at bytes
  pub is : is_part p.at bytes p.part
