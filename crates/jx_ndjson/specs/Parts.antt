-- Bytes that separators cut into parts, whichever byte separates: a record separator (RFC 7464, section 2.2) or a line feed.
use Rattle.std.specs.Prelude.{ℕ, suc, Bool, List, [], ◌∷◌, if◌then◌else◌}
use Rattle.jx_run.specs.Elements.{Part, part}

-- the bytes before the first separator, or all where there is none
abbrev pub before_first : (ℕ → Bool) → List ℕ → List ℕ
before_first separates [] = []
before_first separates (b ∷ bytes) = if separates b then [] else b ∷ before_first separates bytes

-- the part after each separator, up to the next one or to the end, in order; the bytes stand from an offset on
abbrev pub behind_each : (ℕ → Bool) → ℕ → List ℕ → List Part
behind_each separates at [] = []
behind_each separates at (b ∷ bytes) =
    if separates b then part (suc at) (before_first separates bytes) ∷ behind_each separates (suc at) bytes else behind_each separates (suc at) bytes

-- the parts between the separators, before the first and after the last
abbrev pub parts_by : (ℕ → Bool) → ℕ → List ℕ → List Part
parts_by separates at bytes = part at (before_first separates bytes) ∷ behind_each separates at bytes
