-- How far bytes move a position.
use Rattle.std.specs.Prelude.{ℕ, Bool, List, ◌≡◌, ◌+◌, ◌*◌, ◌<◌, ◌==◌, if◌then◌else◌, get_or, length, take}
use Rattle.jx_edit.specs.Positions.{first, position_behind}
use Rattle.jx_edit.specs.declared.positions.moves.Moves.{Moves}
use Rattle.jx_edit.specs.declared.positions.position.Position.{Position}
use Rattle.jx_edit.specs.declared.positions.steps.Step.{Step}
use Rattle.jx_edit.specs.declared.positions.steps.Steps.{Steps}

-- the position after bytes that begin at the first one, and that would lead to the second from the start of a text
abbrev pub joined : Position → Position → Position
joined p q = if q.line == 0 then record { line = p.line; character = p.character + q.character } else record { line = p.line + q.line; character = q.character }

abbrev pub is_feed : ℕ → Bool
is_feed byte = byte == 10

-- they are those of these bytes
abbrev pub AreMoves : List ℕ → Moves → Type 0
AreMoves bytes m = m.position ≡ position_behind m.encoding first bytes

abbrev pub position_of : Step → Position
position_of s = record { line = s.line; character = s.character }

-- each is at the position after so many times 128 of these bytes
abbrev pub AreSteps : List ℕ → Steps → Type 0
AreSteps bytes s = (k : ℕ) (step : Step) → k < length s.steps.items → position_of (get_or s.steps.items k step) ≡ position_behind s.encoding first (take (k * 128) bytes)
