-- The effect of a text's structural bytes on its open containers (RFC 8259, section 2).
use Rattle.std.specs.Prelude.{ℕ, zero, suc, List, [], ◌∷◌, ◌==◌, if◌then◌else◌}
use Rattle.jx_compact.specs.declared.place.Place.{Place}
use Rattle.jx_compact.specs.declared.place.Place.TheVariants.{Between, Inside, Escaped}
use Rattle.jx_compact.specs.Compact.{next}
use Rattle.jx_each.specs.declared.sign.Sign.{Sign}
use Rattle.jx_each.specs.declared.sign.Sign.TheVariants as sign
use Rattle.jx_each.specs.declared.sign.Turn.{Turn}
use Rattle.jx_each.specs.declared.sign.Turn.TheVariants as turns

abbrev pub sign_of : ℕ → Sign
sign_of byte =
    if byte == 0x5b then sign.OpenArray else
    if byte == 0x7b then sign.OpenObject else
    if byte == 0x5d then sign.Close else
    if byte == 0x7d then sign.Close else
    if byte == 0x2c then sign.Comma else
    if byte == 0x3a then sign.Colon else sign.Other

-- the turn of such a byte where so many containers are open
abbrev pub turn_by : ℕ → Sign → Turn
turn_by zero sign.OpenArray = turns.EnterArray
turn_by zero sign.OpenObject = turns.EnterObject
turn_by zero sign.Close = turns.Past
turn_by zero sign.Comma = turns.Past
turn_by zero sign.Colon = turns.Stay
turn_by zero sign.Other = turns.Stay
turn_by (suc zero) sign.OpenArray = turns.Stay
turn_by (suc zero) sign.OpenObject = turns.Stay
turn_by (suc zero) sign.Close = turns.Leave
turn_by (suc zero) sign.Comma = turns.Next
turn_by (suc zero) sign.Colon = turns.Value
turn_by (suc zero) sign.Other = turns.Stay
turn_by (suc (suc n)) s = turns.Stay

-- a byte in a string does nothing
abbrev pub turn_at : Place → ℕ → ℕ → Turn
turn_at Between height byte = turn_by height (sign_of byte)
turn_at Inside height byte = turns.Stay
turn_at Escaped height byte = turns.Stay

-- how many containers are open after it
abbrev pub turned : ℕ → Sign → ℕ
turned height sign.OpenArray = suc height
turned height sign.OpenObject = suc height
turned zero sign.Close = zero
turned (suc n) sign.Close = n
turned height sign.Comma = height
turned height sign.Colon = height
turned height sign.Other = height

abbrev pub height_next : Place → ℕ → ℕ → ℕ
height_next Between height byte = turned height (sign_of byte)
height_next Inside height byte = height
height_next Escaped height byte = height

abbrev pub height_behind : Place → ℕ → List ℕ → ℕ
height_behind place height [] = height
height_behind place height (byte ∷ bytes) = height_behind (next place byte) (height_next place height byte) bytes
