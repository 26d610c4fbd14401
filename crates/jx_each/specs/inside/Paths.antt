-- The tokens of a pointer as they are kept.
use Rattle.std.specs.Prelude.{ℕ, List, map}
use Rattle.jx_each.specs.declared.stand.Stage.{Stage}
use Rattle.jx_each.specs.declared.stand.Stage.TheVariants.{Ahead, Elements, Members, Array, Object, Name, Pair, Names, Empties, Over}
use Rattle.jx_each.specs.declared.target.Target.{Target}
use Rattle.jx_each.specs.declared.token.Token.{Token}
use Rattle.jx_each.specs.Machine.{Aim}

abbrev pub units_of : Token → List ℕ
units_of token = token.units.items

abbrev pub path_of : List Token → List (List ℕ)
path_of path = map units_of path

abbrev pub aim_of : Target → Aim
aim_of target = record { path = path_of target.path.items; content = target.content }

-- how many elements of an array on the way were passed
abbrev pub count_in : Stage → ℕ
count_in (Elements level n) = n
count_in (Ahead level) = 0
count_in (Members level) = 0
count_in Array = 0
count_in Object = 0
count_in Name = 0
count_in Pair = 0
count_in Names = 0
count_in Empties = 0
count_in Over = 0
