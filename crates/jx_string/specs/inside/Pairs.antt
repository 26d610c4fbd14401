-- One unit or two.
use Rattle.std.specs.Prelude.{ℕ, List, ◌∷◌, option_to_list}
use Rattle.jx_string.specs.declared.spelt.Spelt.{Spelt}

abbrev pub units_in : Spelt → List ℕ
units_in spelt = spelt.first ∷ option_to_list spelt.second
