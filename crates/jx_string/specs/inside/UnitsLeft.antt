-- The units of a string that are still to come.
use Rattle.std.specs.Prelude.{ℕ, List, ◌++◌, option_to_list}
use Rattle.jx_index.specs.declared.units.Spelling.TheVariants.{InText}
use Rattle.jx_index.specs.Units.{chars_units}
use Rattle.jx_string.specs.declared.units.Units.{Units}

abbrev pub units_left : Units → List ℕ
units_left units = option_to_list units.pending ++ chars_units InText 0 units.rest.now
