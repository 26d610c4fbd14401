use Rattle.std.proofs.Common.{◌≡◌, drop}
use Rattle.jx_index.specs.declared.units.Spelling.TheVariants.{InText}
use Rattle.jx_index.specs.Units.{chars_units}
use Rattle.jx_index.specs.inside.NameKeys.{key_behind, key_in}
use Rattle.jx_index.proofs.name_keys.key_of.Given as goal

-- the bytes that are left lead to the name's key
abbrev pub invariant-loop-at : goal.invariant-loop-at
invariant-loop-at l = key_behind l.key (chars_units InText 0 (drop l.at l.bytes)) ≡ key_in l.text l.fn.name
