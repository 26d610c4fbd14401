use Rattle.std.proofs.Common.{◌≡◌, map, take}
use Rattle.jx_index.specs.inside.NameKeys.{key_in}
use Rattle.jx_index.proofs.name_keys.list_keys.Given as goal

-- the keys of the names so far
abbrev pub invariant-loop-name : goal.invariant-loop-name
invariant-loop-name l = l.keys.items ≡ map (key_in l.text) (take l.name-index l.names)
