use Rattle.std.proofs.Common.{◌≡◌, true}
use Rattle.std.specs.Prelude.{◌==◌}
use Rattle.jx_serve.specs.inside.Sound.{list_head, IsAString, IsBegun, IsPlainValue}
use Rattle.jx_serve.proofs.symbol_words.add_outlined.Given as goal

-- the list so far, where the id, the document's name and all names are known to be JSON
abbrev pub invariant-loop-number : goal.invariant-loop-number
invariant-loop-number l = l.known ≡ true → IsPlainValue l.id × (IsAString l.uri × IsBegun (list_head l.id) 510 (l.number == 0) l.out.items)
