use Rattle.std.proofs.Common.{◌≡◌, true}
use Rattle.std.specs.Prelude.{◌==◌}
use Rattle.jx_serve.specs.inside.Sound.{list_head, IsBegun, IsPlainValue}
use Rattle.jx_serve.proofs.selection_words.add_selected.Given as goal

-- the list so far, where the id is known to be JSON and no ranges are too deep
abbrev pub invariant-loop-number : goal.invariant-loop-number
invariant-loop-number l = l.known ≡ true → IsPlainValue l.id × IsBegun (list_head l.id) 510 (l.number == 0) l.out.items
