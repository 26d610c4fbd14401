use Rattle.std.proofs.Common.{not}
use Rattle.std.specs.Prelude.{is_some}
use Rattle.jx_serve.specs.inside.Sound.{list_head, IsBegun}
use Rattle.jx_serve.proofs.fold_words.add_folded.Given as goal

-- the list so far
abbrev pub invariant-loop-symbol : goal.invariant-loop-symbol
invariant-loop-symbol l = IsBegun (list_head l.id) 510 (not (is_some l.told)) l.out.items
