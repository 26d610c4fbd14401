use Rattle.std.proofs.Common.{◌≡◌, true, length}
use Rattle.jx_serve.specs.inside.Sound.{list_head, AreOpen, IsPlainValue}
use Rattle.jx_serve.proofs.nested_words.add_nested.Given as goal

-- so many values are open, where the id and all names are known to be JSON
abbrev pub invariant-loop-number : goal.invariant-loop-number
invariant-loop-number l = l.known ≡ true → IsPlainValue l.id × AreOpen (list_head l.id) (length l.levels.items) true l.out.items
