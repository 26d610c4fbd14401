use Rattle.std.proofs.Common.{refl, subst}
use Rattle.std.specs.Prelude.{map, string_bytes}
use Rattle.jx_find.specs.PointerTrie.{IsTrieOf}
use Rattle.jx_line_values.proofs.Tells.{told_none}
use Rattle.jx_line_values.proofs.values_teller.ValuesTeller.new.Goals as goal

pub invariant_of-result : goal.invariant_of-result
invariant_of-result c = subst (λ ss. IsTrieOf (map string_bytes ss) c.in_ok-trie.trie) c.deref.ensures.value c.in_ok-trie.ensures

pub returns-clause-taken : goal.returns-clause-taken
returns-clause-taken c = λ is_lost told. told_none c.args.task.now is_lost told _ refl (c.new-cutter.ensures.taken c.args.task.now) refl
