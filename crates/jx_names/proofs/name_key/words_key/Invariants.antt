use Rattle.std.proofs.Common.{◌≡◌}
use Rattle.jx_names.specs.inside.NameBytes.{words_key}
use Rattle.jx_names.proofs.name_key.words_key.Given as goal

abbrev pub invariant-words : goal.invariant-words
invariant-words l = l.key ≡ words_key l.bytes l.n
