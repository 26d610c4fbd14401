use Rattle.std.proofs.Common.{drop, arith}
use Rattle.jx_index.specs.Units.{chars_units}
use Rattle.jx_index.proofs.Few.{above_digits}
use Rattle.jx_index.proofs.trie.place_of.Goals as goal

pub returns-in-Some : goal.returns-in-Some
returns-in-Some c =
    above_digits c.in-Some.first (chars_units c.args.spelling 0 c.args.bytes.now) (chars_units c.args.spelling 0 (drop 1 c.args.bytes.now)) c.in-Some.ensures (let t = c.if-first-gt57.true in omega (arith, t))
