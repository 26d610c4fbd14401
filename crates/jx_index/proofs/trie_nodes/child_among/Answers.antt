use Rattle.std.proofs.Common.{sym, ◌∙◌, arith}
use Rattle.jx_index.specs.Units.{chars_units}
use Rattle.jx_index.proofs.Few.{none_at_all, one_there}
use Rattle.jx_index.proofs.trie_nodes.child_among.Goals as goal

pub returns-then-is_led : goal.returns-then-is_led
returns-then-is_led c = λ begin stop.
    sym (one_there c.args.edges.now c.args.node (chars_units c.args.spelling 0 c.args.bytes.now) c.loop-at.at (c.loop-at.invariant begin) (sym c.is_led.ensures ∙ c.if-is_led.true))

pub returns : goal.returns
returns c = λ begin stop.
    sym (none_at_all c.args.edges.now c.args.node (chars_units c.args.spelling 0 c.args.bytes.now) c.loop-at.at c.args.range.end (c.loop-at.invariant begin) (let t = c.loop-at-test.false in omega (arith, t)) stop)
