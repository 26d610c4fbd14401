use Rattle.std.proofs.Common.{◌∙◌, sym}
use Rattle.jx_lex.specs.inside.Bits.{bit}
use Rattle.jx_lex.proofs.Bits.{bit-or}
use Rattle.jx_reduce.proofs.BlockWalk.{closes_one, last_two, opens_one}
use Rattle.jx_reduce.proofs.stack.bracket_walk.bracket.Goals as goal

pub returns-then-is_bit-clause-steps : goal.returns-then-is_bit-clause-steps
unfolding bit
returns-then-is_bit-clause-steps c =
    let t = c.args.kinds.now in
    let k = c.args.k in
    let object = c.is_bit-then-is_bit in
    opens_one t k c.args.inner c.args.room c.opened.result object.result (sym object.ensures)
    (sym (bit-or t.open_arrays t.open_objects k) ∙ sym c.is_bit.ensures ∙ c.if-is_bit.true) c.opened.ensures.room c.opened.ensures.opened

pub returns-clause-steps : goal.returns-clause-steps
unfolding bit
returns-clause-steps c =
    let t = c.args.kinds.now in
    let k = c.args.k in
    let none = sym (bit-or t.open_arrays t.open_objects k) ∙ sym c.is_bit.ensures ∙ c.if-is_bit.false in
    closes_one t k c.args.inner c.args.room c.closed.result c.is_bit-2.result (sym c.is_bit-2.ensures)
    (last_two (bit t.open_arrays k) (bit t.open_objects k) (bit t.close_arrays k) (bit t.close_objects k) c.requires.bracket none) c.closed.ensures.top c.closed.ensures.closed
