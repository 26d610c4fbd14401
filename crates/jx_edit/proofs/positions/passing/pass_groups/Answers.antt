use Rattle.std.proofs.Common.{arith, sym, ◌∙◌}
use Rattle.jx_edit.specs.inside.Sums.{text_at}
use Rattle.jx_edit.proofs.Groups.{no_sum}
use Rattle.jx_edit.proofs.Passing.{bytes_fit, next_fits, passed_more, passed_none}
use Rattle.jx_edit.proofs.positions.passing.pass_groups.Goals as goal

pub loop-group-init : goal.loop-group-init
loop-group-init c = record { is = passed_none c.args.encoding c.args.from c.args.sought c.args.chunks.now; here = omega arith }

pub overflow_add-next : goal.overflow_add-next
overflow_add-next c =
    omega (
      arith,
      bytes_fit c.args.encoding c.args.from c.args.sought c.args.chunks.now c.args.sums.now c.loop-group.group no_sum c.loop-group.passed c.loop-group.invariant.is
          c.loop-group.invariant.here c.requires.sums c.loop-group-test.true,
      c.requires.lines,
    )

pub joined-requires : goal.joined-requires
joined-requires c =
    let cs = c.args.chunks.now in
    let g = c.loop-group.group in
    next_fits c.args.encoding c.args.from c.in-Some.moves c.args.sought cs g c.loop-group.passed c.loop-group.invariant.is c.loop-group.invariant.here
    (c.in-Some.ensures (text_at cs g) (c.requires.sums.each g no_sum c.loop-group-test.true).moves) c.requires.lines c.requires.characters

pub loop-group-preserved : goal.loop-group-preserved
loop-group-preserved c =
    let cs = c.args.chunks.now in
    let g = c.loop-group.group in
    record {
      is =
          passed_more c.args.encoding c.args.from c.in-Some.moves c.joined.result c.args.sought cs c.args.sums.now g c.chunks_before.result no_sum c.loop-group.passed
          c.loop-group.invariant.is c.loop-group.invariant.here c.chunks_before.ensures c.requires.sums c.loop-group-test.true (c.in-Some.ensures (text_at cs g) (c.requires.sums.each g no_sum c.loop-group-test.true).moves)
          c.joined.ensures (sym c.is_before.ensures ∙ c.if-is_before.false);
      here = c.chunks_before.ensures;
    }
