use Rattle.std.proofs.Common.{◌∙◌, ap, arith}
use Rattle.std.specs.Prelude.{◌||◌, ◌&&◌, not}
use Rattle.jx_lex.specs.inside.Bits.{bit}
use Rattle.jx_block.proofs.WordsTell.{neither}
use Rattle.jx_reduce.proofs.stack.next_words.wrong.Goals as goal

pub returns : goal.returns
unfolding bit
returns c k lt none =
    let v = c.args.next.now.value in
    let n = c.args.next.now.name in
    let f = c.args.next.now.first in
    let s = c.args.starts in
    let p = neither _ c.unlike-3.result k none in
    let q = neither _ c.unlike-2.result k p.0 in
    let r = neither c.misplaced.result c.unlike.result k q.0 in
    record {
      placed = c.misplaced.ensures k (omega arith) r.0;
      value_next = c.unlike.ensures k lt r.1 ∙ ap (λ t. t || (bit v k && not (bit s k))) (c.to_value.ensures k (omega arith));
      name_next = c.unlike-2.ensures k lt q.1 ∙ ap (λ t. t || (bit n k && not (bit s k))) (c.to_name.ensures k);
      first_next = c.unlike-3.ensures k lt p.1 ∙ ap (λ t. t || (bit f k && not (bit s k))) (c.to_first.ensures k (omega arith));
    }
