use Rattle.std.proofs.Common.{◌<◌, length, arith, ◌∙◌, length-set}
use Rattle.std.proofs.lemmas.List.Edits.{map_over_more}
use Rattle.std.proofs.lemmas.List.{get_or_default}
use Rattle.jx_maps.specs.Follow.{linked}
use Rattle.jx_maps.proofs.link.link_heads.Goals as goal

pub loop-i-preserved : goal.loop-i-preserved
loop-i-preserved c =
    let low : c.loop-i.i < length c.args.heads.now = omega arith in
    let here : c.loop-i.i < length c.loop-i.heads = omega arith in
    record {
      same = rw c.linked.ensures (map_over_more (linked c.args.right.now c.args.by) c.args.heads.now c.loop-i.heads c.loop-i.i _ low c.loop-i.invariant.same (get_or_default c.loop-i.heads c.loop-i.i _ _ here));
      all = length-set c.loop-i.heads c.loop-i.i _ ∙ c.loop-i.invariant.all;
    }
