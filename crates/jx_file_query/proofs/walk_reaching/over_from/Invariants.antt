use Rattle.jx_file_query.specs.inside.Blocks.{IsBlockAt}
use Rattle.jx_file_query.specs.inside.Stretch.{IsStretch}
use Rattle.jx_file_query.proofs.walk_reaching.over_from.Given as goal

abbrev pub invariant-levels : goal.invariant-levels
invariant-levels l = record {
  block : IsBlockAt l.index l.at l.block;
  stretch : IsStretch l.index l.edges l.held l.at l.stretch;
}

abbrev pub decreases-levels : goal.decreases-levels
decreases-levels l = l.block.count
