use Rattle.jx_index.proofs.Settled.{index_behind, over_rest, text_behind, verdict_behind}
use Rattle.jx_index.proofs.laws.index_behind_a_front.Goals as goal

pub returns : goal.returns
returns c = record {
  over = over_rest;
  index = index_behind;
  verdict = verdict_behind c.beginning_of_a_text_by_its_front.ensures.told;
  text = text_behind;
}
