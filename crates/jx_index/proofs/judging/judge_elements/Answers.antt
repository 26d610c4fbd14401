use Rattle.jx_index.proofs.judging.judge_elements.Goals as goal

pub judged_by_names-requires : goal.judged_by_names-requires
judged_by_names-requires c = record {
  elements = c.judged_by_mark-elements.ensures.by_mark c.args.input.now c.args.settings.now.depth c.front.ensures.value c.in_ok-all.ensures;
}
