use Rattle.jx_run.specs.Settings.{a_text}
use Rattle.jx_file_query.proofs.Fills.{container_filled}
use Rattle.jx_file_query.proofs.laws.children_of_parts.Goals as goal

pub returns : goal.returns
returns c = record {
  each = λ settings text container parts x some.
      container_filled parts
      (record {
        tokens = record { reads = c.grammar_of_tokens.ensures.reads; stays = c.grammar_of_tokens.ensures.stays };
        index = c.index_behind_a_front.ensures.index;
        text = c.index_behind_a_front.ensures.text;
        one_tree = c.unique_tree_by_settings.ensures.one_tree;
      })
      settings text container (c.accepted_texts_stand_behind_fronts.ensures settings text (a_text x.is_text)) x some;
}
