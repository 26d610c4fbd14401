use Rattle.std.proofs.Common.{sym, ◌∙◌}
use Rattle.jx_file_index.proofs.Searches.{not_found}
use Rattle.jx_file_index.proofs.name_tables.has_key.Goals as goal

pub returns : goal.returns
returns c = λ none rising has. not_found c.args.keys.now c.args.key c.binary_search.result c.binary_search.ensures.position rising (sym c.is_ok.ensures.value ∙ none) has
