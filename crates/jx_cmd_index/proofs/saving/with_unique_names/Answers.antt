use Rattle.jx_cmd_index.proofs.AnyNames.{unique_index}
use Rattle.jx_cmd_index.proofs.saving.with_unique_names.Goals as goal

pub returns : goal.returns
returns c = λ settings chunk bytes unique is. unique_index settings chunk bytes c.args.index unique is
