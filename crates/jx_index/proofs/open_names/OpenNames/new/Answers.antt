use Rattle.std.proofs.Common.{ap}
use Rattle.std.specs.Prelude.{reverse}
use Rattle.jx_index.proofs.OpenNames.{none_held}
use Rattle.jx_index.proofs.open_names.OpenNames.new.Goals as goal

pub returns : goal.returns
returns c = none_held c.args.text.now _ c.new-2.result.items (ap reverse c.new.ensures.items) c.new-2.ensures.items
