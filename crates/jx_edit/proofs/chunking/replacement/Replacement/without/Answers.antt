use Rattle.jx_edit.proofs.Fronts.{drop_three}
use Rattle.jx_edit.proofs.chunking.replacement.Replacement.without.Goals as goal

pub returns : goal.returns
returns c =
    drop_three c.args.self.before.now c.args.self.bytes.now c.args.self.behind.now c.rest_of.result.now c.rest_of-2.result.now c.rest_of-3.result.now c.args.count
    c.saturating_sub-more.result c.saturating_sub-most.result c.rest_of.ensures c.saturating_sub-more.ensures c.rest_of-2.ensures c.saturating_sub-most.ensures c.rest_of-3.ensures
