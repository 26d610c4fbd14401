use Rattle.jx_index.specs.Names.{name_units}
use Rattle.jx_index.specs.Nodes.{name_at}
use Rattle.jx_index.specs.Repeats.{start_in}
use Rattle.jx_index.proofs.Ties.{first_of_ties}
use Rattle.jx_index.proofs.repeats.first_repeat.Goals as goal

pub returns : goal.returns
returns c =
    let text = c.args.text.now in
    let rows = c.args.rows.now in
    first_of_ties 0 (name_units text rows) (λ node. start_in (name_at rows node)) c.args.names.now c.first_tie.result c.requires c.first_tie.ensures
