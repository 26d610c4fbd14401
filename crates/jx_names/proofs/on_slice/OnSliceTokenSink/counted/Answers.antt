use Rattle.jx_index.proofs.InOrders.{none_of}
use Rattle.jx_names.specs.inside.KeptNames.{kept}
use Rattle.jx_names.proofs.Counted.{has_counted}
use Rattle.jx_names.proofs.on_slice.OnSliceTokenSink.counted.Goals as goal

pub returns-clause-seen : goal.returns-clause-seen
returns-clause-seen g c = λ ms es h marks ends s.
    let k = c.args.self.now in
    let d = c.in-Some.ensures in
    has_counted g.B.Before.held g.B.Before.slice k.slice.now k.base k.names k.begun k.name.items (none_of k.begun c.requires.turn) c.args.counts.now c.in-Some.depth d.arrays d.braces d.depth
    (kept c.set_depth.new.self) c.in_ok-set_depth.ensures marks ms ends es h s
