use Rattle.jx_index.proofs.InOrders.{none_of}
use Rattle.jx_file_build.specs.inside.OpenKinds.{kinds}
use Rattle.jx_file_build.proofs.NoNames.{has_counted}
use Rattle.jx_file_build.proofs.on_chunk.OnChunkTokenSink.counted.Goals as goal

pub returns-clause-seen : goal.returns-clause-seen
returns-clause-seen g c = λ ms es h marks ends s.
    let k = c.args.self.now in
    let d = c.in-Some.ensures in
    has_counted g.B.Before.start k.chunk.now k.base k.kinds k.sum k.begun k.name.items k.hashes.items (none_of k.begun c.requires.turn) c.args.counts.now c.in-Some.depth d.arrays d.braces d.depth
    (kinds c.set_depth.new.self) c.in-Some-counted.sum c.keep_hashes.new.hashes.items c.in_ok-set_depth.ensures marks ms ends es h (c.in-Some-counted.ensures ms es h) c.keep_hashes.ensures s
