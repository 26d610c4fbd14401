use Rattle.jx_file_build.specs.inside.OpenKinds.{kinds}
use Rattle.jx_file_build.proofs.Gathering.{has_none}
use Rattle.jx_file_build.proofs.on_chunk.OnChunk.new.Goals as goal

pub returns-clause-seen : goal.returns-clause-seen
returns-clause-seen g c =
    has_none g.B.Before.start c.args.chunk.now c.args.base (kinds c.args.standing.kinds) c.new.result c.args.standing.begun c.args.standing.name.items c.new-2.result.items
    c.requires.chunk c.requires.base c.requires.kinds c.new.ensures c.requires.begun c.requires.name c.new-2.ensures.items
