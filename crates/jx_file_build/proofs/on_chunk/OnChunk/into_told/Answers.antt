use Rattle.std.proofs.Common.{◌∙◌}
use Rattle.jx_file_build.proofs.Gathering.{has_told}
use Rattle.jx_file_build.proofs.on_chunk.OnChunk.into_told.Goals as goal

pub returns-clause-told : goal.returns-clause-told
returns-clause-told g c = λ marks ends h.
    let k = c.args.self in
    has_told g.B.Before.start marks ends k.chunk.now k.base k.sum k.name.items _ h (λ behind. c.in_ok-name.ensures (c.is_behind_name-wanted.ensures ∙ behind))
