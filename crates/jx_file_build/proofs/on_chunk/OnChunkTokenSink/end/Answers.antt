use Rattle.std.proofs.Common.{[], refl, sym, ◌∙◌}
use Rattle.jx_file_build.specs.inside.OpenKinds.{kinds}
use Rattle.jx_file_build.proofs.Gathering.{has_name, has_other, name_at}
use Rattle.jx_file_build.proofs.on_chunk.OnChunkTokenSink.end.Goals as goal

pub returns-then-not-is_kept-clause-seen : goal.returns-then-not-is_kept-clause-seen
returns-then-not-is_kept-clause-seen g c = λ marks ends h.
    let k = c.args.self.now in
    has_other g.B.Before.start marks ends k.chunk.now k.base (kinds k.kinds) k.sum k.begun k.name.items k.hashes.items h c.in-Some.mark c.args.at c.in-Some.is
    k.name.items (sym c.is_kept.ensures ∙ c.if-not-is_kept.true)

pub returns-clause-seen : goal.returns-clause-seen
returns-clause-seen g c = λ marks ends h.
    let k = c.args.self.now in
    let m = c.in-Some.mark in
    has_name g.B.Before.start marks ends k.chunk.now k.base (kinds k.kinds) k.sum k.begun k.name.items k.hashes.items h m c.args.at c.in-Some.is
    c.in_ok-hash.hash _ _ c.in_ok-push.ensures.items (sym c.is_kept.ensures ∙ c.if-not-is_kept.false)
    (λ before base held. c.in_ok-hash.ensures.value ∙ name_at before k.chunk.now c.in_ok-name.name.now m.at _ (c.in_ok-name.ensures refl before [] base held))
