use Rattle.std.proofs.Common.{[], refl, sym, ◌∙◌}
use Rattle.jx_index.proofs.InOrders.{none_of}
use Rattle.jx_file_build.specs.inside.OpenKinds.{kinds}
use Rattle.jx_file_build.proofs.Gathering.{name_at, whole_name, whole_other}
use Rattle.jx_file_build.proofs.on_chunk.OnChunkTokenSink.token.Goals as goal

pub returns-then-not-is_kept-clause-seen : goal.returns-then-not-is_kept-clause-seen
returns-then-not-is_kept-clause-seen g c = λ marks ends h.
    let k = c.args.self.now in
    whole_other g.B.Before.start marks ends k.chunk.now k.base (kinds k.kinds) k.sum k.begun k.name.items k.hashes.items h c.args.mark c.in_ok-at.at c.args.to (kinds c.push.new.self) c.in_ok-at.ensures
    (none_of k.begun c.requires.turn) c.in_ok-push.ensures c.requires.kind k.name.items (sym c.is_kept.ensures ∙ c.if-not-is_kept.true)

pub returns-clause-seen : goal.returns-clause-seen
returns-clause-seen g c = λ marks ends h.
    let k = c.args.self.now in
    whole_name g.B.Before.start marks ends k.chunk.now k.base (kinds k.kinds) k.sum k.begun k.name.items k.hashes.items h c.args.mark c.in_ok-at.at c.args.to (kinds c.push.new.self) c.in_ok-at.ensures
    (none_of k.begun c.requires.turn) c.in_ok-push.ensures c.requires.kind
    c.in_ok-hash.hash _ _ c.in_ok-push-2.ensures.items (sym c.is_kept.ensures ∙ c.if-not-is_kept.false)
    (λ before base held. c.in_ok-hash.ensures.value ∙ name_at before k.chunk.now c.in_ok-name.name.now c.in_ok-at.at _ (c.in_ok-name.ensures refl before [] base held))
