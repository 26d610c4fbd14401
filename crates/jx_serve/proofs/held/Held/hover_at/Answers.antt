use Rattle.std.proofs.Common.{◌≡◌, ap, subst}
use Rattle.jx_edit.specs.Positions.{offset_at}
use Rattle.jx_serve.specs.Changes.{HeldValue, position}
use Rattle.jx_serve.specs.Values.{behind, HasNoHover}
use Rattle.jx_serve.proofs.held.Held.hover_at.Goals as goal

pub returns-then-completed-offset : goal.returns-then-completed-offset
returns-then-completed-offset c =
    let h = c.args.self.now in
    let bytes = ap (λ (v : HeldValue). v.bytes) c.self.view_is in
    let offset : c.offset_of-offset.result ≡ offset_at c.args.encoding h.bytes (position c.args.place) = cc (c.offset_of-offset.ensures.at, c.position_of.ensures, bytes) in
    subst (HasNoHover h.settings h.bytes) offset (behind c.requires c.if-completed-offset.true)
