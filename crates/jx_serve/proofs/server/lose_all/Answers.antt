use Rattle.std.proofs.Common.{set, ap, sym, ◌∙◌, arith}
use Rattle.std.proofs.lemmas.List.Edits.{map_over_more}
use Rattle.jx_serve.specs.Served.{lost_open}
use Rattle.jx_serve.proofs.server.lose_all.Goals as goal

pub loop-open-preserved : goal.loop-open-preserved
loop-open-preserved c =
    ap (λ x. set c.loop-open.documents c.loop-open.open-index x) (c.lose.ensures ∙ ap lost_open (sym c.open-item.is))
    ∙ map_over_more lost_open c.args.documents.now c.loop-open.documents c.loop-open.open-index c.open-item.result (omega arith) c.loop-open.invariant c.open-item.is
