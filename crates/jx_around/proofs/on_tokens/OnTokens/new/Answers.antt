use Rattle.std.proofs.Common.{ℕ, sym, subst}
use Rattle.jx_index.specs.inside.Building.{nothing_built}
use Rattle.jx_index.proofs.InOrders.{nothing_seen}
use Rattle.jx_around.specs.inside.Collecting.{Collecting, Follows, collecting, nothing_collected}
use Rattle.jx_around.proofs.Collects.{nothing_follows}
use Rattle.jx_around.proofs.on_tokens.OnTokens.new.Goals as goal

pub returns-clause-seen : goal.returns-clause-seen
returns-clause-seen g c =
    let at = g.O.Offset.offset in
    nothing_seen (Follows at (collecting c.new.result))
    (subst (λ (k : Collecting). Follows at k nothing_built) (sym c.new.ensures)
    (subst (λ (x : ℕ). Follows at (nothing_collected x) nothing_built) (sym c.requires) (nothing_follows at)))
