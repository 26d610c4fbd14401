use Rattle.std.proofs.Common.{rules, ◌≡◌, ℕ, ◌+◌, ◌%◌, ◌^◌, subst}
use mathlib.Core.Option.{none}
use Rattle.atomic_table.specs.Table.{step, Allows}
use Rattle.jx_claim.specs.inside.Dealt.{Dealt, DrawsFrom}
use Rattle.jx_claim.proofs.Deals.{draws}
use Rattle.jx_claim.proofs.claims.Claims.take.Goals as goal

pub fetch_add-requires : goal.fetch_add-requires
fetch_add-requires g c =
    let i = c.self.invariant in
    let r = c.requires.seat in
    let t = c.self.inside.table.shared in
    let same : t.key.pieces ≡ g.C.Count.pieces = search rules in (
      search rules,
      search rules,
      subst (λ (p : ℕ). Allows (Dealt t.key) t.table_id.slots c.args.seat.now.id c.args.seat.now.me 0 (λ n. (n + 1) % 2 ^ 64) (DrawsFrom p (step t.table_id.slots 0 1 0 none) c.args.seat.now.me)) same
          (draws t.key t.table_id.slots c.args.seat.now.id c.args.seat.now.me r.1 r.2),
    )
