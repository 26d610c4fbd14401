use Rattle.std.proofs.Common.{rules, ◌≡◌, ◌-◌, [], ap, arith}
use Rattle.jx_claim.specs.declared.rule.View.{View}
use Rattle.jx_claim.specs.inside.Dealt.{view}
use Rattle.jx_claim.proofs.Deals.{cuts}
use Rattle.jx_claim.proofs.claims.Claims.seats.Goals as goal

pub split_seat-seat-requires : goal.split_seat-seat-requires
split_seat-seat-requires c =
    let v = c.loop-number.rest.me.0 in
    let is : v ≡ view (c.args.self.now.workers - c.loop-number.number) [] 0 = ap (λ m. m.0) c.loop-number.invariant.rest.1 in
    let workers = ap (λ k. k.workers) c.self.view_is in
    (search rules, search rules, cuts c.self.inside.table.shared.key c.loop-number.rest.id v (omega (arith, ap (λ (w : View). w.seats) is, workers)) (ap (λ (w : View). w.got) is) (ap (λ (w : View). w.nones) is))
