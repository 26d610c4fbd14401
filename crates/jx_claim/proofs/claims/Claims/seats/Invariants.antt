use Rattle.std.proofs.Common.{◌≡◌, ◌-◌, [], vec_len}
use Rattle.jx_claim.specs.inside.Dealt.{view}
use Rattle.jx_claim.specs.Claimed.{AreFresh}
use Rattle.jx_claim.proofs.claims.Claims.seats.Given as goal

abbrev pub invariant-loop-number : goal.invariant-loop-number
invariant-loop-number l = record {
  rest : (l.rest.table_id ≡ l.initial.rest.table_id) × (l.rest.me ≡ (view (l.self.workers - l.number) [] 0, []));
  seats : (vec_len l.seats ≡ l.number) × AreFresh l.self.id l.seats.items;
}
