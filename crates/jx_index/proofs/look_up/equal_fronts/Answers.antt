use Rattle.std.proofs.Common.{◌≤◌, ℕ, rules, arith}
use Rattle.std.proofs.Math.Dec.{ltb, leb}
use Rattle.std.proofs.lemmas.Bool.{ltb-true, leb-false}
use Rattle.std.proofs.lemmas.List.Sorted.{IsPartitionPoint-from_clause, IsPartitionedBy-ltb, IsPartitionedBy-leb}
use Rattle.jx_index.proofs.look_up.equal_fronts.Goals as goal

pub returns-clause-before : goal.returns-clause-before
returns-clause-before c k low is =
    let fronts = c.args.fronts.now in
    let point = IsPartitionPoint-from_clause (λ y. ltb y c.args.front) _ _ c.partition_point-start.ensures.partitioned (IsPartitionedBy-ltb (λ (y : ℕ). y) _ c.args.front c.requires.rising) (λ a r q k. search rules) in
    let bound = c.partition_point-start.ensures.bound in
    let less = ltb-true _ c.args.front (point.0 k 0 (omega arith) low) in
    absurd (omega (arith, less, is))

pub returns-clause-behind : goal.returns-clause-behind
returns-clause-behind c k high low is =
    let fronts = c.args.fronts.now in
    let point = IsPartitionPoint-from_clause (λ y. leb y c.args.front) _ _ c.partition_point-end.ensures.partitioned (IsPartitionedBy-leb (λ (y : ℕ). y) _ c.args.front c.requires.rising) (λ a r q k. search rules) in
    let from : c.partition_point-end.result ≤ k = omega (arith, high, c.max.ensures) in
    let more = leb-false _ c.args.front (point.1 k 0 from low) in
    absurd (omega (arith, more, is))
