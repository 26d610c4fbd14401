use Rattle.std.proofs.Common.{◌≡◌, ℕ, suc, ◌+◌, List, true, false, sym, ap, subst, ◌∙◌, rules, arith, Result, Ok}
use Rattle.std.proofs.Math.Dec.{ltb}
use Rattle.std.proofs.lemmas.List.{get_or_default}
use Rattle.std.proofs.lemmas.List.Sorted.{searchable_from_sorted, IsPartitionPoint-from_clause, IsPartitionedBy-ltb}
use Rattle.std.specs.Cmp.Lexicographic.{nat_list_cmp_total, slice_cmp}
use Rattle.std.specs.List.Sorted.{IsNonDecreasingBy, IsSortedBy}
use Rattle.std.specs.Ordering.{nat_cmp}
use Rattle.jx_index.specs.declared.find_fault.FindFault.{FindFault}
use Rattle.jx_index.specs.declared.row.Row.{Row}
use Rattle.jx_index.specs.declared.units.Spelling.TheVariants.{InToken}
use Rattle.jx_index.specs.Leads.{only}
use Rattle.jx_index.specs.inside.LookUp.{rank_of, IsEqualAt}
use Rattle.jx_index.specs.Names.{is_below, name_units}
use Rattle.jx_index.specs.RowsLead.{is_equal}
use Rattle.jx_index.specs.Units.{chars_units}
use Rattle.jx_index.proofs.Halving.{eq_at_one, eq_not_one, nowhere, once, often}
use Rattle.jx_index.proofs.look_up.find_name.Goals as goal

rises : (text : List ℕ) (rows : List Row) (names units : List ℕ) → IsSortedBy (is_below text rows) names → IsNonDecreasingBy (rank_of text rows units) names
rises text rows names units h = searchable_from_sorted nat_list_cmp_total (name_units text rows) names units h

passes : (text : List ℕ) (rows : List Row) (units : List ℕ) (y : ℕ) → rank_of text rows units y ≡ 1 → is_equal text rows units y ≡ true
passes text rows units y h = eq_at_one (slice_cmp nat_cmp (name_units text rows y) units) h

fails : (text : List ℕ) (rows : List Row) (units : List ℕ) (y : ℕ) → (rank_of text rows units y ≡ 1 → ⊥) → is_equal text rows units y ≡ false
fails text rows units y h = eq_not_one (slice_cmp nat_cmp (name_units text rows y) units) h

pub returns-then-not-is_equal_at : goal.returns-then-not-is_equal_at
returns-then-not-is_equal_at c =
    let text = c.args.text.now in
    let rows = c.args.rows.now in
    let units = chars_units InToken 0 c.args.name.now in
    let up = rises text rows c.args.names.now units c.requires in
    let point = IsPartitionPoint-from_clause (λ y. ltb (rank_of text rows units y) 1) _ _ c.partition_point-at.ensures.partitioned (IsPartitionedBy-ltb (rank_of text rows units) _ 1 up) (λ a r q k. search rules) in
    sym (ap (λ (x : List ℕ). only x c.args.token)
    (nowhere (rank_of text rows units) (is_equal text rows units) (passes text rows units) (fails text rows units) c.args.names.now c.partition_point-at.result up point
    (λ e. let t = c.is_equal_at.ensures.1 e in let f = c.if-not-is_equal_at.true in absurd cc)))

pub returns-then-is_equal_at : goal.returns-then-is_equal_at
returns-then-is_equal_at c =
    let text = c.args.text.now in
    let rows = c.args.rows.now in
    let units = chars_units InToken 0 c.args.name.now in
    let up = rises text rows c.args.names.now units c.requires in
    let point = IsPartitionPoint-from_clause (λ y. ltb (rank_of text rows units y) 1) _ _ c.partition_point-at.ensures.partitioned (IsPartitionedBy-ltb (rank_of text rows units) _ 1 up) (λ a r q k. search rules) in
    let e : c.partition_point-at.result + 1 ≡ suc c.partition_point-at.result = omega arith in
    sym (ap (λ (x : List ℕ). only x c.args.token)
    (often (rank_of text rows units) (is_equal text rows units) (passes text rows units) (fails text rows units) c.args.names.now c.partition_point-at.result up point
    (c.is_equal_at.ensures.0 c.if-not-is_equal_at.false) (subst (IsEqualAt (rank_of text rows units) c.args.names.now) e (c.is_equal_at-2.ensures.0 c.if-is_equal_at.true))))

pub returns : goal.returns
returns c =
    let text = c.args.text.now in
    let rows = c.args.rows.now in
    let units = chars_units InToken 0 c.args.name.now in
    let up = rises text rows c.args.names.now units c.requires in
    let point = IsPartitionPoint-from_clause (λ y. ltb (rank_of text rows units y) 1) _ _ c.partition_point-at.ensures.partitioned (IsPartitionedBy-ltb (rank_of text rows units) _ 1 up) (λ a r q k. search rules) in
    let e : suc c.partition_point-at.result ≡ c.partition_point-at.result + 1 = omega arith in
    let one = once (rank_of text rows units) (is_equal text rows units) (passes text rows units) (fails text rows units) c.args.names.now c.partition_point-at.result up point
    (c.is_equal_at.ensures.0 c.if-not-is_equal_at.false)
    (λ h. let t = c.is_equal_at-2.ensures.1 (subst (IsEqualAt (rank_of text rows units) c.args.names.now) e h) in let f = c.if-is_equal_at.false in absurd cc) in
    ap (λ (n : ℕ). let r : Result ℕ FindFault = Ok n in r)
    (c.index-names-at.is ∙ get_or_default c.args.names.now c.partition_point-at.result c.index-names-at.result 0 (c.is_equal_at.ensures.0 c.if-not-is_equal_at.false).0)
    ∙ sym (ap (λ (x : List ℕ). only x c.args.token) one)
