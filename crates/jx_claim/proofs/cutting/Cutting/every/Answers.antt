use Rattle.std.proofs.Common.{◌≡◌, ◌+◌, ◌*◌, ◌<◌, ◌≤◌, List, length, ap, sym, ◌∙◌, refl, subst, arith}
use Rattle.std.proofs.lemmas.Grind.{div_ceil_times}
use Rattle.jx_summary.specs.declared.span.Span.{Span}
use Rattle.jx_claim.specs.Cut.{Tiles, OfSize, behind}
use Rattle.jx_claim.specs.inside.Listed.{regular}
use Rattle.jx_claim.proofs.Pieces.{regular_covers, length-regular, regular_of_size, few_enough, behind_start, none_ended}
use Rattle.jx_claim.proofs.cutting.Cutting.every.Goals as goal

-- the count is the number of pieces that begin before the end
counted : (c : goal.Else-count) → (c.args.len ≤ c.div_ceil-count.result * c.args.size) × (c.div_ceil-count.result * c.args.size < c.args.len + c.args.size)
counted c = subst (λ q. (c.args.len ≤ q * c.args.size) × (q * c.args.size < c.args.len + c.args.size)) (sym c.div_ceil-count.ensures)
    (div_ceil_times c.args.len c.args.size (omega arith))

covered : (c : goal.Else-count) → Tiles 0 (regular c.args.len c.args.size c.div_ceil-count.result 0) c.args.len
covered c = let k = counted c in
    regular_covers c.args.len c.args.size c.div_ceil-count.result 0 (omega arith) (omega arith) (omega (arith, k.0)) (omega (arith, k.1))

-- none of them is cut off
all_of : (c : goal.Else-count) → behind 0 (regular c.args.len c.args.size c.div_ceil-count.result 0) ≡ regular c.args.len c.args.size c.div_ceil-count.result 0
all_of c = behind_start 0 (regular c.args.len c.args.size c.div_ceil-count.result 0) c.args.len 0 (covered c) (omega arith)

pub invariant_of-result : goal.invariant_of-result
invariant_of-result c = let k = counted c in (
  covered c,
  omega (arith, length-regular c.args.len c.args.size c.div_ceil-count.result 0),
  (omega arith, k.0, k.1),
  omega arith,
  none_ended (regular c.args.len c.args.size c.div_ceil-count.result 0) c.args.len (covered c),
)

pub returns-clause-covers : goal.returns-clause-covers
returns-clause-covers c = subst (λ ps. Tiles 0 ps c.args.len) (sym (all_of c)) (covered c)

pub returns-clause-sizes : goal.returns-clause-sizes
returns-clause-sizes c = subst (OfSize c.args.size) (sym (all_of c)) (regular_of_size c.args.len c.args.size c.div_ceil-count.result (omega arith) (counted c).1)

pub returns-clause-count : goal.returns-clause-count
returns-clause-count c = ap (λ (ps : List Span). length ps) (all_of c) ∙ length-regular c.args.len c.args.size c.div_ceil-count.result 0 ∙ c.div_ceil-count.ensures

pub returns-clause-few : goal.returns-clause-few
returns-clause-few c = (λ _. few_enough c.args.len c.args.size c.div_ceil-count.result (counted c).0 (omega arith), λ _. refl)
