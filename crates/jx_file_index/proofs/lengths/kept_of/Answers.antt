use Rattle.std.proofs.Common.{◌≡◌, ℕ, ◌+◌, ◌*◌, ◌≤◌, arith, subst}
use Rattle.jx_file_index.specs.Saved.{AreKept, at_top}
use Rattle.jx_file_index.proofs.Decodings.{kept_more}
use Rattle.jx_file_index.proofs.lengths.kept_of.Goals as goal

pub levels-preserved : goal.levels-preserved
levels-preserved c =
    let counted = c.parts-level.ensures.counted in
    let enough = counted.enough in
    let fewest = counted.fewest in
    let several = c.levels-test.true in
    let few = c.levels.invariant.few in
    let half : 2 * c.parts-level.result ≤ c.levels.level = omega (arith, fewest, several) in
    record {
      so_far = λ k h. kept_more c.args.chunks c.levels.kept c.levels.level c.parts-level.result c.levels.invariant.so_far several counted k h;
      some = omega (arith, enough, several);
      few = omega (arith, few, half);
    }

pub returns-clause-kept : goal.returns-clause-kept
returns-clause-kept c =
    let one : c.levels.level ≡ 1 = let most = c.levels-test.false in let some = c.levels.invariant.some in omega (arith, most, some) in
    subst (λ (i : ℕ). AreKept c.args.chunks i) (let e : c.levels.kept + 0 ≡ c.levels.kept = omega arith in e)
    (c.levels.invariant.so_far 0 (subst (λ (i : ℕ). AreKept i 0) (let e : 1 ≡ c.levels.level = omega (arith, one) in e) at_top))

pub returns-clause-few : goal.returns-clause-few
returns-clause-few c = let few = c.levels.invariant.few in let most = c.requires.few in omega (arith, few, most)
