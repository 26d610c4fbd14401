use Rattle.std.proofs.Common.{◌≡◌, refl, rules}
use Rattle.std.proofs.lemmas.Fn.{answers_by}
use Rattle.std.proofs.lemmas.List.Sorted.{ranks_by}
use Rattle.std.specs.Cmp.Lexicographic.{nat_list_cmp_total}
use Rattle.jx_index.specs.Names.{name_units, is_below}
use Rattle.jx_index.proofs.member_order.sort_few.Goals as goal

pub returns : goal.returns
returns c =
    let order = ranks_by nat_list_cmp_total (name_units c.args.text.now c.args.rows.now) in
    record {
      each_once = c.sort_by.ensures.permutation;
      rising =
          c.in_ok-sort_by.ensures.sorted (is_below c.args.text.now c.args.rows.now) order
          (answers_by _ _ (λ f. (f.0.now ≡ c.args.text.now) × (f.1.now ≡ c.args.rows.now)) (λ f a r f' k i. search rules) _ (refl, refl));
      equal_by_place =
          c.sort_by.ensures.stable (is_below c.args.text.now c.args.rows.now) order
          (answers_by _ _ (λ f. (f.0.now ≡ c.args.text.now) × (f.1.now ≡ c.args.rows.now)) (λ f a r f' k i. search rules) _ (refl, refl));
    }
