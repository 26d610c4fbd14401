use Rattle.std.proofs.Common.{◌≡◌, refl, rules}
use Rattle.std.specs.Cmp.Lexicographic.{nat_list_cmp_total}
use Rattle.std.proofs.lemmas.Fn.{answers_by}
use Rattle.std.proofs.lemmas.List.Sorted.{ranks_by}
use Rattle.jx_index.proofs.Orders.{falls}
use Rattle.jx_names.specs.inside.KeptNames.{keyed_in}
use Rattle.jx_names.proofs.name_lists.sort_names.Goals as goal

pub returns : goal.returns
returns c =
    let order = ranks_by nat_list_cmp_total (keyed_in c.args.bytes.now) in
    record {
      rising =
          c.in_ok-sort_by.ensures.sorted (falls (keyed_in c.args.bytes.now)) order
          (answers_by _ _ (λ f. f.0.now ≡ c.args.bytes.now) (λ f a r f' k i. search rules) _ refl);
      stable =
          c.sort_by.ensures.stable (falls (keyed_in c.args.bytes.now)) order
          (answers_by _ _ (λ f. f.0.now ≡ c.args.bytes.now) (λ f a r f' k i. search rules) _ refl);
    }
