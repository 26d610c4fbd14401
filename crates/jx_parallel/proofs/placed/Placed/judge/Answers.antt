use Rattle.std.proofs.Common.{◌≡◌, ◌≤◌, ◌+◌, length, subst, sym, ◌∙◌}
use Rattle.std.proofs.lemmas.List.Edits.{length-between}
use Rattle.std.specs.Prelude.{IfSome, Option, Some, slice_range}
use Rattle.jx_parallel.specs.declared.part_reader.Judged.{Judged}
use Rattle.jx_parallel.proofs.There.{inner_there}
use Rattle.jx_parallel.proofs.placed.Placed.judge.Goals as goal

same_rule : {Rule : Type 0} (a b : Rule) → Some a ≡ Some b → a ≡ b
same_rule a b h = cc

pub invariant_of-result : goal.invariant_of-result
invariant_of-result g c =
    let bytes = c.args.bytes.now in
    let from = c.in-Some.judged.from in
    let to = c.in-Some.judged.to in
    let said = c.in_ok-found.ensures in
    let ordered : from ≤ to = subst (λ (o : Option (Judged _)). IfSome o (λ j. j.from ≤ j.to)) c.in-Some.is said.ordered in
    let within : to ≤ length bytes = subst (λ (o : Option (Judged _)). IfSome o (λ j. j.to ≤ length bytes)) c.in-Some.is said.within in
    let part : g.L.PartReader.is_part c.args.rule.now (c.args.at + from) (slice_range bytes from to) c.in-Some.judged.part =
    subst (λ (o : Option (Judged _)). IfSome o (λ j. g.L.PartReader.is_part c.args.rule.now (c.args.at + j.from) (slice_range bytes j.from j.to) j.part)) c.in-Some.is said.part in
    record {
      bytes = slice_range bytes from to;
      long = length-between bytes from to within;
      there = inner_there g.K.Ruled.text c.args.at bytes from to ordered within c.requires.there;
      is = λ rule by. subst (λ r. g.L.PartReader.is_part r (c.args.at + from) (slice_range bytes from to) c.in-Some.judged.part) (same_rule c.args.rule.now rule (sym c.requires.rule ∙ by)) part;
    }
