use Rattle.std.proofs.Common.{ℕ, List, [], rules, sym, subst}
use Rattle.jx_ends.specs.declared.exit.Exit.TheVariants.{Good}
use Rattle.jx_parallel_report.specs.inside.Elements.{IsToldOf}
use Rattle.jx_parallel_report.proofs.Elements.{told_none}
use Rattle.jx_parallel_report.proofs.elements_reader.ElementsReader.new.Goals as goal

pub returns : goal.returns
returns c = record {
  judged = [];
  read = search (rules, c.elements_of_two_parts.ensures.begun);
  told = subst (λ (xs : List ℕ). IsToldOf c.args.rule.now.is_quiet [] xs Good) (sym c.new-2.ensures.items) (told_none c.args.rule.now.is_quiet);
}
