use Rattle.std.proofs.lemmas.List.Sorted.{IsNonDecreasingBy-from_sort}
use Rattle.std.specs.Prelude.{not}
use Rattle.jx_file_build.proofs.Filling.{rising_of}
use Rattle.jx_file_build.proofs.Fitting.{sorted_fit}
use Rattle.jx_file_build.proofs.blocks.OpenBlock.into_table.Goals as goal

pub returns-clause-rising : goal.returns-clause-rising
returns-clause-rising c = rising_of c.sort_unstable.new.self.items (IsNonDecreasingBy-from_sort (λ x. x) c.sort_unstable.new.self.items c.sort_unstable.ensures.sorted)

pub returns-clause-fits : goal.returns-clause-fits
returns-clause-fits c = λ was. sorted_fit (not c.args.self.is_full) c.args.self.keys.items c.sort_unstable.new.self.items c.sort_unstable.ensures.permutation was
