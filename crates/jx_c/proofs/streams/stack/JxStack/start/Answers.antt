use Rattle.std.proofs.Common.{ap, refl}
use Rattle.jx_reduce.specs.Read.{went}
use Rattle.jx_reduce.specs.declared.table.expect.Expect.TheVariants.{Value}
use Rattle.jx_c.proofs.Words.{nothing}
use Rattle.jx_c.proofs.streams.stack.JxStack.start.Goals as goal

pub returns-clause-reads : goal.returns-clause-reads
returns-clause-reads c = ap (went Value) (nothing 0 0 c.args.self.now.words refl)
