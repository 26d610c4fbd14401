use Rattle.std.proofs.Common.{arith}
use Rattle.std.proofs.lemmas.Result.{IfOk-at_ok}
use Rattle.jx_c.proofs.Alls.{as_many}
use Rattle.jx_c.proofs.texts.all.count_of.Goals as goal

pub returns-in-Ok-clause-all : goal.returns-in-Ok-clause-all
returns-in-Ok-clause-all c = λ settings text x.
    let long = IfOk-at_ok _ c.in-Ok.is (as_many settings text c.args.pointers.now c.args.read.now x) in omega (arith, long)
