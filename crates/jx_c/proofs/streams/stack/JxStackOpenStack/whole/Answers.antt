use Rattle.std.proofs.Common.{◌≡◌}
use Rattle.jx_c.specs.Stack.{stage_in, holders_of}
use Rattle.jx_c.specs.declared.streams.stack.Stage.TheVariants.{Going}
use Rattle.jx_c.proofs.Moves.{whole_going}
use Rattle.jx_c.proofs.streams.stack.JxStackOpenStack.whole.Goals as goal

pub returns-in-Going : goal.returns-in-Going
returns-in-Going c =
    let is : stage_in c.args.self.now.stage ≡ Going c.in-Going.expect = cc in
    whole_going (stage_in c.args.self.now.stage) c.in-Going.expect c.args.self.now.at c.open_count.result (holders_of c.args.self.now) is c.open_count.ensures.long
