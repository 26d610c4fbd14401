use Rattle.std.proofs.Common.{◌≤◌, ◌<◌, length, arith}
use Rattle.jx_c.specs.Stack.{holders_of}
use Rattle.jx_c.proofs.Moves.{entered, entered_none}
use Rattle.jx_c.proofs.streams.stack.JxStack.enter.Goals as goal

pub returns-then-open_count-self-clause-reads : goal.returns-then-open_count-self-clause-reads
returns-then-open_count-self-clause-reads c =
    let within : length (holders_of c.args.self.now) < c.args.self.now.depth = omega (arith, c.open_count.ensures.long) in
    entered c.code_of-self.result c.args.self.now.depth c.args.at c.open.new.self.at c.args.expect c.args.holder (holders_of c.args.self.now) (holders_of c.open.new.self)
    c.code_of-self.ensures c.open.ensures.holders within

pub returns-else-open_count-self-clause-reads : goal.returns-else-open_count-self-clause-reads
returns-else-open_count-self-clause-reads c =
    let over : c.args.self.now.depth ≤ length (holders_of c.args.self.now) = omega (arith, c.open_count.ensures.long) in
    entered_none c.args.self.now.depth c.args.at c.args.expect c.args.holder (holders_of c.args.self.now) over
