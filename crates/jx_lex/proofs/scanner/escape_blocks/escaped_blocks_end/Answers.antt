use Rattle.std.proofs.Common.{◌+◌, arith}
use Rattle.jx_lex.proofs.Running.{nothing_leads, block_leads, Leads-join}
use Rattle.jx_lex.proofs.scanner.escape_blocks.escaped_blocks_end.Goals as goal

pub loop-i-init : goal.loop-i-init
loop-i-init c = record { low = omega arith; high = omega arith; led = nothing_leads c.args.text.now c.args.from }

pub loop-i-preserved : goal.loop-i-preserved
loop-i-preserved c =
    let before = c.loop-i.invariant in
    let block = c.escaped_len-len.ensures in
    let xs = c.args.text.now in
    let i = c.loop-i.i in
    let n = c.escaped_len-len.result in
    let low = before.low in
    let few = block.few in
    record {
      low = omega (arith, low);
      high = omega (arith, few);
      led = Leads-join xs c.args.from i (i + n) low (omega arith) before.led (block_leads xs i n 64 (omega (arith, few)) block.led);
    }

pub returns-then-len-lt-LEAST-clause-led : goal.returns-then-len-lt-LEAST-clause-led
returns-then-len-lt-LEAST-clause-led c =
    let before = c.loop-i.invariant in
    let block = c.escaped_len-len.ensures in
    let xs = c.args.text.now in
    let i = c.loop-i.i in
    let n = c.escaped_len-len.result in
    let low = before.low in
    let few = block.few in
    Leads-join xs c.args.from i (i + n) low (omega arith) before.led (block_leads xs i n 64 (omega (arith, few)) block.led)
