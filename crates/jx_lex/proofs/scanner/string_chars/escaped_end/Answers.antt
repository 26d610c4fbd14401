use Rattle.std.proofs.Common.{arith}
use Rattle.jx_lex.proofs.Running.{Leads-join}
use Rattle.jx_lex.proofs.scanner.string_chars.escaped_end.Goals as goal

pub loop-i-init : goal.loop-i-init
loop-i-init c = let blocks = c.escaped_blocks_end-i.ensures in record { low = blocks.bounds.0; high = blocks.bounds.1; led = blocks.led }

pub loop-i-preserved : goal.loop-i-preserved
loop-i-preserved c =
    let xs = c.args.text.now in
    let before = c.loop-i.invariant in
    let escapes = c.escapes_end-end.ensures in
    let ascii = c.ascii_end-i.ensures in
    let low = before.low in
    let up = escapes.bounds.0 in
    let on = ascii.bounds.0 in
    record {
      low = omega (arith, low, up, on);
      high = ascii.bounds.1;
      led = Leads-join xs c.args.from c.loop-i.i c.ascii_end-i.result low (omega (arith, up, on)) before.led
          (Leads-join xs c.loop-i.i c.escapes_end-end.result c.ascii_end-i.result up on escapes.led ascii.led);
    }
