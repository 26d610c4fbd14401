use Rattle.std.proofs.Common.{◌+◌, arith}
use Rattle.jx_lex.proofs.Running.{nothing_leads, char_leads, Leads-join}
use Rattle.jx_lex.proofs.scanner.string_chars.sequences_end.Goals as goal

pub loop-i-init : goal.loop-i-init
loop-i-init c = record { low = omega arith; high = omega arith; led = nothing_leads c.args.text.now c.args.from }

pub loop-i-preserved : goal.loop-i-preserved
loop-i-preserved c =
    let xs = c.args.text.now in
    let i = c.loop-i.i in
    let n = c.character_len-length.result in
    let before = c.loop-i.invariant in
    let found = c.character_len-length.ensures in
    let ascii = c.ascii_end-i.ensures in
    let low = before.low in
    let on = ascii.bounds.0 in
    let within = found.within in
    record {
      low = omega (arith, low, on);
      high = ascii.bounds.1;
      led = Leads-join xs c.args.from i c.ascii_end-i.result low (omega (arith, on)) before.led
          (Leads-join xs i (i + n) c.ascii_end-i.result (omega arith) on (char_leads xs i c.args.to n within found.led) ascii.led);
    }
