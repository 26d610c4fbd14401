use Rattle.std.proofs.Common.{◌+◌, arith}
use Rattle.jx_lex.proofs.Running.{nothing_leads, char_leads, Leads-join}
use Rattle.jx_lex.proofs.Slices.{slice-length}
use Rattle.jx_lex.proofs.scanner.string_chars.escapes_end.Goals as goal

pub loop-i-init : goal.loop-i-init
loop-i-init c = record { low = omega arith; high = omega arith; led = nothing_leads c.args.text.now c.args.from }

pub loop-i-preserved : goal.loop-i-preserved
loop-i-preserved c =
    let before = c.loop-i.invariant in
    let found = c.escape_len-len.ensures in
    let xs = c.args.text.now in
    let i = c.loop-i.i in
    let n = c.escape_len-len.result in
    let low = before.low in
    let high = before.high in
    let long = slice-length xs i c.args.to high (omega arith) in
    let within = found.within in
    record {
      low = omega (arith, low);
      high = omega (arith, within, long);
      led = Leads-join xs c.args.from i (i + n) low (omega arith) before.led (char_leads xs i c.args.to n within found.led);
    }
