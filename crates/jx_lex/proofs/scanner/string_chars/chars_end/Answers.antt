use Rattle.std.proofs.Common.{arith}
use Rattle.jx_lex.proofs.Running.{nothing_leads, Leads-join}
use Rattle.jx_lex.proofs.scanner.string_chars.chars_end.Goals as goal

pub loop-i-init : goal.loop-i-init
loop-i-init c = record { low = omega arith; high = omega arith; led = nothing_leads c.args.text.now c.args.from; sound = c.requires.sound }

pub loop-i-preserved : goal.loop-i-preserved
loop-i-preserved c =
    let before = c.loop-i.invariant in
    let found = c.char_end-end.ensures in
    let low = before.low in
    let up = found.bounds.0 in
    record {
      low = omega (arith, low, up);
      high = found.bounds.1;
      led = Leads-join c.args.text.now c.args.from c.loop-i.i c.char_end-end.result.0 low up before.led found.led;
      sound = found.sound;
    }
