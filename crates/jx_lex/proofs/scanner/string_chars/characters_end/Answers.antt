use Rattle.std.proofs.Common.{sym, ◌∙◌, arith}
use Rattle.jx_lex.proofs.Unescaped.{covered, stretch_led}
use Rattle.jx_lex.proofs.scanner.string_chars.characters_end.Goals as goal

pub returns-then-is_lead-clause-led : goal.returns-then-is_lead-clause-led
returns-then-is_lead-clause-led c =
    let xs = c.args.text.now in
    let a = c.at-ahead.result in
    let sound = c.at-ahead.ensures.sound in
    let within = covered a.from a.to c.args.from c.args.to (sym c.covers.ensures ∙ c.if-covers.true) in
    stretch_led xs a.from a.to c.args.from c.unescaped_end.result within.0 within.1 sound.within (sound.utf8 (omega (arith, within))) (c.is_lead.ensures c.if-is_lead.true) c.unescaped_end.ensures.first
