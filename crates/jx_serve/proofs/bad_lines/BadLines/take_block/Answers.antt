use Rattle.std.proofs.Common.{◌≡◌, ◌++◌, ◌∙◌, ap, arith, map, List, ℕ}
use Rattle.jx_ndjson.specs.WholeLines.{moved_line}
use Rattle.jx_ndjson.specs.declared.judged_line.JudgedLine.{JudgedLine}
use Rattle.jx_serve.proofs.BadLinesRead.{bad_block}
use Rattle.jx_serve.proofs.bad_lines.BadLines.take_block.Goals as goal

pub returns-clause-bad : goal.returns-clause-bad
returns-clause-bad c = λ settings input bytes are h.
    let old = c.args.self.now in
    let bad : List JudgedLine = old.bad.items in
    let found : List JudgedLine = c.bad.result.now in
    let end = c.end-bytes.ensures in
    let none = c.requires.between in
    let start : c.end-bytes.result ≡ old.reader.reader.start = omega (arith, end, none) in
    bad_block settings input bytes bad c.add_behind.new.bad.items c.args.block.now old.reader.ended old.reader.reader.start old.reader c.pass.new.self are h
    (λ told answers t w. c.pass.ensures.told settings input bytes told answers t w)
    (c.in_ok-add_behind.ensures ∙ ap (λ (n : ℕ). bad ++ map (moved_line n c.end-bytes.result) found) c.ended-lines.ensures.count
    ∙ ap (λ (n : ℕ). bad ++ map (moved_line old.reader.ended n) found) start
    ∙ ap (λ (js : List JudgedLine). bad ++ map (moved_line old.reader.ended old.reader.reader.start) js) c.bad.ensures)
