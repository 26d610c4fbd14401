use Rattle.std.proofs.Common.{◌≡◌, ℕ, ◌+◌, ◌^◌, ◌<◌, List, arith, length, map, take, sym, subst}
use Rattle.std.proofs.lemmas.List.{length-take-le}
use Rattle.jx_ndjson.specs.declared.judged_line.JudgedLine.{JudgedLine}
use Rattle.jx_ndjson.specs.WholeLines.{moved_line}
use Rattle.jx_ndjson_report.specs.declared.task.LinesTask.{LinesTask}
use Rattle.jx_ndjson_report.specs.inside.LineTeller.{HasTakenTexts, LineTellerValue}
use Rattle.jx_ndjson_report.proofs.PassedTexts.{whole_pass}
use Rattle.jx_ndjson_report.proofs.Takes.{no_texts_taken}
use Rattle.jx_ndjson_report.proofs.line_teller.LineTeller.take_texts.Goals as goal

pub returns-then-not-is_between-clause-taken : goal.returns-then-not-is_between-clause-taken
returns-then-not-is_between-clause-taken c = λ bytes given h. no_texts_taken c.args.task.now bytes given c.args.self.now.lines.reader.start c.args.self.now h

pub returns-clause-taken : goal.returns-clause-taken
returns-clause-taken c = λ bytes given h.
    let task : LinesTask = c.args.task.now in
    let slice : List ℕ = c.args.slice.now in
    let old : LineTellerValue = c.args.self.now in
    let whole = c.in_ok-texts.ensures.whole in
    let more : List ℕ = take c.in_ok-texts.texts.len slice in
    let moved : List JudgedLine = map (moved_line old.lines.ended old.lines.reader.start) whole.0 in
    let fits = c.requires.fits in
    let within = c.in_ok-texts.ensures.within in
    let long : length more ≡ c.in_ok-texts.texts.len = length-take-le c.in_ok-texts.texts.len slice within in
    let low : old.lines.reader.start + length more < 2 ^ 64 = omega (arith, fits, within, long) in
    subst (λ (n : ℕ). HasTakenTexts task bytes given (take n slice) h.answers old.lines.reader.start c.take_whole.new.self) (sym c.len.ensures)
    (record {
      texts = moved;
      taken = c.in_ok-take_whole.ensures.taken bytes given more whole.0 h whole.1;
      pass = whole_pass task.settings.depth old.lines.reader.start old.lines.ended more whole.0 c.in_ok-texts.texts whole.1 c.in_ok-texts.ensures.texts low;
    })
