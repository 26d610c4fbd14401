use Rattle.std.proofs.Common.{◌≡◌, ℕ, List, [], ap, subst}
use Rattle.std.specs.Prelude.{IfSome}
use Rattle.jx_run.specs.declared.texts.settings.FrontMark.TheVariants.{Refused}
use Rattle.jx_run.specs.declared.texts.settings.Settings.{Settings}
use Rattle.jx_ndjson.specs.declared.judged_line.JudgedLine.{JudgedLine}
use Rattle.jx_ndjson.specs.WholeLines.{AreWhole, WholeLinesValue}
use Rattle.jx_ndjson.proofs.Whole.{whole_by}
use Rattle.jx_ndjson.proofs.part_lines.lines_of_part.Goals as goal

pub returns-then-branch : goal.returns-then-branch
returns-then-branch c =
    let settings : Settings = c.from.result in
    let mark : settings.mark ≡ Refused = ap (λ (s : Settings). s.mark) c.from.ensures in
    let depth : settings.depth ≡ c.args.depth = ap (λ (s : Settings). s.depth) c.from.ensures in
    subst (λ (d : ℕ). IfSome c.into_whole.result (λ (w : WholeLinesValue). (answers : List JudgedLine) × AreWhole d c.args.lines.now answers w)) depth
    (whole_by settings c.args.lines.now c.feed_few.new.self c.into_whole.result mark (c.in_ok-feed_few.ensures c.if-branch.true settings [] [] c.new-tally.ensures.taken)
    c.into_whole.ensures.whole)
