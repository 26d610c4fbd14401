use Rattle.std.proofs.Common.{◌≡◌, ℕ, List, [], ap, subst}
use Rattle.std.specs.Prelude.{slice_range}
use Rattle.jx_run.specs.declared.texts.settings.FrontMark.TheVariants.{Refused}
use Rattle.jx_run.specs.declared.texts.settings.Settings.{Settings}
use Rattle.jx_ndjson.specs.LinesRun.{HoldLines}
use Rattle.jx_ndjson.proofs.Whole.{held_by}
use Rattle.jx_ndjson.proofs.lines_run.LinesRunSummary.of.Goals as goal

pub returns-clause-of : goal.returns-clause-of
returns-clause-of c =
    let settings : Settings = c.from.result in
    let mark : settings.mark ≡ Refused = ap (λ (s : Settings). s.mark) c.from.ensures in
    let depth : settings.depth ≡ c.args.limit = ap (λ (s : Settings). s.depth) c.from.ensures in
    let bytes : List ℕ = slice_range c.args.text.now c.args.start c.args.end in
    subst (λ (d : ℕ). HoldLines d bytes c.into_whole.result) depth
    (held_by settings bytes c.feed.new.self c.into_whole.result mark (c.in_ok-feed.ensures.taken settings [] [] c.new-tally.ensures.taken) c.into_whole.ensures.whole)
