use Rattle.std.proofs.Common.{◌≡◌, [], sym, subst}
use Rattle.jx_run.specs.declared.texts.settings.Settings.{Settings}
use Rattle.jx_ndjson.specs.Tally.{HasTaken}
use Rattle.jx_parallel_report.proofs.Lines.{none_wait}
use Rattle.jx_parallel_report.proofs.lines_reader.LinesReader.new.Goals as goal

pub returns-clause-read : goal.returns-clause-read
returns-clause-read g c = record {
  depth = subst (λ (s : Settings). c.args.rule.now.depth ≡ s.depth) (sym c.requires.settings) c.requires.depth;
  given = [];
  taken = subst (λ (s : Settings). HasTaken s [] [] c.new.result) (sym c.requires.settings) c.new.ensures.taken;
  written_is = sym c.requires.told;
}

pub returns-clause-none_wait : goal.returns-clause-none_wait
returns-clause-none_wait g c = none_wait c.ended_lines_of_a_reader.ensures.told c.args.settings.now c.new.result c.new.ensures.taken
