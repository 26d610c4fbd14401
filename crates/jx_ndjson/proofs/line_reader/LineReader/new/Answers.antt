use Rattle.std.proofs.Common.{[], refl, ◌∙◌}
use Rattle.jx_run.specs.Elements.{part}
use Rattle.jx_ndjson.proofs.Fronts.{at_start, first_settings}
use Rattle.jx_ndjson.proofs.line_reader.LineReader.new.Goals as goal

pub returns-clause-told : goal.returns-clause-told
returns-clause-told c =
    at_start c.args.settings.now _
    (record {
      ended = [];
      last = part 0 [];
      parts = refl;
      answers = tt;
      count = refl;
      goes_on =
          record {
            reads_by = c.new.ensures.settings ∙ first_settings c.args.settings.now;
            start = c.new.ensures.start;
            read = c.new.ensures.reads;
            blank = refl;
            opens = refl;
          };
    })
    c.is_ignored.ensures
