use Rattle.std.proofs.Common.{refl}
use Rattle.std.proofs.lemmas.Result.{on_ok_weaker}
use Rattle.jx_file_lines.specs.Spelling.{spelt_lines}
use Rattle.jx_cmd_lines.proofs.index_reporting.report_line_index.Goals as goal

pub returns-clause-ok : goal.returns-clause-ok
returns-clause-ok g c =
    let read = c.in_ok-index.ensures.ok in
    on_ok_weaker c.write_index.result
    (λ wrote. record {
      text = read.text;
      output = spelt_lines c.in_ok-index.index;
      read = read.read;
      saved = record { index = c.in_ok-index.index; is_index = read.is_index; savable = read.savable; spelt = refl };
      wrote = wrote;
    })
    c.write_index.ensures.ok

pub returns-clause-beginning : goal.returns-clause-beginning
returns-clause-beginning g c = λ is.
    let read = c.in_ok-index.ensures.ok in
    record {
      text = read.text;
      output = spelt_lines c.in_ok-index.index;
      read = read.read;
      saved = record { index = c.in_ok-index.index; is_index = read.is_index; savable = read.savable; spelt = refl };
      wrote = c.write_index.ensures.beginning is;
    }
