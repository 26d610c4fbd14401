use Rattle.std.proofs.lemmas.Result.{IfOk-weaker}
use Rattle.jx_cmd_index.proofs.index_at.report_index_at.Goals as goal

pub returns-clause-ok : goal.returns-clause-ok
returns-clause-ok g c =
    let read = c.in_ok-read.ensures.ok in
    IfOk-weaker c.show_saved.result _ _
    (λ exit shown. record {
      text = read.0;
      output = shown.output;
      tells = shown.tells;
      whole = read.1;
      answer = shown.answer c.args.has_names c.args.settings.now c.args.chunk read.0 read.2;
      wrote = shown.wrote;
      says = shown.says;
    })
    c.show_saved.ensures.ok

pub returns-clause-beginning : goal.returns-clause-beginning
returns-clause-beginning g c = λ is.
    let read = c.in_ok-read.ensures.ok in
    let shown = c.show_saved.ensures.beginning is in
    record {
      text = read.0;
      output = shown.output;
      tells = shown.tells;
      exit = shown.exit;
      whole = read.1;
      answer = shown.answer c.args.has_names c.args.settings.now c.args.chunk read.0 read.2;
      wrote = shown.wrote;
    }
