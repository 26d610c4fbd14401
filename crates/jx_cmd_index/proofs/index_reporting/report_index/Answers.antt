use Rattle.std.proofs.lemmas.Result.{IfOk-weaker}
use Rattle.jx_cmd_index.proofs.index_reporting.report_index.Goals as goal

pub returns-clause-ok : goal.returns-clause-ok
returns-clause-ok g c =
    let read = c.in_ok-read.ensures.ok in
    IfOk-weaker c.show_saved.result _ _
    (λ exit shown. record {
      text = read.text;
      output = shown.output;
      tells = shown.tells;
      read = read.read;
      answer = shown.answer c.args.has_names c.args.settings.now c.args.chunk read.text read.comes;
      wrote = shown.wrote;
      says = shown.says;
    })
    c.show_saved.ensures.ok

pub returns-clause-beginning : goal.returns-clause-beginning
returns-clause-beginning g c = λ is.
    let read = c.in_ok-read.ensures.ok in
    let shown = c.show_saved.ensures.beginning is in
    record {
      text = read.text;
      output = shown.output;
      tells = shown.tells;
      exit = shown.exit;
      read = read.read;
      answer = shown.answer c.args.has_names c.args.settings.now c.args.chunk read.text read.comes;
      wrote = shown.wrote;
    }
