use Rattle.std.specs.Prelude.{Result}
use Rattle.std.proofs.Common.{List, ℕ, [], refl, subst}
use Rattle.std.proofs.lemmas.Result.{err_from_is_err_and}
use Rattle.std.proofs.KnownBytes.{Appends-nil}
use Rattle.std.specs.Io.KnownBytes.{Appends}
use Rattle.jx_run.specs.declared.texts.verdict.Refusal.{Refusal}
use Rattle.jx_run.specs.declared.texts.verdict.Verdict.TheVariants.{Refused}
use Rattle.jx_file_index.specs.declared.saved_text.SavedText.{SavedText}
use Rattle.jx_file_index.specs.TextSpelling.{spelt_saved}
use Rattle.jx_ends.specs.declared.exit.Exit.TheVariants.{Good}
use Rattle.jx_ends.specs.declared.report_fault.ReportFault.TheVariants as fault
use Rattle.jx_ends.proofs.Faults.{same_fault}
use Rattle.jx_cmd_index.specs.inside.Saving.{ComesToSaved}
use Rattle.jx_cmd_index.proofs.IndexSavings.{gives_index}
use Rattle.jx_cmd_index.proofs.saved_showing.show_saved.Goals as goal

pub returns-in_err-write_saved-in-Ok-clause-beginning :
    goal.returns-in_err-write_saved-in-Ok-clause-beginning
returns-in_err-write_saved-in-Ok-clause-beginning g c = λ is.
    let p = err_from_is_err_and c.from_residual.result c.from_residual.ensures.1 in
    record {
      output = spelt_saved c.in-Ok.saved;
      tells = [];
      exit = Good;
      answer = λ has_names settings chunk input comes.
          gives_index has_names settings chunk input c.in-Ok.saved (subst (λ (r : Result SavedText Refusal). ComesToSaved has_names settings chunk input r) c.in-Ok.is comes);
      wrote = c.write_saved.ensures.beginning
          (same_fault c.write_saved.result c.from_residual.result c.in_err-write_saved-in-Ok.field-0.0 p.0 fault.Write c.in_err-write_saved-in-Ok.was p.1 p.2 is);
    }

pub returns-in_ok-write_saved-in-Ok-clause-ok : goal.returns-in_ok-write_saved-in-Ok-clause-ok
returns-in_ok-write_saved-in-Ok-clause-ok g c = record {
  output = spelt_saved c.in-Ok.saved;
  tells = [];
  answer = λ has_names settings chunk input comes.
      gives_index has_names settings chunk input c.in-Ok.saved (subst (λ (r : Result SavedText Refusal). ComesToSaved has_names settings chunk input r) c.in-Ok.is comes);
  wrote = c.in_ok-write_saved-in-Ok.ensures.ok;
  says = λ lost. Appends-nil (g.E.Sink.contents c.args.errors.now);
}

pub returns-in_ok-told-in-Err-clause-ok : goal.returns-in_ok-told-in-Err-clause-ok
returns-in_ok-told-in-Err-clause-ok g c = record {
  output = [];
  tells = c.in_ok-told-in-Err.told.items;
  answer = λ has_names settings chunk input comes. record {
    verdict = Refused c.in-Err.refusal;
    is_verdict = subst (λ (r : Result SavedText Refusal). ComesToSaved has_names settings chunk input r) c.in-Err.is comes;
    gives = record { written = refl; told = c.in_ok-told-in-Err.ensures; ends = refl };
  };
  wrote = Appends-nil (g.W.Sink.contents c.args.writer.now);
  says = λ lost. subst (λ (l : List ℕ). Appends (g.E.Sink.contents c.args.errors.now) (g.E.Sink.contents c.tell.new.errors) l) c.deref.ensures.value (c.tell.ensures lost);
}
