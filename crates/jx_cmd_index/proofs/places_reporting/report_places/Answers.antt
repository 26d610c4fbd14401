use Rattle.std.specs.Prelude.{map, string_bytes}
use Rattle.std.proofs.Common.{◌≡◌, ℕ, List, ap, subst, ◌∙◌}
use Rattle.std.proofs.lemmas.Result.{err_from_is_err_and}
use Rattle.std.specs.Io.KnownBytes.{Appends}
use Rattle.jx_ends.specs.Ends.{AppendsBeginning}
use Rattle.jx_ends.specs.declared.exit.Exit.TheVariants.{Good}
use Rattle.jx_words.specs.inside.Lines.{exit_past_lines, pointer_lines}
use Rattle.jx_cmd_index.specs.declared.look_fault.LookFault.TheVariants as fault
use Rattle.jx_cmd_index.proofs.PlaceReports.{places, same_fault}
use Rattle.jx_cmd_index.proofs.places_reporting.report_places.Goals as goal

pub returns-in_err-write_lines-clause-beginning : goal.returns-in_err-write_lines-clause-beginning
returns-in_err-write_lines-clause-beginning g c = λ is.
    let saved = g.S.Source.remaining c.args.saved.now in
    let content = g.F.ReadAt.content c.args.file.now in
    let answers = c.in_ok-answers.field-0.answers in
    let p = err_from_is_err_and c.from_residual-in_err-write_lines.result c.from_residual-in_err-write_lines.ensures.1 in
    let all : c.deref-2.result.now ≡ pointer_lines answers.items = c.deref-2.ensures.value ∙ c.in_ok-lines.ensures.bytes ∙ ap (λ x. pointer_lines x) c.deref.ensures.value in
    record {
      output = pointer_lines answers.items;
      exit = c.in_ok-lines.lines.exit;
      are_places = places (map string_bytes c.args.pointers.now) saved content answers c.in_ok-lines.lines.exit c.in_ok-answers.ensures.answers
          (c.in_ok-lines.ensures.exit ∙ ap (λ x. exit_past_lines Good x) c.deref.ensures.value);
      wrote = subst (λ (l : List ℕ). AppendsBeginning (g.W.Sink.contents c.args.writer.now) (g.W.Sink.contents c.write_lines.new.writer) l) all
          (c.write_lines.ensures.beginning
          (same_fault c.write_lines.result c.from_residual-in_err-write_lines.result c.in_err-write_lines.field-0.0 p.0 fault.Write c.in_err-write_lines.was p.1 p.2 is));
    }

pub returns-clause-ok : goal.returns-clause-ok
returns-clause-ok g c =
    let saved = g.S.Source.remaining c.args.saved.now in
    let content = g.F.ReadAt.content c.args.file.now in
    let answers = c.in_ok-answers.field-0.answers in
    let all : c.deref-2.result.now ≡ pointer_lines answers.items = c.deref-2.ensures.value ∙ c.in_ok-lines.ensures.bytes ∙ ap (λ x. pointer_lines x) c.deref.ensures.value in
    record {
      output = pointer_lines answers.items;
      are_places = places (map string_bytes c.args.pointers.now) saved content answers c.in_ok-lines.lines.exit c.in_ok-answers.ensures.answers
          (c.in_ok-lines.ensures.exit ∙ ap (λ x. exit_past_lines Good x) c.deref.ensures.value);
      wrote = subst (λ (l : List ℕ). Appends (g.W.Sink.contents c.args.writer.now) (g.W.Sink.contents c.write_lines.new.writer) l) all c.in_ok-write_lines.ensures.ok;
    }
