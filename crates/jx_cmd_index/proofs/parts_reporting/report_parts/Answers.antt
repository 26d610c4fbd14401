use Rattle.std.specs.Prelude.{Ok, Err}
use Rattle.std.proofs.Common.{◌≡◌, ℕ, List, [], ap, subst, ◌∙◌}
use Rattle.std.proofs.lemmas.Result.{err_from_is_err_and}
use Rattle.std.proofs.KnownBytes.{Appends-nil}
use Rattle.std.specs.Io.KnownBytes.{Appends}
use Rattle.jx_ends.specs.Ends.{AppendsBeginning}
use Rattle.jx_ends.specs.declared.exit.Exit.TheVariants.{Good}
use Rattle.jx_file_query.specs.declared.part.ContainerPart.{ContainerPart}
use Rattle.jx_cmd_index.specs.declared.look_fault.LookFault.TheVariants as fault
use Rattle.jx_cmd_index.specs.PartReports.{part_lines, told_words}
use Rattle.jx_cmd_index.specs.PlaceReports.{FailsFor}
use Rattle.jx_cmd_index.proofs.PlaceReports.{fails, handed, same_fault}
use Rattle.jx_cmd_index.proofs.Splits.{are_parts}
use Rattle.jx_cmd_index.proofs.parts_reporting.report_parts.Goals as goal

pub returns-in_err-parts-clause-fault : goal.returns-in_err-parts-clause-fault
returns-in_err-parts-clause-fault g c =
    let saved = g.S.Source.remaining c.args.saved.now in
    let content = g.F.ReadAt.content c.args.file.now in
    let p = err_from_is_err_and c.from_residual-in_err-parts.result c.from_residual-in_err-parts.ensures.1 in
    handed (FailsFor saved content) c.from_residual-in_err-parts.result c.in_err-parts.field-0.0 p.0 p.1 p.2
    (fails saved content c.in_ok-read.read c.in_err-parts.field-0.0 c.in_ok-read.ensures.reads c.in_err-parts.ensures.fault c.in_err-parts.ensures.changed)

pub returns-in_err-write_lines-in-Ok-clause-beginning : goal.returns-in_err-write_lines-in-Ok-clause-beginning
returns-in_err-write_lines-in-Ok-clause-beginning g c = λ is.
    let saved = g.S.Source.remaining c.args.saved.now in
    let content = g.F.ReadAt.content c.args.file.now in
    let parts = c.in-Ok.parts in
    let p = err_from_is_err_and c.from_residual-in_err-write_lines-in-Ok.result c.from_residual-in_err-write_lines-in-Ok.ensures.1 in
    let all : c.deref-in-Ok.result.now ≡ part_lines parts.items = c.deref-in-Ok.ensures.value ∙ c.in_ok-lines-in-Ok.ensures ∙ ap (λ (ps : List ContainerPart). part_lines ps) c.deref.ensures.value in
    record {
      output = part_lines parts.items;
      tells = [];
      exit = Good;
      are_parts = are_parts c.args.parts c.args.pointer.now saved content c.in_ok-read.read c.in_ok-parts.field-0 (Ok parts) c.in_ok-read.ensures.reads c.in_ok-parts.ensures.split c.in-Ok.is;
      wrote = subst (λ (l : List ℕ). AppendsBeginning (g.W.Sink.contents c.args.writer.now) (g.W.Sink.contents c.write_lines.new.writer) l) all
          (c.write_lines.ensures.beginning
          (same_fault c.write_lines.result c.from_residual-in_err-write_lines-in-Ok.result c.in_err-write_lines-in-Ok.field-0.0 p.0 fault.Write c.in_err-write_lines-in-Ok.was p.1 p.2 is));
    }

pub returns-in-Ok-clause-ok : goal.returns-in-Ok-clause-ok
returns-in-Ok-clause-ok g c =
    let saved = g.S.Source.remaining c.args.saved.now in
    let content = g.F.ReadAt.content c.args.file.now in
    let parts = c.in-Ok.parts in
    let all : c.deref-in-Ok.result.now ≡ part_lines parts.items = c.deref-in-Ok.ensures.value ∙ c.in_ok-lines-in-Ok.ensures ∙ ap (λ (ps : List ContainerPart). part_lines ps) c.deref.ensures.value in
    record {
      output = part_lines parts.items;
      tells = [];
      are_parts = are_parts c.args.parts c.args.pointer.now saved content c.in_ok-read.read c.in_ok-parts.field-0 (Ok parts) c.in_ok-read.ensures.reads c.in_ok-parts.ensures.split c.in-Ok.is;
      wrote = subst (λ (l : List ℕ). Appends (g.W.Sink.contents c.args.writer.now) (g.W.Sink.contents c.write_lines.new.writer) l) all c.in_ok-write_lines-in-Ok.ensures.ok;
      says = λ lost. Appends-nil (g.E.Sink.contents c.args.errors.now);
    }

pub returns-clause-ok : goal.returns-clause-ok
returns-clause-ok g c =
    let saved = g.S.Source.remaining c.args.saved.now in
    let content = g.F.ReadAt.content c.args.file.now in
    let answer = c.in-Err.answer in
    let all : c.deref-in-Err.result.now ≡ told_words c.args.pointer.now answer = c.deref-in-Err.ensures.value ∙ c.in_ok-told-in-Err.ensures in
    record {
      output = [];
      tells = told_words c.args.pointer.now answer;
      are_parts = are_parts c.args.parts c.args.pointer.now saved content c.in_ok-read.read c.in_ok-parts.field-0 (Err answer) c.in_ok-read.ensures.reads c.in_ok-parts.ensures.split c.in-Err.is;
      wrote = Appends-nil (g.W.Sink.contents c.args.writer.now);
      says = λ lost. subst (λ (l : List ℕ). Appends (g.E.Sink.contents c.args.errors.now) (g.E.Sink.contents c.tell.new.errors) l) all (c.tell.ensures lost);
    }
