use Rattle.std.proofs.Common.{List, ℕ, [], ◌++◌, append-nil, ap, subst, sym, ◌∙◌}
use Rattle.std.proofs.KnownBytes.{Appends-nil, Appends-trans}
use Rattle.std.proofs.lemmas.Result.{IfOk-weaker, on_err_weaker}
use Rattle.std.specs.Io.KnownBytes.{Appends}
use Rattle.jx_report.specs.RowWords.{row_lines}
use Rattle.jx_report.specs.inside.Pages.{AreWritten, lines_between}
use Rattle.jx_report.proofs.PageSteps.{behind_written, none_between}
use Rattle.jx_words.specs.inside.Room.{IsPut}
use Rattle.jx_report.proofs.writing.write_by_workers.Goals as goal

pub returns-in_ok-write_whole-in-Ok-clause-ok : goal.returns-in_ok-write_whole-in-Ok-clause-ok
returns-in_ok-write_whole-in-Ok-clause-ok g c =
    let contents = g.W.Sink.contents in
    let old = contents c.args.writer.now in
    let mid = contents c.write_whole.new.writer in
    let new = contents c.write_in_rounds.new.writer in
    let rows = c.args.rows.now in
    let out : List ℕ = c.args.out.now.items in
    let empty : List ℕ = c.clear.new.self.items in
    let wrote : Appends old mid out = subst (Appends old mid) c.deref.ensures.value c.in_ok-write_whole-in-Ok.ensures.ok in
    IfOk-weaker c.write_in_rounds.result (AreWritten rows mid new 0) (λ (next : ℕ). IsPut old new empty (out ++ lines_between rows 0 next))
    (λ next written.
    let lines : List ℕ = out ++ lines_between rows 0 next in
    record {
      front = lines;
      wrote = Appends-trans old mid new out (lines_between rows 0 next) wrote written.wrote;
      whole = sym {A = List ℕ} (append-nil lines) ∙ ap (λ (xs : List ℕ). lines ++ xs) (sym c.clear.ensures.items);
    })
    c.write_in_rounds.ensures.ok

pub returns-in_ok-write_whole-in-Ok-clause-err : goal.returns-in_ok-write_whole-in-Ok-clause-err
returns-in_ok-write_whole-in-Ok-clause-err g c =
    let contents = g.W.Sink.contents in
    let old = contents c.args.writer.now in
    let mid = contents c.write_whole.new.writer in
    let new = contents c.write_in_rounds.new.writer in
    let lines : List ℕ = row_lines 0 c.args.rows.now in
    let out : List ℕ = c.args.out.now.items in
    let wrote : Appends old mid out = subst (Appends old mid) c.deref.ensures.value c.in_ok-write_whole-in-Ok.ensures.ok in
    on_err_weaker c.write_in_rounds.result (behind_written old mid new out lines wrote) c.write_in_rounds.ensures.err

pub returns-in_default-clause-ok : goal.returns-in_default-clause-ok
returns-in_default-clause-ok g c =
    let out : List ℕ = c.args.out.now.items in
    record {
      front = [];
      wrote = Appends-nil (g.W.Sink.contents c.args.writer.now);
      whole = ap (λ (xs : List ℕ). out ++ xs) (none_between c.args.rows.now 0) ∙ append-nil out;
    }
