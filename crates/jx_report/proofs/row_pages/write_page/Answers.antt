use Rattle.std.proofs.Common.{◌≡◌, ◌++◌, List, ℕ, ap, rules, subst, ◌∙◌}
use Rattle.jx_ends.specs.Ends.{AppendsBeginning}
use Rattle.jx_words.proofs.PutSteps.{beginning_of_more}
use Rattle.jx_report.specs.inside.Pages.{lines_between, lines_from}
use Rattle.jx_report.proofs.PageSteps.{nothing_written, then_the_rest}
use Rattle.jx_report.proofs.row_pages.write_page.Goals as goal

pub returns-then-page-next-clause-ok : goal.returns-then-page-next-clause-ok
returns-then-page-next-clause-ok g c = nothing_written c.args.rows.now (g.W.Sink.contents c.args.writer.now) c.args.next c.requires.within

pub returns-in_err-write_whole-clause-err : goal.returns-in_err-write_whole-clause-err
returns-in_err-write_whole-clause-err g c =
    let contents = g.W.Sink.contents in
    let rows = c.args.rows.now in
    let page = c.args.page.now in
    let bytes : c.deref.result.now ≡ lines_between rows page.first page.next = c.deref.ensures.value ∙ c.requires.page.lines in
    let whole : c.deref.result.now ++ lines_from rows page.next ≡ lines_from rows page.first =
    ap (λ (xs : List ℕ). xs ++ lines_from rows page.next) bytes ∙ then_the_rest rows page.first page.next c.requires.page.ordered c.requires.page.within in
    let there : page.first ≡ c.args.next = cc in
    let beginning : AppendsBeginning (contents c.args.writer.now) (contents c.write_whole.new.writer) (lines_from rows c.args.next) =
    subst (AppendsBeginning (contents c.args.writer.now) (contents c.write_whole.new.writer)) (whole ∙ ap (lines_from rows) there)
    (beginning_of_more (contents c.args.writer.now) (contents c.write_whole.new.writer) c.deref.result.now (lines_from rows page.next) c.in_err-write_whole.ensures.err) in
    search (rules, beginning)
