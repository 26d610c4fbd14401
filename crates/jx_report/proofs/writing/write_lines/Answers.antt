use Rattle.std.proofs.Common.{◌≡◌, ℕ, List, ◌++◌, ◌∙◌, ap, append_assoc, subst, sym}
use Rattle.std.specs.Prelude.{OnErr, codes}
use Rattle.jx_index.specs.declared.row.Row.{Row}
use Rattle.jx_report.specs.declared.reply.Reply.{Reply}
use Rattle.jx_ends.specs.Ends.{AppendsBeginning}
use Rattle.jx_report.specs.inside.Replies.{reply_output}
use Rattle.jx_report.specs.RowWords.{row_lines}
use Rattle.jx_words.specs.Words.{line}
use Rattle.jx_report.proofs.writing.write_lines.Goals as goal

pub returns-in-Rows-clause-err : goal.returns-in-Rows-clause-err
returns-in-Rows-clause-err g c =
    let contents = g.W.Sink.contents in
    let out : List ℕ = c.args.out.now.items in
    let rows : List Row = c.deref.result.now in
    let whole : c.push_bytes.new.out.items ++ row_lines 0 rows ≡ out ++ reply_output c.args.reply.now =
    ap (λ (x : List ℕ). x ++ row_lines 0 rows) c.push_bytes.ensures.words
    ∙ append_assoc out (line (codes "accepted")) (row_lines 0 rows)
    ∙ ap (λ (rs : List Row). out ++ (line (codes "accepted") ++ row_lines 0 rs)) c.deref.ensures.value
    ∙ ap (λ (r : Reply). out ++ reply_output r) (sym c.in-Rows.is) in
    subst (λ (x : List ℕ). OnErr c.write_rows.result (AppendsBeginning (contents c.args.writer.now) (contents c.write_rows.new.writer) x)) whole c.write_rows.ensures.err
