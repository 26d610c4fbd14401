use Rattle.std.proofs.Common.{ℕ, List, ◌++◌, ap, subst}
use Rattle.std.specs.Prelude.{OnErr}
use Rattle.jx_ends.specs.Ends.{AppendsBeginning}
use Rattle.jx_report.specs.inside.Replies.{reply_output}
use Rattle.jx_words.proofs.PutSteps.{put_in_part}
use Rattle.jx_report.proofs.writing.write_reply.Goals as goal

pub returns-clause-beginning : goal.returns-clause-beginning
returns-clause-beginning g c = λ is.
    let contents = g.W.Sink.contents in
    let old = contents c.args.writer.now in
    let mid = contents c.write_lines.new.writer in
    let new = contents c.write_whole.new.writer in
    let waiting : List ℕ = c.write_lines.new.out.items in
    let bytes : List ℕ = c.in_ok-out.out.items ++ reply_output c.args.reply.now in
    let beginning : AppendsBeginning mid new c.deref.result.now =
    subst (λ r. OnErr r (AppendsBeginning mid new c.deref.result.now)) is c.write_whole.ensures.err in
    subst (λ (x : List ℕ). AppendsBeginning old new x) (ap (λ (x : List ℕ). x ++ reply_output c.args.reply.now) c.in_ok-out.ensures.items)
    (put_in_part old mid waiting bytes c.in_ok-write_lines.ensures.ok new (subst (λ (x : List ℕ). AppendsBeginning mid new x) c.deref.ensures.value beginning))
