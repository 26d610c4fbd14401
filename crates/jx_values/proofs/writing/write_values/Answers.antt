use Rattle.std.proofs.Common.{ℕ, List, ◌++◌, ap, subst}
use Rattle.std.specs.Prelude.{OnErr, flat_map}
use Rattle.jx_ends.specs.Ends.{AppendsBeginning}
use Rattle.jx_words.proofs.PutSteps.{put_in_part}
use Rattle.jx_values.specs.Values.{value_line}
use Rattle.jx_values.proofs.writing.write_values.Goals as goal

pub returns-clause-beginning : goal.returns-clause-beginning
returns-clause-beginning g c = λ is.
    let contents = g.W.Sink.contents in
    let old = contents c.args.writer.now in
    let mid = contents c.put_values.new.writer in
    let new = contents c.write_whole.new.writer in
    let waiting : List ℕ = c.put_values.new.out.items in
    let lines : List ℕ = flat_map (value_line c.args.form c.args.text.now) c.args.answers.now in
    let beginning : AppendsBeginning mid new c.deref.result.now =
    subst (λ r. OnErr r (AppendsBeginning mid new c.deref.result.now)) is c.write_whole.ensures.err in
    subst (λ (x : List ℕ). AppendsBeginning old new x) (ap (λ (x : List ℕ). x ++ lines) c.in_ok-out.ensures.items)
    (put_in_part old mid waiting (c.in_ok-out.out.items ++ lines) c.in_ok-put_values.ensures.ok new (subst (λ (x : List ℕ). AppendsBeginning mid new x) c.deref.ensures.value beginning))
