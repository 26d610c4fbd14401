use Rattle.jx_file_query.proofs.Led.{past_held}
use Rattle.jx_file_query.proofs.walk_reaching.over_some.Goals as goal

pub returns-in-Some-clause-held : goal.returns-in-Some-clause-held
returns-in-Some-clause-held c = λ settings chunk text known names was.
    c.in-Some.ensures.leads settings chunk text known was c.of-held.result c.of-held.ensures.finding c.of-held.ensures.next c.of-held.ensures.begun

pub returns-clause-held : goal.returns-clause-held
returns-clause-held c = λ settings chunk text known names was.
    let past = c.in-Some-by_names.past in
    past_held c.args.index.now c.args.names.now c.args.edges.now c.args.held c.args.at past.among past.entry past.end c.in-Some-by_names.ensures.leads settings chunk text known names was c.of-held-2.result c.of-held-2.ensures
