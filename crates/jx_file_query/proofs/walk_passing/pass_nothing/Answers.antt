use Rattle.std.proofs.Common.{length, sym, ◌∙◌}
use Rattle.jx_file_query.proofs.Pairings.{lex_paired, nothing_paired}
use Rattle.jx_file_query.proofs.walk_passing.pass_nothing.Goals as goal

pub returns-clause-turn : goal.returns-clause-turn
returns-clause-turn c = λ limit bytes piece marks p agrees. agrees ∙ nothing_paired (lex_paired c.args.here.now.state c.args.behind.now.state (length bytes) piece p.exit) (sym p.begins ∙ c.if-here.false) (sym p.ends ∙ c.if-here-2.false)
