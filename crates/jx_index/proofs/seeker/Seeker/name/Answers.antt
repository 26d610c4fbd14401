use Rattle.std.proofs.Common.{sym, ◌∙◌}
use Rattle.jx_index.specs.inside.Found.{finding}
use Rattle.jx_index.proofs.Feeding.{name_told, none_skipped}
use Rattle.jx_index.proofs.seeker.Seeker.name.Goals as goal

pub returns-in-Some-clause-noted : goal.returns-in-Some-clause-noted
returns-in-Some-clause-noted c = λ trie text at end is.
    name_told text c.args.name.now c.args.edges.now (finding c.args.self.now.state) c.in-Some.node at end c.member.result (none_skipped (finding c.args.self.now.state) c.requires) (sym c.naming.ensures ∙ c.in-Some.is) is (c.member.ensures trie)
