use Rattle.std.proofs.Common.{Option, Some, subst, sym, ◌∙◌}
use Rattle.std.specs.Prelude.{SomeIff}
use Rattle.jx_index.proofs.InOrders.{none_of}
use Rattle.jx_file_index.specs.declared.sum.Sum.{Sum}
use Rattle.jx_file_index.specs.Sums.{Fits, noted}
use Rattle.jx_file_build.specs.inside.OpenKinds.{kinds}
use Rattle.jx_file_build.proofs.Gathering.{has_plain, has_token}
use Rattle.jx_file_build.proofs.on_chunk.OnChunkTokenSink.begin.Goals as goal

pub returns-then-has_end-clause-seen : goal.returns-then-has_end-clause-seen
returns-then-has_end-clause-seen g c = λ marks ends h.
    let k = c.args.self.now in
    let next : Sum = noted c.args.mark.kind k.sum in
    let is : SomeIff (Some c.in-Some.sum) (Fits next) next = subst (λ (o : Option Sum). SomeIff o (Fits next) next) c.in-Some.is c.step.ensures in
    has_token g.B.Before.start marks ends k.chunk.now k.base (kinds k.kinds) k.sum k.begun k.name.items k.hashes.items h c.args.mark c.in_ok-at.at (kinds c.push.new.self) c.in-Some.sum
    c.in_ok-at.ensures (none_of k.begun c.requires) c.in_ok-push.ensures is.1 (sym c.has_end.ensures ∙ c.if-has_end.true)

pub returns-clause-seen : goal.returns-clause-seen
returns-clause-seen g c = λ marks ends h.
    let k = c.args.self.now in
    let next : Sum = noted c.args.mark.kind k.sum in
    let is : SomeIff (Some c.in-Some.sum) (Fits next) next = subst (λ (o : Option Sum). SomeIff o (Fits next) next) c.in-Some.is c.step.ensures in
    has_plain g.B.Before.start marks ends k.chunk.now k.base (kinds k.kinds) k.sum k.begun k.name.items k.hashes.items h c.args.mark c.in_ok-at.at (kinds c.push.new.self) c.in-Some.sum
    c.in_ok-at.ensures (none_of k.begun c.requires) c.in_ok-push.ensures is.1
    c.keep_hashes.new.hashes.items (sym c.has_end.ensures ∙ c.if-has_end.false) c.keep_hashes.ensures
