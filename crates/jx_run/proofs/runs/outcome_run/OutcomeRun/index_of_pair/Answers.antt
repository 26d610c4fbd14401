use Rattle.std.proofs.Common.{arith}
use Rattle.std.proofs.lemmas.Option.{slice_get_within}
use Rattle.jx_run.proofs.RunJoin.{made_behind, made_in_front}
use Rattle.jx_run.proofs.runs.outcome_run.OutcomeRun.index_of_pair.Goals as goal

pub returns-in-None-clause-made_at : goal.returns-in-None-clause-made_at
returns-in-None-clause-made_at c =
    made_in_front c.args.self.now c.args.right.now c.args.joins.now.structures.items c.args.pair c.in-None.is c.requires.there.left_is

pub overflow_add-result : goal.overflow_add-result
overflow_add-result c =
    let n = c.in_ok-number-in-Some.ensures in
    let low = slice_get_within c.number_of.new.self.pairs.items c.in_ok-number-in-Some.number c.args.pair n.number in
    let all = n.made.all in
    let few = n.few in
    let before = c.requires.few in
    let own = c.count.ensures.few in
    omega (arith, low, all, few, before, own)

pub returns-in_ok-number-in-Some-clause-made_at : goal.returns-in_ok-number-in-Some-clause-made_at
returns-in_ok-number-in-Some-clause-made_at c =
    let n = c.in_ok-number-in-Some.ensures in
    made_behind c.args.self.now c.args.right.now c.number_of.new.self.pairs.items c.number_of.new.self.structures.items c.args.pair c.in_ok-number-in-Some.number c.count.result c.count.ensures.count n.made n.number
