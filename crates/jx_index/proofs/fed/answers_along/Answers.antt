use Rattle.std.proofs.lemmas.Result.{on_ok_weaker}
use Rattle.jx_index.proofs.Feeding.{are_found}
use Rattle.jx_index.proofs.fed.answers_along.Goals as goal

pub returns : goal.returns
returns c =
    on_ok_weaker c.read_ways.result
    (λ reads settings bytes edges trie has_ways ways judged met_is.
    let a = c.accepted_texts_stand_behind_fronts.ensures settings bytes judged in
    let law = c.index_behind_a_front.ensures in
    are_found settings bytes edges trie c.args.met.now a met_is (record { reads = c.grammar_of_tokens.ensures.reads; stays = c.grammar_of_tokens.ensures.stays }) c.args.pointers.now c.read_ways.new.found.items has_ways (reads edges ways)
    (λ i front k. law.index settings bytes a.count i front k) (λ i x. law.text settings bytes i x))
    c.read_ways.ensures
