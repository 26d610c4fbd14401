use Rattle.jx_index.proofs.Feeding.{are_found}
use Rattle.jx_index.proofs.fed.answers_of.Goals as goal

pub returns : goal.returns
returns c = λ settings bytes trie ways judged met_is.
    let a = c.accepted_texts_stand_behind_fronts.ensures settings bytes judged in
    let law = c.index_behind_a_front.ensures in
    are_found settings bytes c.args.edges.now trie c.args.met.now a met_is (record { reads = c.grammar_of_tokens.ensures.reads; stays = c.grammar_of_tokens.ensures.stays }) c.args.pointers.now c.in_ok-found.found.items ways c.in_ok-found.ensures
    (λ i front k. law.index settings bytes a.count i front k) (λ i x. law.text settings bytes i x)
