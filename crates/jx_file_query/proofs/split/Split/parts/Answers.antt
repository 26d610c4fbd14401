use Rattle.std.proofs.Common.{◌≡◌, true, false, arith}
use Rattle.std.specs.Prelude.{◌==◌}
use Rattle.std.proofs.lemmas.Bool.Decides.{nat_tests}
use Rattle.jx_file_query.proofs.Ended.{found, not_open}
use Rattle.jx_file_query.proofs.split.Split.parts.Goals as goal

pub returns-then-held-eq0-clause-damaged : goal.returns-then-held-eq0-clause-damaged
returns-then-held-eq0-clause-damaged c = λ settings chunk text container come x spans.
    not_open
    (record {
      tokens = record { reads = c.grammar_of_tokens.ensures.reads; stays = c.grammar_of_tokens.ensures.stays };
      index = c.index_behind_a_front.ensures.index;
      text = c.index_behind_a_front.ensures.text;
      one_tree = c.unique_tree_by_settings.ensures.one_tree;
    })
    c.lex_of_two_parts.ensures.two settings chunk text container c.args.self (c.accepted_texts_stand_behind_fronts.ensures settings text come.known.indexed.accepted) come x spans c.in-Some.held c.in-Some.is
    (let e : (c.in-Some.held.sum.closed == 0) ≡ true = grind (arith, nat_tests, c.if-held-eq0.true) in e) c.requires.all

pub returns-clause-found : goal.returns-clause-found
returns-clause-found c = λ settings chunk text container come x spans.
    found
    (record {
      tokens = record { reads = c.grammar_of_tokens.ensures.reads; stays = c.grammar_of_tokens.ensures.stays };
      index = c.index_behind_a_front.ensures.index;
      text = c.index_behind_a_front.ensures.text;
      one_tree = c.unique_tree_by_settings.ensures.one_tree;
    })
    c.lex_of_two_parts.ensures.two settings chunk text container c.args.self (c.accepted_texts_stand_behind_fronts.ensures settings text come.known.indexed.accepted) come x spans c.in-Some.held c.in-Some.is
    (let e : (c.in-Some.held.sum.closed == 0) ≡ false = grind (arith, nat_tests, c.if-held-eq0.false) in e)
