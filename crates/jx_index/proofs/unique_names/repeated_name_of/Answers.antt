use Rattle.std.proofs.Common.{ℕ, List, [], sym, subst, arith}
use Rattle.std.specs.Prelude.{slice_range}
use Rattle.jx_lex.specs.Lex.{lex}
use Rattle.jx_lex.specs.declared.alphabet.state.LexState.TheVariants as state
use Rattle.jx_index.specs.Repeats.{IsLeast, IsRepeat}
use Rattle.jx_index.specs.Rows.{rows}
use Rattle.jx_index.specs.inside.Building.{built_of}
use Rattle.jx_index.specs.inside.OpenNames.{held, IsHeldOf}
use Rattle.jx_index.proofs.NamesBelow.{first_of_all}
use Rattle.jx_index.proofs.OnePass.{all_low, is_built}
use Rattle.jx_index.proofs.unique_names.repeated_name_of.Goals as goal

pub returns-in_ok-all-in-Accepted-clause-name : goal.returns-in_ok-all-in-Accepted-clause-name
returns-in_ok-all-in-Accepted-clause-name g c = λ limit tree t.
    let text = c.args.text.now in
    let span = c.args.span in
    let all = c.in_ok-all-in-Accepted in
    let lexed = lex state.Gap span.start (slice_range text span.start span.end) in
    let b = built_of span.end lexed.marks lexed.ends in
    let built = is_built text span c.requires.ordered c.requires.within (record { reads = c.grammar_of_tokens.ensures.reads; stays = c.grammar_of_tokens.ensures.stays }) limit tree t in
    let x = all.ensures lexed.marks lexed.ends (all_low text span c.requires.ordered c.requires.within (omega arith)) (c.in_ok-told.ensures.seen c.in-Accepted.is [] c.new-sink.ensures.seen) in
    subst (IsLeast (IsRepeat text (rows tree))) (sym c.first.ensures)
    (first_of_all text span.start span.end limit tree t b (held all.all.names) (subst (λ (bytes : List ℕ). IsHeldOf bytes b (held all.all.names)) (sym c.requires.source) x) built.none_open built.rows_are)
