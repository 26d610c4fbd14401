use Rattle.std.proofs.Common.{[], ap, ◌∙◌}
use Rattle.std.specs.Prelude.{is_some, slice_range}
use Rattle.jx_lex.specs.declared.alphabet.state.LexState.TheVariants.{Gap}
use Rattle.jx_lex.specs.Lex.{lex}
use Rattle.jx_find.proofs.texts.seek_within.Goals as goal

pub read_into-requires-clause-turn : goal.read_into-requires-clause-turn
read_into-requires-clause-turn g c = ap is_some (c.new-sink.ensures.begun ∙ c.requires.begun)

pub returns-in_ok-next-in-Accepted-clause-held : goal.returns-in_ok-next-in-Accepted-clause-held
returns-in_ok-next-in-Accepted-clause-held g c = λ bytes marks ends was.
    let track = lex Gap 0 (slice_range c.args.slice.now 0 c.args.to) in
    c.in_ok-next-in-Accepted.ensures.held track.marks track.ends (c.in_ok-told.ensures.seen c.in-Accepted.is [] c.new-sink.ensures.seen) bytes marks ends was
