use Rattle.std.proofs.Common.{subst, sym}
use Rattle.std.specs.Prelude.{slice_range}
use Rattle.jx_lex.specs.declared.alphabet.state.LexState.{LexState}
use Rattle.jx_lex.specs.Seen.{Shuts}
use Rattle.jx_lex.proofs.scanner.token_rest.literal_end.Goals as goal

pub returns-in-T-clause-shut : goal.returns-in-T-clause-shut
returns-in-T-clause-shut c = λ more. subst (λ (s : LexState). Shuts s (slice_range c.args.text.now c.args.from c.true_end.result)) (sym c.in-T.is) (c.true_end.ensures.shut more)

pub returns-in-F-clause-shut : goal.returns-in-F-clause-shut
returns-in-F-clause-shut c = λ more. subst (λ (s : LexState). Shuts s (slice_range c.args.text.now c.args.from c.false_end.result)) (sym c.in-F.is) (c.false_end.ensures.shut more)

pub returns-in-N-clause-shut : goal.returns-in-N-clause-shut
returns-in-N-clause-shut c = λ more. subst (λ (s : LexState). Shuts s (slice_range c.args.text.now c.args.from c.null_end.result)) (sym c.in-N.is) (c.null_end.ensures.shut more)
