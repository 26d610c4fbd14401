use Rattle.jx_lex.specs.declared.alphabet.lex_exit.LexExit.TheVariants.{Fault}
use Rattle.jx_run.specs.declared.runs.transition.Transition.{Transition}
use Rattle.jx_run.proofs.runs.rest.transition_from.Goals as goal

pub returns-then-avoid-clause-reads : goal.returns-then-avoid-clause-reads
returns-then-avoid-clause-reads c reached =
    let w : Transition = record { exit = Fault c.args.from; structure = 0 } in
    absurd (c.avoid.ensures c.if-avoid.true reached.0 w reached.1 (reached.2 w))
