-- The exit so far, past the rest.
use Rattle.std.proofs.Common.{◌≡◌, drop}
use Rattle.jx_report.specs.Elements.{exit_past_judged}
use Rattle.jx_ends.specs.declared.exit.Exit.TheVariants.{Good}
use Rattle.jx_parallel_report.proofs.elements_part.exit_of.Given as goal

abbrev pub invariant-loop-number : goal.invariant-loop-number
invariant-loop-number l = exit_past_judged l.exit (drop l.number l.elements) ≡ exit_past_judged Good l.elements
