-- The exit so far, past the rest.
use Rattle.std.proofs.Common.{◌≡◌, drop}
use Rattle.jx_words.specs.inside.Lines.{exit_past_lines}
use Rattle.jx_ends.specs.declared.exit.Exit.TheVariants.{Good}
use Rattle.jx_words.proofs.pointer_answer.exit_of_answers.Given as goal

abbrev pub invariant-loop-number : goal.invariant-loop-number
invariant-loop-number l = exit_past_lines l.exit (drop l.number l.answers) ≡ exit_past_lines Good l.answers
