-- Where a scan ends, as the exit of a reading.
use Rattle.jx_lex.specs.Lex as lex
use Rattle.jx_lex.specs.declared.alphabet.lex_exit.LexExit.{LexExit}
use Rattle.jx_lex.specs.declared.alphabet.lex_exit.LexExit.TheVariants as exit

abbrev pub exit_of : LexExit → lex.LexExit
exit_of (exit.State s) = lex.LexExit.state s
exit_of (exit.Fault at) = lex.LexExit.fault at
