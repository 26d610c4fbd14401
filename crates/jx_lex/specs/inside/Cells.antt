-- The cells of the machine's table: what each says.
use Rattle.std.specs.Prelude.{Some}
use Rattle.jx_lex.specs.declared.alphabet.cell.Cell.{Cell}
use Rattle.jx_lex.specs.declared.alphabet.cell.Cell.TheVariants.{Go, Begin, Close, End, EndThenBegin, Fault, EndThenFault}
use Rattle.jx_lex.specs.declared.alphabet.state.Step.{Step}
use Rattle.jx_lex.specs.declared.alphabet.state.TokenEnd.TheVariants.{Before}
use Rattle.jx_lex.specs.Moves.{go, begin, close, fault}

-- the step that a cell stands for
abbrev pub step_of : Cell → Step
step_of (Go next) = go next
step_of (Begin next kind) = begin kind next
step_of Close = close
step_of (End next) = record (go next) { end = Some Before }
step_of (EndThenBegin next kind) = record (begin kind next) { end = Some Before }
step_of Fault = fault
step_of EndThenFault = record fault { end = Some Before }
