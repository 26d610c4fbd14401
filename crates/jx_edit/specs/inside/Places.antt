-- Places in the reading of a text.
use Rattle.std.specs.Prelude.{ℕ, List, []}
use Rattle.jx_lex.specs.declared.alphabet.state.LexState.{LexState}
use Rattle.jx_lex.specs.declared.alphabet.state.LexState.TheVariants.{Gap}
use Rattle.jx_reduce.specs.declared.table.expect.Expect.{Expect}
use Rattle.jx_reduce.specs.declared.table.expect.Expect.TheVariants.{Value}
use Rattle.jx_reduce.specs.declared.table.holder.Holder.{Holder}
use Rattle.jx_run.specs.Reading.{TextReading, went, read}

-- the lexical state, what may stand next, and the open containers, innermost first
pub record PlaceValue : Type 0 where
  pub state : LexState
  pub expect : Expect
  pub holders : List Holder

-- where a text begins
abbrev pub origin : PlaceValue
origin = record { state = Gap; expect = Value; holders = [] }

-- reading led there
abbrev pub came_to : PlaceValue → TextReading
came_to p = went p.state p.expect p.holders

-- reading bytes from there on
abbrev pub read_on : ℕ → PlaceValue → List ℕ → TextReading
read_on limit p bytes = read limit p.state p.expect p.holders 0 bytes
