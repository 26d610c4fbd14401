-- The reading in a known stack: its fault, or else its expectation and its open containers.
use Rattle.std.specs.Prelude.{◌≡◌, ◌≤◌, List, [], Option, Some, None, length}
use Rattle.jx_reduce.specs.Read.{Reading, went, stopped, too_deep}
use Rattle.jx_reduce.specs.KnownStack.{Known}
use Rattle.jx_reduce.specs.declared.table.holder.Holder.{Holder}
use Rattle.jx_reduce.specs.declared.table.expect.Expect.{Expect}
use Rattle.jx_reduce.specs.declared.table.expect.Expect.TheVariants.{After}
use Rattle.jx_reduce.specs.declared.stack.known_stack.Fault.{Fault}
use Rattle.jx_reduce.specs.declared.stack.known_stack.Fault.TheVariants.{Stopped, TooDeep}
use Rattle.jx_reduce.specs.declared.stack.known_stack.KnownStack.TheInside.{Inside}

abbrev pub fault_reading : Fault → Reading
fault_reading (Stopped at) = stopped at
fault_reading (TooDeep at) = too_deep at

abbrev pub reading_at : Option Fault → Expect → List Holder → Reading
reading_at None e s = went e s
reading_at (Some f) e s = fault_reading f

abbrev pub known_of : Inside → Known
known_of a = record { depth = a.depth; reading = reading_at a.fault a.expect a.open }

-- after a fault, every token is a fault: nothing is open, and nothing is expected
abbrev pub AtRest : Option Fault → Expect → List Holder → Type 0
AtRest None e s = Unit {0}
AtRest (Some f) e s = (e ≡ After) × (s ≡ [])

pub record IsLawful (a : Inside) : Type 0 where
  pub within : length a.open ≤ a.depth
  pub rest : AtRest a.fault a.expect a.open
