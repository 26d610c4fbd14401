-- The effect of a token, read off the table of moves in one word.
use Rattle.std.specs.Prelude.{Option, Some, None}
use Rattle.jx_lex.specs.declared.alphabet.mark.MarkKind.{MarkKind}
use Rattle.jx_reduce.specs.declared.table.expect.Expect.{Expect}
use Rattle.jx_reduce.specs.declared.table.expect.Expect.TheVariants.{After, ArrayFirst, ObjectFirst}
use Rattle.jx_reduce.specs.declared.table.holder.Holder.{Holder}
use Rattle.jx_reduce.specs.declared.table.holder.Holder.TheVariants.{Array, Object}
use Rattle.jx_reduce.specs.Table.{next_of, Change, same, added, removed, change_of, where_value, where_string, where_close_array, where_close_object, where_colon, where_comma}

pub data Turn : Type 0 where
  -- the token is a fault
  wrong : Turn
  -- the open containers stay
  on : Expect → Turn
  -- a container is opened
  enter : Holder → Expect → Turn
  -- the innermost container is closed
  leave : Expect → Turn

abbrev pub turned : Change → Option Expect → Turn
turned change None = wrong
turned same (Some next) = on next
turned (added holder) (Some next) = enter holder next
turned removed (Some next) = leave next

abbrev pub turn : MarkKind → Expect → Holder → Turn
turn kind expect top = turned (change_of kind) (next_of kind expect top)

-- the turns at each kind of token
abbrev pub at_scalar : Expect → Turn
at_scalar expect = turned same (where_value After expect)

abbrev pub at_string : Expect → Turn
at_string expect = turned same (where_string expect)

abbrev pub at_open_array : Expect → Turn
at_open_array expect = turned (added Array) (where_value ArrayFirst expect)

abbrev pub at_open_object : Expect → Turn
at_open_object expect = turned (added Object) (where_value ObjectFirst expect)

abbrev pub at_close_array : Expect → Holder → Turn
at_close_array expect top = turned removed (where_close_array expect top)

abbrev pub at_close_object : Expect → Holder → Turn
at_close_object expect top = turned removed (where_close_object expect top)

abbrev pub at_colon : Expect → Turn
at_colon expect = turned same (where_colon expect)

abbrev pub at_comma : Expect → Holder → Turn
at_comma expect top = turned same (where_comma expect top)
