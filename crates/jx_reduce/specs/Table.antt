-- The table of moves (RFC 8259, sections 2 to 5): what each token makes of the expectation and of the open containers.
use Rattle.std.specs.Prelude.{Option, Some, None}
use Rattle.jx_reduce.specs.declared.table.holder.Holder.{Holder}
use Rattle.jx_reduce.specs.declared.table.holder.Holder.TheVariants.{Array, Object}
use Rattle.jx_reduce.specs.declared.table.expect.Expect.{Expect}
use Rattle.jx_reduce.specs.declared.table.expect.Expect.TheVariants.{Value, ArrayFirst, ObjectFirst, Name, Colon, After}
use Rattle.jx_lex.specs.declared.alphabet.mark.MarkKind.{MarkKind}
use Rattle.jx_lex.specs.declared.alphabet.mark.MarkKind.TheVariants.{OpenArray, CloseArray, OpenObject, CloseObject, Comma, String, Number, True, False, Null, Colon as ColonMark}

-- where a value may begin, it leads to this expectation
abbrev pub where_value : Expect → Expect → Option Expect
where_value x Value = Some x
where_value x ArrayFirst = Some x
where_value x _ = None

-- where a string may begin: as a value, or as a name
abbrev pub where_string : Expect → Option Expect
where_string Value = Some After
where_string ArrayFirst = Some After
where_string ObjectFirst = Some Colon
where_string Name = Some Colon
where_string _ = None

abbrev pub where_close_array : Expect → Holder → Option Expect
where_close_array ArrayFirst Array = Some After
where_close_array After Array = Some After
where_close_array _ _ = None

abbrev pub where_close_object : Expect → Holder → Option Expect
where_close_object ObjectFirst Object = Some After
where_close_object After Object = Some After
where_close_object _ _ = None

abbrev pub where_colon : Expect → Option Expect
where_colon Colon = Some Value
where_colon _ = None

abbrev pub where_comma : Expect → Holder → Option Expect
where_comma After Array = Some Value
where_comma After Object = Some Name
where_comma _ _ = None

-- the new expectation, or none where the token is a fault
abbrev pub next_of : MarkKind → Expect → Holder → Option Expect
next_of OpenArray e _ = where_value ArrayFirst e
next_of CloseArray e h = where_close_array e h
next_of OpenObject e _ = where_value ObjectFirst e
next_of CloseObject e h = where_close_object e h
next_of ColonMark e _ = where_colon e
next_of Comma e h = where_comma e h
next_of String e _ = where_string e
next_of Number e _ = where_value After e
next_of True e _ = where_value After e
next_of False e _ = where_value After e
next_of Null e _ = where_value After e

-- the change that a token makes to the list of open containers
pub data Change : Type 0 where
  same : Change
  added : Holder → Change
  removed : Change

abbrev pub change_of : MarkKind → Change
change_of OpenArray = added Array
change_of CloseArray = removed
change_of OpenObject = added Object
change_of CloseObject = removed
change_of _ = same
