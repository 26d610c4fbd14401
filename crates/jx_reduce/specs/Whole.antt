-- A reading with the number of open containers in place of their list.
use Rattle.std.specs.Prelude.{length}
use Rattle.jx_reduce.specs.Read.{Reading, went, stopped, too_deep}
use Rattle.jx_reduce.specs.declared.table.whole.Whole.{Whole}
use Rattle.jx_reduce.specs.declared.table.whole.Whole.TheVariants.{Went, Stopped, TooDeep}

abbrev pub whole_of : Reading → Whole
whole_of (went e s) = Went e (length s)
whole_of (stopped at) = Stopped at
whole_of (too_deep at) = TooDeep at
