-- The answer that the program gives for a reading.
use Rattle.std.specs.Prelude.{reverse}
use Rattle.jx_reduce.specs.Read.{Reading, went, stopped, too_deep}
use Rattle.jx_reduce.specs.declared.table.outcome.Outcome.{Outcome}
use Rattle.jx_reduce.specs.declared.table.outcome.Outcome.TheVariants.{Went, Stopped, TooDeep}

abbrev pub reading_of : Outcome → Reading
reading_of (Went e hs) = went e (reverse hs.items)
reading_of (Stopped at) = stopped at
reading_of (TooDeep at) = too_deep at
