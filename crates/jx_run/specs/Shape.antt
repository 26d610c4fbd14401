-- The shape of a run over part of a JSON text sequence.
use Rattle.std.specs.Prelude.{None, Some}
use Rattle.jx_run.specs.declared.runs.shape.Shape.{Shape}
use Rattle.jx_run.specs.declared.runs.shape.Shape.TheVariants.{Plain, Marked}
use Rattle.jx_run.specs.SeqRun.{SeqRunValue}

-- all that the run holds
abbrev pub shown : Shape → SeqRunValue
shown (Plain run) = record { before = run.now; marked = None }
shown (Marked before done after) = record { before = before.now; marked = Some (record { done = done.now; after = after.now }) }
