-- A teller of the values of lines as contracts see it, and what it has taken.
use Rattle.std.specs.Prelude.{◌≡◌, ℕ, List, ◌++◌, Option, Bool, false, length}
use Rattle.std.specs.Io.KnownBytes.{Appends}
use Rattle.jx_ends.specs.declared.exit.Exit.{Exit}
use Rattle.jx_line_values.specs.declared.task.LineValuesTask.{LineValuesTask}
use Rattle.jx_line_values.specs.LineValues.{LineValuesOutput}
use Rattle.jx_line_values.specs.inside.Cutting.{CutterValue, HasTaken}

pub record ValuesTellerValue : Type 0 where
  -- the task for each line
  pub task : LineValuesTask
  -- the line that goes on, and the output and messages that wait
  pub cutter : CutterValue
  -- how many bytes it has taken
  pub end : ℕ

-- the output that was written, and the messages that were reported
pub record Gave : Type 0 where
  pub written : List ℕ
  pub said : List ℕ

-- it has taken these bytes of an input, from its start, and gave this of them before what waits
pub record HasRead (task : LineValuesTask) (bytes : List ℕ) (gave : Gave) (t : ValuesTellerValue) : Type 0 where
  pub asked : t.task ≡ task
  pub taken : HasTaken task bytes gave.written gave.said t.cutter
  pub long : t.end ≡ length bytes

-- it has taken these bytes of an input, from its start; this was written before what waits, and the messages before those that wait
-- unless such a write failed
pub record HasTold (task : LineValuesTask) (is_lost : Bool) (told retold : Option (List ℕ)) (bytes given : List ℕ) (t : ValuesTellerValue) : Type 0 where
  pub asked : t.task ≡ task
  pub said : List ℕ
  pub taken : HasTaken task bytes given said t.cutter
  pub long : t.end ≡ length bytes
  pub says : is_lost ≡ false → Appends told retold said

-- it has taken the whole input, and the status is this
pub record HasEnded (task : LineValuesTask) (is_lost : Bool) (told retold : Option (List ℕ)) (bytes given : List ℕ) (exit : Exit) (t : ValuesTellerValue) : Type 0 where
  pub said : List ℕ
  pub answer : LineValuesOutput task bytes (given ++ t.cutter.ready) (said ++ t.cutter.told) exit
  pub says : is_lost ≡ false → Appends told retold said
