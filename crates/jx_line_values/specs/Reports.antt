-- The output and the messages of a report on the values of lines.
use Rattle.std.specs.Prelude.{◌≡◌, ◌⊎◌, ℕ, List, ◌++◌, Option, Bool, false}
use Rattle.std.specs.Io.KnownBytes.{Appends}
use Rattle.jx_ends.specs.declared.exit.Exit.{Exit}
use Rattle.jx_line_values.specs.declared.task.LineValuesTask.{LineValuesTask}
use Rattle.jx_line_values.specs.LineValues.{IsDue, LineValuesOutput}

-- this is the whole output for an input and the status, and the messages on it were written unless such a write failed
pub record ToldOutput (task : LineValuesTask) (is_lost : Bool) (told retold : Option (List ℕ)) (input output : List ℕ) (exit : Exit) : Type 0 where
  pub tells : List ℕ
  pub answer : LineValuesOutput task input output tells exit
  pub says : is_lost ≡ false → Appends told retold tells

-- this is due of the bytes of an input, and the messages on them were written unless such a write failed
pub record ToldDue (task : LineValuesTask) (is_lost : Bool) (told retold : Option (List ℕ)) (input output : List ℕ) : Type 0 where
  pub tells : List ℕ
  pub due : IsDue task input output tells
  pub says : is_lost ≡ false → Appends told retold tells

-- this is due of the bytes of an input, or the whole output for them; of the messages on them a beginning was written
pub record ToldBegun (task : LineValuesTask) (is_lost : Bool) (told retold : Option (List ℕ)) (input output : List ℕ) : Type 0 where
  pub before : List ℕ
  pub behind : List ℕ
  pub of : IsDue task input output (before ++ behind) ⊎ ((exit : Exit) × LineValuesOutput task input output (before ++ behind) exit)
  pub says : is_lost ≡ false → Appends told retold before
