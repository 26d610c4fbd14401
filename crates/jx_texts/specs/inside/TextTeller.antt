-- A teller of texts as contracts see it, and what it has taken.
use Rattle.std.specs.Prelude.{◌≡◌, ℕ, List, ◌++◌}
use Rattle.jx_ends.specs.declared.exit.Exit.{Exit}
use Rattle.jx_ends.specs.declared.exit.Exit.TheVariants.{Good}
use Rattle.jx_texts.specs.declared.judged_text.JudgedText.{JudgedText}
use Rattle.jx_texts.specs.declared.task.TextsTask.{TextsTask}
use Rattle.jx_texts.specs.Output.{exit_past, lines_of}
use Rattle.jx_texts.specs.Reading.{HasTold, TextReaderValue}

pub record TextTellerValue : Type 0 where
  -- the reader of the texts
  pub texts : TextReaderValue
  -- the exit by those so far
  pub exit : Exit
  -- the bytes that wait to be written
  pub ready : List ℕ

-- it has taken these bytes of an input, from its start, and told this of them before what waits
pub record HasTaken (task : TextsTask) (bytes given : List ℕ) (t : TextTellerValue) : Type 0 where
  pub told : List JudgedText
  pub has_told : HasTold task.depth 0 bytes told t.texts
  pub ends : t.exit ≡ exit_past Good told
  pub written : given ++ t.ready ≡ lines_of task told
