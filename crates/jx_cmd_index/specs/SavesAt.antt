-- A report that saves an index of bytes that are read at offsets.
use Rattle.std.specs.Prelude.{◌≡◌, ℕ, List, Option, Bool, false}
use Rattle.std.specs.Io.KnownBytes.{Appends}
use Rattle.jx_run.specs.declared.texts.settings.Settings.{Settings}
use Rattle.jx_parallel.specs.Offsets.{IsContent}
use Rattle.jx_ends.specs.declared.exit.Exit.{Exit}
use Rattle.jx_ends.specs.Ends.{AppendsBeginning}
use Rattle.jx_cmd_index.specs.SaveOutput.{IndexOutput}

-- the writer got the whole output for an input, and the report was written unless reporting failed; where the content is known, that
-- is the input
pub record SavesAt (has_names : Bool) (settings : Settings) (chunk : ℕ) (known written grown : Option (List ℕ)) (is_lost : Bool) (told retold : Option (List ℕ)) (exit : Exit) : Type 0 where
  pub text : List ℕ
  pub output : List ℕ
  pub tells : List ℕ
  pub whole : IsContent known text
  pub answer : IndexOutput has_names settings chunk text output tells exit
  pub wrote : Appends written grown output
  pub says : is_lost ≡ false → Appends told retold tells

-- the writer got a beginning of that, and not all
pub record SavesAtInPart (has_names : Bool) (settings : Settings) (chunk : ℕ) (known written grown : Option (List ℕ)) : Type 0 where
  pub text : List ℕ
  pub output : List ℕ
  pub tells : List ℕ
  pub exit : Exit
  pub whole : IsContent known text
  pub answer : IndexOutput has_names settings chunk text output tells exit
  pub wrote : AppendsBeginning written grown output
