-- The elements of a text sequence that workers judge part by part, and the lines that report them.
use Rattle.std.specs.Prelude.{◌≡◌, ℕ, Bool, List, [], flat_map}
use Rattle.std.specs.List.{AllZip}
use Rattle.jx_run.specs.declared.sequences.element_verdict.JudgedElement.{JudgedElement}
use Rattle.jx_run.specs.Elements.{elements}
use Rattle.jx_run.specs.ElementVerdict.{IsJudgedElement}
use Rattle.jx_run.specs.SequenceRead.{AreRead, StartsWithSeparator, EndsWithSeparator}
use Rattle.jx_ends.specs.declared.exit.Exit.{Exit}
use Rattle.jx_ends.specs.declared.exit.Exit.TheVariants.{Good, Bad}
use Rattle.jx_report.specs.Elements.{exit_past_judged}
use Rattle.jx_words.specs.Verdicts.{shown_output}
use Rattle.jx_ndjson_report.specs.Elements.{element_line}
use Rattle.jx_parallel.specs.declared.part_reader.PartRule.{PartRule}
use Rattle.jx_parallel_report.specs.declared.elements_part.ToldElements.{ToldElements}
use Rattle.jx_parallel_report.specs.declared.elements_reader.ElementsReader.{ElementsReader}

-- the lines of these elements, or nothing where nothing is to be written, and the exit by them
pub record IsToldOf (is_quiet : Bool) (judged : List JudgedElement) (words : List ℕ) (exit : Exit) : Type 0 where
  pub words_are : words ≡ shown_output is_quiet (flat_map (element_line []) judged)
  pub exit_is : exit ≡ exit_past_judged Good judged

-- bad where either is
abbrev pub exit_by : Exit → Exit → Exit
exit_by Good behind = behind
exit_by Bad behind = Bad

-- these words report the elements of bytes that stand from an offset on, and begin and end with a record separator
pub record IsPart (rule : PartRule) (at : ℕ) (bytes : List ℕ) (part : ToldElements) : Type 0 where
  pub starts : StartsWithSeparator bytes
  pub ends : EndsWithSeparator bytes
  pub judged : List JudgedElement
  pub are : AllZip (IsJudgedElement rule.depth) (elements at bytes) judged
  pub told : IsToldOf rule.is_quiet judged part.words.items part.exit

-- these elements were reported
abbrev pub AreTold : PartRule → List JudgedElement → ElementsReader → Type 0
AreTold rule judged r = IsToldOf rule.is_quiet judged r.told.words.items r.told.exit

-- it has read these bytes, and told the elements that have ended
pub record HasRead (rule : PartRule) (bytes : List ℕ) (r : ElementsReader) : Type 0 where
  pub judged : List JudgedElement
  pub read : AreRead rule.depth bytes judged r.reader r.open_ended
  pub told : AreTold rule judged r

-- the same of elements that have all ended
pub record AreAllTold (rule : PartRule) (bytes : List ℕ) (t : ToldElements) : Type 0 where
  pub judged : List JudgedElement
  pub are : AllZip (IsJudgedElement rule.depth) (elements 0 bytes) judged
  pub told : IsToldOf rule.is_quiet judged t.words.items t.exit

abbrev pub HasEnded : PartRule → List ℕ → ElementsReader → Type 0
HasEnded rule bytes r = AreAllTold rule bytes r.told
