-- The rows of part of an input, as contracts see them.
use Rattle.std.specs.Prelude.{◌≡◌, ℕ, zero, suc, List, [], ◌∷◌, ◌++◌, true}
use Rattle.jx_run.specs.declared.texts.settings.FrontMark.TheVariants.{Refused}
use Rattle.jx_run.specs.Elements.{part}
use Rattle.jx_ndjson.specs.Lines.{line}
use Rattle.jx_ndjson.specs.inside.Steps.{HasNoLineFeed}
use Rattle.jx_line_values.specs.declared.rows_part.RowsPart.{RowsPart}
use Rattle.jx_line_values.specs.declared.rows_part.Turn.{Turn}
use Rattle.jx_line_values.specs.declared.task.LineValuesTask.{LineValuesTask}
use Rattle.jx_line_values.specs.LineValues.{IsGivenBy}
use Rattle.jx_line_values.specs.inside.Adding.{settings_with}
use Rattle.jx_line_values.specs.inside.Cutting.{CutterValue, HasTaken}

-- whatever its number, a line with these bytes that is not the first has this row, and no message
abbrev pub IsPlainLine : LineValuesTask → List ℕ → List ℕ → Type 0
IsPlainLine task bytes row = (number : ℕ) → IsGivenBy (settings_with task Refused) task (line number (part 0 bytes) true) (record { written = row; told = [] })

-- so many such lines, each before a line feed, and their rows
pub data ArePlain (task : LineValuesTask) : List ℕ → ℕ → List ℕ → Type 0 where
  nothing : ArePlain task [] zero []
  one_more : (bytes bare rows row : List ℕ) (count : ℕ) → ArePlain task bytes count rows → HasNoLineFeed bare → IsPlainLine task bare row
      → ArePlain task ((bytes ++ bare) ++ 0x0a ∷ []) (suc count) (rows ++ row)

-- such lines, and then bytes that are kept
pub record IsTurn (task : LineValuesTask) (bytes : List ℕ) (turn : Turn) : Type 0 where
  pub plain : List ℕ
  pub are_plain : ArePlain task plain turn.count turn.rows.items
  pub bytes_are : bytes ≡ plain ++ turn.line.items

abbrev pub AreTurns : LineValuesTask → List ℕ → List Turn → Type 0
AreTurns task bytes [] = bytes ≡ []
AreTurns task bytes (turn ∷ turns) = (mine : List ℕ) × (rest : List ℕ) × (bytes ≡ mine ++ rest) × IsTurn task mine turn × AreTurns task rest turns

-- turns, and then such lines
pub record IsRowsPart (task : LineValuesTask) (bytes : List ℕ) (p : RowsPart) : Type 0 where
  pub front : List ℕ
  pub plain : List ℕ
  pub turns : AreTurns task front p.turns.items
  pub are_plain : ArePlain task plain p.count p.rows.items
  pub bytes_are : bytes ≡ front ++ plain

-- some turns of a part were taken, and others are left
pub record IsTakenTo (task : LineValuesTask) (bytes front given said : List ℕ) (turns : List Turn) (t : CutterValue) : Type 0 where
  pub done : List ℕ
  pub rest : List ℕ
  pub both : front ≡ done ++ rest
  pub taken : HasTaken task (bytes ++ done) given said t
  pub left : AreTurns task rest turns
