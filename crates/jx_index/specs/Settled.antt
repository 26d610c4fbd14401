-- The answer on a text by settings: its index, or the refusal. Offsets count all bytes, those of a front too.
use Rattle.std.specs.Prelude.{◌≡◌, ℕ, List, length, slice_range}
use Rattle.jx_run.specs.declared.texts.settings.Settings.{Settings}
use Rattle.jx_run.specs.declared.texts.verdict.Verdict.TheVariants.{Accepted, Refused}
use Rattle.jx_run.specs.Settings.{IsDocumentBy, JudgedBy}
use Rattle.jx_run.specs.Text.{IsText}
use Rattle.jx_run.specs.Tree.{Tree, span}
use Rattle.jx_run.specs.Verdict.{Judged}
use Rattle.jx_index.specs.ByNames.{IsVerdictBy}
use Rattle.jx_index.specs.Indexed.{IndexedValue}
use Rattle.jx_index.specs.Rows.{rows}
use Rattle.jx_index.specs.declared.text_answer.TextAnswer.{TextAnswer}
use Rattle.jx_index.specs.declared.text_answer.TextAnswer.TheVariants as answer

-- the index is over what follows the front, and its rows are those of the tree
pub record IsIndexBy (settings : Settings) (bytes : List ℕ) (index : IndexedValue) : Type 0 where
  pub text : index.text ≡ bytes
  pub tree : Tree
  pub is_text : IsDocumentBy settings 0 bytes tree
  pub span : index.span ≡ span (length is_text.front) (length bytes)
  pub rows_are : index.rows ≡ rows tree

-- accepted with the rows of the tree, or refused, by the verdict
abbrev pub IsAnswerBy : Settings → List ℕ → TextAnswer → Type 0
IsAnswerBy settings bytes (answer.Accepted index) = IsVerdictBy settings bytes Accepted × IsIndexBy settings bytes index
IsAnswerBy settings bytes (answer.Refused refusal) = IsVerdictBy settings bytes (Refused refusal)

-- the same, whatever names the objects have
abbrev pub IsReadBy : Settings → List ℕ → TextAnswer → Type 0
IsReadBy settings bytes (answer.Accepted index) = JudgedBy settings 0 bytes Accepted × IsIndexBy settings bytes index
IsReadBy settings bytes (answer.Refused refusal) = JudgedBy settings 0 bytes (Refused refusal)

-- ---- what stands from an offset on

-- the bytes from an offset on
abbrev pub rest_from : ℕ → List ℕ → List ℕ
rest_from start bytes = slice_range bytes start (length bytes)

-- the index is over the bytes from an offset on, and its rows are those of their tree
pub record IsIndexFrom (start : ℕ) (bytes : List ℕ) (limit : ℕ) (index : IndexedValue) : Type 0 where
  pub text : index.text ≡ bytes
  pub span : index.span ≡ span start (length bytes)
  pub tree : Tree
  pub is_text : IsText bytes start (length bytes) limit tree
  pub rows_are : index.rows ≡ rows tree

-- the RFC 8259 reading of the bytes from an offset on
abbrev pub IsAnswerFrom : ℕ → List ℕ → ℕ → TextAnswer → Type 0
IsAnswerFrom start bytes limit (answer.Accepted index) = Judged start (rest_from start bytes) limit Accepted × IsIndexFrom start bytes limit index
IsAnswerFrom start bytes limit (answer.Refused refusal) = Judged start (rest_from start bytes) limit (Refused refusal)
