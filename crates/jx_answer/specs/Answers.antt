-- The answer on a text.
use Rattle.std.specs.Prelude.{◌≡◌, ℕ, List, length}
use Rattle.jx_run.specs.declared.texts.verdict.Verdict.TheVariants.{Accepted, Refused}
use Rattle.jx_run.specs.Tree.{Tree, span}
use Rattle.jx_run.specs.Text.{IsDocument}
use Rattle.jx_run.specs.Verdict.{Judged}
use Rattle.jx_index.specs.Indexed.{IndexedValue}
use Rattle.jx_index.specs.Rows.{rows}
use Rattle.jx_index.specs.declared.text_answer.TextAnswer.{TextAnswer}
use Rattle.jx_index.specs.declared.text_answer.TextAnswer.TheVariants as answer

-- the index is over the whole of these bytes, and its rows are those of their tree
pub record IsIndexOf (bytes : List ℕ) (limit : ℕ) (index : IndexedValue) : Type 0 where
  pub text : index.text ≡ bytes
  pub span : index.span ≡ span 0 (length bytes)
  pub tree : Tree
  pub is_text : IsDocument 0 bytes limit tree
  pub rows_are : index.rows ≡ rows tree

-- the RFC 8259 reading of the bytes: accepted with the rows of the tree, or refused by the verdict
abbrev pub IsAnswer : List ℕ → ℕ → TextAnswer → Type 0
IsAnswer bytes limit (answer.Accepted index) = Judged 0 bytes limit Accepted × IsIndexOf bytes limit index
IsAnswer bytes limit (answer.Refused refusal) = Judged 0 bytes limit (Refused refusal)
