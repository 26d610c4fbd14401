-- Answers to pointers in an index.
use Rattle.std.specs.Prelude.{◌≡◌, ℕ, List, Option, Some, Result, Ok, Err, All, slice_get}
use Rattle.jx_lex.specs.declared.kind.Kind.{Kind}
use Rattle.jx_summary.specs.declared.span.Span.{Span}
use Rattle.jx_run.specs.Text.{IsText}
use Rattle.jx_run.specs.Tree.{Tree}
use Rattle.jx_index.specs.declared.find_fault.FindFault.{FindFault}
use Rattle.jx_index.specs.declared.row.Row.{Row}
use Rattle.jx_index.specs.Indexed.{IndexedValue}
use Rattle.jx_index.specs.Leads.{leads}
use Rattle.jx_index.specs.Pointers.{tokens}
use Rattle.jx_answer.specs.declared.find_answer.Answer.{Answer}
use Rattle.jx_answer.specs.declared.find_answer.Answer.TheVariants.{Found, Fault}
use Rattle.jx_answer.specs.declared.bytes.lookups.Answered.{Answered}

-- the answer of `find` to the pointer on this index
abbrev pub Finds : IndexedValue → List ℕ → Result ℕ FindFault → Type 0
Finds index pointer found = (limit : ℕ) (tree : Tree)
    → IsText index.text index.span.start index.span.end limit tree → found ≡ leads index.text tree (tokens pointer)

-- the row of this node has this kind and this span
pub record HasRowAt (rows : List Row) (node : ℕ) (kind : Kind) (span : Span) : Type 0 where
  pub row : Row
  pub is_row : slice_get rows node ≡ Some row
  pub kind_is : row.kind ≡ kind
  pub span_is : row.span ≡ span

-- the node that `find` answers, as its row shows it, or the fault
abbrev pub IsAnswerTo : IndexedValue → List ℕ → Answer → Type 0
IsAnswerTo index pointer (Found node kind span) = Finds index pointer (Ok node) × HasRowAt index.rows node kind span
IsAnswerTo index pointer (Fault fault) = Finds index pointer (Err fault)

-- it answers the pointer that stands at this place
pub record IsAnswerAt (index : IndexedValue) (pointers : List (List ℕ)) (at : ℕ) (answer : Answer) : Type 0 where
  pub pointer : List ℕ
  pub stands : slice_get pointers at ≡ Some pointer
  pub is_answer : IsAnswerTo index pointer answer

-- answers that were found so far
abbrev pub AreAnswered : IndexedValue → List (List ℕ) → List Answered → Type 0
AreAnswered index pointers found = All (λ x. IsAnswerAt index pointers x.at x.answer) found

-- at each place nothing yet, or the answer to the pointer there
abbrev pub ArePlaced : IndexedValue → List (List ℕ) → List (Option Answer) → Type 0
ArePlaced index pointers places = (at : ℕ) (answer : Answer) → slice_get places at ≡ Some (Some answer) → IsAnswerAt index pointers at answer
