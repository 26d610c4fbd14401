-- Answers to strings that were read as pointers, in an index.
use Rattle.std.specs.Prelude.{◌≡◌, ℕ, List, Option, None, Some}
use Rattle.std.specs.List.{AllZip}
use Rattle.jx_run.specs.Text.{IsText}
use Rattle.jx_run.specs.Tree.{Tree}
use Rattle.jx_index.specs.declared.pointer.PointerFault.{PointerFault}
use Rattle.jx_index.specs.Indexed.{IndexedValue}
use Rattle.jx_index.specs.Rows.{rows}
use Rattle.jx_answer.specs.declared.find_answer.Answer.{Answer}
use Rattle.jx_answer.specs.declared.find_answer.Answer.TheVariants as in_index
use Rattle.jx_words.specs.declared.pointer_answer.PointerAnswer.{PointerAnswer}
use Rattle.jx_words.specs.declared.pointer_answer.PointerAnswer.TheVariants as answer
use Rattle.jx_words.specs.Pointers.{IsAnswerTo}

-- by what an index answered
abbrev pub answer_of : Option PointerFault → Answer → PointerAnswer
answer_of (Some fault) answered = answer.Unread fault
answer_of None (in_index.Found node kind span) = answer.Found kind span
answer_of None (in_index.Fault fault) = answer.Lost fault

-- the answers to strings in the text of an index that has the rows of the text's tree
abbrev pub AreAnswersIn : IndexedValue → List (List ℕ) → List PointerAnswer → Type 0
AreAnswersIn index spelt answers =
    (limit : ℕ) (tree : Tree) → IsText index.text index.span.start index.span.end limit tree → index.rows ≡ rows tree
    → AllZip (IsAnswerTo index.text tree) spelt answers
