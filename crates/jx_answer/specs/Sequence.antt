-- The answers on a JSON text sequence (RFC 7464, sections 2.1 and 2.4).
use Rattle.std.specs.Prelude.{◌≡◌, ℕ, ◌<◌, List}
use Rattle.std.specs.List.{AllZip}
use Rattle.jx_run.specs.declared.texts.verdict.Verdict.TheVariants.{Refused}
use Rattle.jx_run.specs.Elements.{Part, part_span, elements}
use Rattle.jx_run.specs.declared.sequences.element_verdict.ElementVerdict.{ElementVerdict}
use Rattle.jx_run.specs.declared.sequences.element_verdict.ElementVerdict.TheVariants as verdict
use Rattle.jx_run.specs.declared.sequences.element_verdict.JudgedElement.{JudgedElement}
use Rattle.jx_run.specs.Tree.{Tree}
use Rattle.jx_run.specs.Unclosed.{EndsUnclosed, IsAccepted, end_of}
use Rattle.jx_run.specs.Verdict.{Judged}
use Rattle.jx_index.specs.Indexed.{IndexedValue}
use Rattle.jx_index.specs.Rows.{rows}
use Rattle.jx_answer.specs.declared.element.Element.{Element}
use Rattle.jx_answer.specs.declared.element.ElementAnswer.{ElementAnswer}
use Rattle.jx_answer.specs.declared.element.ElementAnswer.TheVariants as answer

-- the index is over the element, and its rows are those of its tree
pub record IsElementIndex (input : List ℕ) (p : Part) (limit : ℕ) (index : IndexedValue) : Type 0 where
  pub tree : Tree
  pub accepted : IsAccepted p limit tree
  pub closed : EndsUnclosed tree (end_of p) → ⊥
  pub text : index.text ≡ input
  pub span : index.span ≡ part_span p
  pub rows_are : index.rows ≡ rows tree

-- the answer on an element
abbrev pub IsElementAnswer : List ℕ → Part → ℕ → ElementAnswer → Type 0
IsElementAnswer input p limit answer.Unmarked = p.at ≡ 0
IsElementAnswer input p limit (answer.Refused refusal) = (0 < p.at) × Judged p.at p.bytes limit (Refused refusal)
IsElementAnswer input p limit answer.MayBeCut = (0 < p.at) × ((tree : Tree) × IsAccepted p limit tree × EndsUnclosed tree (end_of p))
IsElementAnswer input p limit (answer.Accepted index) = (0 < p.at) × IsElementIndex input p limit index

pub record IsElement (input : List ℕ) (limit : ℕ) (p : Part) (e : Element) : Type 0 where
  pub span_is : e.span ≡ part_span p
  pub answer_is : IsElementAnswer input p limit e.answer

-- one for each element of the input, in order
abbrev pub AreElements : List ℕ → ℕ → List Element → Type 0
AreElements input limit answers = AllZip (IsElement input limit) (elements 0 input) answers

-- an answer less the index
abbrev pub without_index : ElementAnswer → ElementVerdict
without_index answer.Unmarked = verdict.Unmarked
without_index (answer.Refused refusal) = verdict.Refused refusal
without_index answer.MayBeCut = verdict.MayBeCut
without_index (answer.Accepted index) = verdict.Accepted

abbrev pub judged : Element → JudgedElement
judged e = record { span = e.span; verdict = without_index e.answer }
