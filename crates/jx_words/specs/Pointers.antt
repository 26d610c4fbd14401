-- The answers to pointers in a text (RFC 6901), and the lines that are written for them.
use Rattle.std.specs.Prelude.{◌≡◌, ℕ, List, [], ◌∷◌, ◌++◌, Some, Ok, Err, codes, decimal, slice_get}
use Rattle.jx_lex.specs.declared.kind.Kind.{Kind}
use Rattle.jx_summary.specs.declared.span.Span.{Span}
use Rattle.jx_run.specs.Tree.{Tree}
use Rattle.jx_index.specs.declared.find_fault.FindFault.TheVariants.{NoSuchMember, NameRepeated, NotAnIndex, PastEnd, AfterLast, NotAContainer}
use Rattle.jx_index.specs.declared.pointer.PointerFault.TheVariants.{NoSlash, BadEscape}
use Rattle.jx_index.specs.Leads.{leads}
use Rattle.jx_index.specs.PointerFaults.{IsFaultOf}
use Rattle.jx_index.specs.Pointers.{IsPointer, tokens}
use Rattle.jx_index.specs.Rows.{rows}
use Rattle.jx_index.specs.declared.row.Row.{Row}
use Rattle.jx_ends.specs.declared.exit.Exit.{Exit}
use Rattle.jx_ends.specs.declared.exit.Exit.TheVariants.{Good, Bad}
use Rattle.jx_words.specs.declared.pointer_answer.PointerAnswer.{PointerAnswer}
use Rattle.jx_words.specs.declared.pointer_answer.PointerAnswer.TheVariants.{Found, Unread, Lost}
use Rattle.jx_words.specs.Words.{line, kind_words, span_words}

-- the pointer leads to a node whose row has this kind and this span
pub record LeadsTo (text : List ℕ) (tree : Tree) (pointer : List ℕ) (kind : Kind) (span : Span) : Type 0 where
  pub is_pointer : IsPointer pointer
  pub node : ℕ
  pub leads_there : leads text tree (tokens pointer) ≡ Ok node
  pub row : Row
  pub is_row : slice_get (rows tree) node ≡ Some row
  pub kind_is : row.kind ≡ kind
  pub span_is : row.span ≡ span

-- the answer to a pointer in a text with this tree
abbrev pub IsAnswerTo : List ℕ → Tree → List ℕ → PointerAnswer → Type 0
IsAnswerTo text tree pointer (Found kind span) = LeadsTo text tree pointer kind span
IsAnswerTo text tree pointer (Unread fault) = IsFaultOf pointer fault
IsAnswerTo text tree pointer (Lost fault) = IsPointer pointer × (leads text tree (tokens pointer) ≡ Err fault)

abbrev pub answer_words : PointerAnswer → List ℕ
answer_words (Found kind span) = codes "found " ++ kind_words kind ++ codes " " ++ span_words span
answer_words (Unread NoSlash) = codes "no slash"
answer_words (Unread (BadEscape at)) = codes "bad escape at " ++ decimal at
answer_words (Lost (NoSuchMember token)) = codes "no such member at token " ++ decimal token
answer_words (Lost (NameRepeated token)) = codes "name repeated at token " ++ decimal token
answer_words (Lost (NotAnIndex token)) = codes "not an index at token " ++ decimal token
answer_words (Lost (PastEnd token)) = codes "past end at token " ++ decimal token
answer_words (Lost (AfterLast token)) = codes "after last at token " ++ decimal token
answer_words (Lost (NotAContainer token)) = codes "not a container at token " ++ decimal token

-- bad from the first pointer on that is not found
abbrev pub exit_after : Exit → PointerAnswer → Exit
exit_after exit (Found kind span) = exit
exit_after exit (Unread fault) = Bad
exit_after exit (Lost fault) = Bad

-- the lines for pointers, in their order, and the exit
pub data PointerLines (text : List ℕ) (tree : Tree) : List (List ℕ) → List ℕ → Exit → Type 0 where
  no_pointer : PointerLines text tree [] [] Good
  one_more : {pointers : List (List ℕ)} {output : List ℕ} {exit : Exit} → PointerLines text tree pointers output exit
      → (pointer : List ℕ) (answer : PointerAnswer) → IsAnswerTo text tree pointer answer
      → PointerLines text tree (pointers ++ pointer ∷ []) (output ++ line (answer_words answer)) (exit_after exit answer)
