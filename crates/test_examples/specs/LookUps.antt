-- The answer to a pointer in bytes.
use Rattle.std.specs.Prelude.{◌≡◌, ℕ, List, Ok, Err}
use Rattle.jx_summary.specs.declared.span.Span.{Span}
use Rattle.jx_run.specs.declared.texts.verdict.Verdict.TheVariants as verdict
use Rattle.jx_run.specs.Laws.{span_of}
use Rattle.jx_run.specs.Text.{IsDocument}
use Rattle.jx_run.specs.Tree.{Tree}
use Rattle.jx_run.specs.Verdict.{Judged}
use Rattle.jx_index.specs.Leads.{Numbered, led}
use Rattle.jx_index.specs.Pointers.{tokens}
use Rattle.test_examples.specs.declared.pointers.LookUp.{LookUp}
use Rattle.test_examples.specs.declared.pointers.LookUp.TheVariants.{Found, Lost, Refused}

-- the span of the node to which the pointer's tokens lead in the tree
pub record IsSpanLed (text : List ℕ) (tree : Tree) (pointer : List ℕ) (place : Span) : Type 0 where
  pub node : Numbered
  pub leads : led text tree (tokens pointer) ≡ Ok node
  pub span_is : place ≡ span_of node.tree

-- in a text with this tree: that span, or why the tokens lead nowhere
abbrev pub IsSpan : List ℕ → Tree → List ℕ → LookUp → Type 0
IsSpan text tree pointer (Found place) = IsSpanLed text tree pointer place
IsSpan text tree pointer (Lost fault) = led text tree (tokens pointer) ≡ Err fault
IsSpan text tree pointer (Refused refusal) = ⊥

-- in any bytes: the same in their tree, or their refusal
abbrev pub IsLookUp : List ℕ → ℕ → List ℕ → LookUp → Type 0
IsLookUp bytes limit pointer (Found place) = (tree : Tree) × IsDocument 0 bytes limit tree × IsSpan bytes tree pointer (Found place)
IsLookUp bytes limit pointer (Lost fault) = (tree : Tree) × IsDocument 0 bytes limit tree × IsSpan bytes tree pointer (Lost fault)
IsLookUp bytes limit pointer (Refused refusal) = Judged 0 bytes limit (verdict.Refused refusal)
