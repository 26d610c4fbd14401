-- The answer to the bytes of a pointer in bytes (RFC 6901), and how C sees it.
use Rattle.std.specs.Prelude.{◌≡◌, ℕ, List, None, Result, Ok, Err}
use Rattle.std.specs.List.{AllZip}
use Rattle.std.specs.Str.{IsUtf8}
use Rattle.jx_lex.specs.declared.kind.Kind.{Kind}
use Rattle.jx_summary.specs.declared.span.Span.{Span}
use Rattle.jx_run.specs.declared.texts.settings.Settings.{Settings}
use Rattle.jx_run.specs.declared.texts.verdict.Refusal.TheVariants as refusal
use Rattle.jx_run.specs.declared.texts.verdict.Verdict.TheVariants as verdict
use Rattle.jx_run.specs.Laws.{span_of}
use Rattle.jx_run.specs.Settings.{IsDocumentBy}
use Rattle.jx_run.specs.Tree.{Tree}
use Rattle.jx_index.specs.ByNames.{IsVerdictBy, RefusesName}
use Rattle.jx_index.specs.declared.find_fault.FindFault.{FindFault}
use Rattle.jx_index.specs.declared.find_fault.FindFault.TheVariants.{NoSuchMember, NameRepeated, NotAnIndex, PastEnd, AfterLast, NotAContainer}
use Rattle.jx_index.specs.declared.finder.Found as finder
use Rattle.jx_index.specs.Found.{IsFoundBy}
use Rattle.jx_index.specs.declared.pointer.PointerFault.TheVariants.{NoSlash, BadEscape}
use Rattle.jx_index.specs.Leads.{Numbered, kind_of, led}
use Rattle.jx_index.specs.PointerFaults.{IsFaultOf}
use Rattle.jx_index.specs.Pointers.{IsPointer, tokens}
use Rattle.jx_index.specs.Rows.{rows}
use Rattle.jx_c.specs.Rows.{kind_in, shown_span}
use Rattle.jx_c.specs.declared.texts.look_up.JxAnswer.{JxAnswer}
use Rattle.jx_c.specs.declared.texts.look_up.LookUp.{LookUp}
use Rattle.jx_c.specs.declared.texts.look_up.LookUp.TheVariants.{Found, Lost, BadPointer, NotUtf8, NoText}

-- the kind and span of the node to which the pointer's tokens lead in the tree
pub record IsFoundIn (text : List ℕ) (tree : Tree) (pointer : List ℕ) (kind : Kind) (span : Span) : Type 0 where
  pub node : Numbered
  pub leads : led text tree (tokens pointer) ≡ Ok node
  pub kind_is : kind ≡ kind_of node.tree
  pub span_is : span ≡ span_of node.tree

-- in a text with this tree: that kind and span, or why the tokens lead nowhere
abbrev pub IsLed : List ℕ → Tree → List ℕ → LookUp → Type 0
IsLed text tree pointer (Found kind span) = IsFoundIn text tree pointer kind span
IsLed text tree pointer (Lost fault) = led text tree (tokens pointer) ≡ Err fault
IsLed text tree pointer (BadPointer fault) = ⊥
IsLed text tree pointer NotUtf8 = ⊥
IsLed text tree pointer (NoText refused) = ⊥

-- the bytes are a pointer in UTF-8
abbrev pub IsSpelt : List ℕ → Type 0
IsSpelt pointer = IsUtf8 pointer × IsPointer pointer

-- it is the pointer in the bytes, if they are one
abbrev pub IsPointerOf : List ℕ → List ℕ → Type 0
IsPointerOf pointer read = IsSpelt pointer → read ≡ pointer

-- the answer to each pointer in an accepted text
abbrev pub AreFoundBy : Settings → List ℕ → List (List ℕ) → List (Result finder.Found FindFault) → Type 0
AreFoundBy settings text pointers all = AllZip (λ (pointer : List ℕ) (found : Result finder.Found FindFault). IsFoundBy settings text pointer (Ok found)) pointers all

-- in a text by settings: what its tokens lead to, or why they lead nowhere
abbrev pub IsLedBy : Settings → List ℕ → List ℕ → LookUp → Type 0
IsLedBy settings text pointer look_up = (tree : Tree) × IsDocumentBy settings 0 text tree × RefusesName settings.names text (rows tree) None × IsLed text tree pointer look_up

-- in any bytes: the same, or why they are not valid JSON, or first of all why there is no pointer
abbrev pub IsLookUp : Settings → List ℕ → List ℕ → LookUp → Type 0
IsLookUp settings text pointer (Found kind span) = IsSpelt pointer × IsLedBy settings text pointer (Found kind span)
IsLookUp settings text pointer (Lost fault) = IsSpelt pointer × IsLedBy settings text pointer (Lost fault)
IsLookUp settings text pointer (BadPointer fault) = IsUtf8 pointer × IsFaultOf pointer fault
IsLookUp settings text pointer NotUtf8 = IsUtf8 pointer → ⊥
IsLookUp settings text pointer (NoText refusal) = IsSpelt pointer × IsVerdictBy settings text (verdict.Refused refusal)

abbrev pub told : ℕ → ℕ → JxAnswer
told outcome at = record { span = record { start = 0; end = 0 }; at = at; outcome = outcome; kind = 0 }

abbrev pub shown_look_up : LookUp → JxAnswer
shown_look_up (Found kind span) = record { span = shown_span span; at = 0; outcome = 0; kind = kind_in kind }
shown_look_up (Lost (NoSuchMember token)) = told 1 token
shown_look_up (Lost (NameRepeated token)) = told 2 token
shown_look_up (Lost (NotAnIndex token)) = told 3 token
shown_look_up (Lost (PastEnd token)) = told 4 token
shown_look_up (Lost (AfterLast token)) = told 5 token
shown_look_up (Lost (NotAContainer token)) = told 6 token
shown_look_up (BadPointer NoSlash) = told 7 0
shown_look_up (BadPointer (BadEscape at)) = told 8 at
shown_look_up NotUtf8 = told 9 0
shown_look_up (NoText (refusal.Stopped at)) = told 10 at
shown_look_up (NoText refusal.Truncated) = told 11 0
shown_look_up (NoText (refusal.TooDeep at)) = told 12 at
shown_look_up (NoText (refusal.RepeatedName at)) = told 13 at

-- it shows the answer to the pointer
abbrev pub IsAnswerOf : Settings → List ℕ → List ℕ → JxAnswer → Type 0
IsAnswerOf settings text pointer told_as = (look_up : LookUp) × (IsLookUp settings text pointer look_up × (told_as ≡ shown_look_up look_up))
