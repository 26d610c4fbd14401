-- Where the tokens of a pointer lead (RFC 6901, section 4).
use Rattle.std.specs.Prelude.{◌≡◌, ℕ, suc, zero, ◌+◌, List, [], ◌∷◌, Option, None, Some, Bool, filter, length, slice_get, Result, Ok, Err}
use Rattle.jx_lex.specs.declared.kind.Kind.{Kind}
use Rattle.jx_lex.specs.declared.kind.Kind.TheVariants as kind
use Rattle.jx_summary.specs.declared.span.Span.{Span}
use Rattle.jx_run.specs.Laws.{span_of}
use Rattle.jx_run.specs.Tree.{Tree, node, Children, no_children, child}
use Rattle.jx_index.specs.declared.array_token.Place.{Place}
use Rattle.jx_index.specs.declared.array_token.Place.TheVariants as place
use Rattle.jx_index.specs.declared.find_fault.FindFault.{FindFault}
use Rattle.jx_index.specs.declared.find_fault.FindFault.TheVariants.{NoSuchMember, NameRepeated, NotAnIndex, PastEnd, AfterLast, NotAContainer}
use Rattle.jx_index.specs.declared.row.Row.{Row}
use Rattle.jx_index.specs.Rows.{size}
use Rattle.jx_index.specs.Names.{is_name}
use Rattle.jx_index.specs.ArrayTokens.{place_in}

-- the one child of that name, where there is exactly one
abbrev pub only : {A : Type 0} → List A → ℕ → Result A FindFault
only [] k = Err (NoSuchMember k)
only (c ∷ []) k = Ok c
only (c ∷ d ∷ more) k = Err (NameRepeated k)

abbrev pub element : {A : Type 0} → List A → ℕ → ℕ → Result A FindFault
element [] i k = Err (PastEnd k)
element (c ∷ more) zero k = Ok c
element (c ∷ more) (suc i) k = element more i k

abbrev pub at_place : {A : Type 0} → Place → List A → ℕ → Result A FindFault
at_place (place.Element i) children k = element children i k
at_place place.PastEnd children k = Err (PastEnd k)
at_place place.AfterLast children k = Err (AfterLast k)
at_place place.NotAnIndex children k = Err (NotAnIndex k)

-- from a value of this kind to one of its children, by the k-th token
abbrev pub one_token : {A : Type 0} → (A → Bool) → List ℕ → Kind → List A → ℕ → Result A FindFault
one_token is_named token kind.Object children k = only (filter is_named children) k
one_token is_named token kind.Array children k = at_place (place_in token (length children)) children k
one_token is_named token _ children k = Err (NotAContainer k)

abbrev pub and_then : {A B : Type 0} → Result A FindFault → (A → Result B FindFault) → Result B FindFault
and_then (Ok x) on = on x
and_then (Err fault) on = Err fault

-- a child with its number
pub record Numbered : Type 0 where
  pub name : Option Span
  pub tree : Tree
  pub number : ℕ

abbrev pub numbered : Children → ℕ → List Numbered
numbered no_children number = []
numbered (child name tree more) number = record { name = name; tree = tree; number = number } ∷ numbered more (number + size tree)

abbrev pub kind_of : Tree → Kind
kind_of (node kind span _) = kind

abbrev pub children_of : Tree → Children
children_of (node kind span children) = children

-- the root has the number 0 and no name
abbrev pub root_of : Tree → Numbered
root_of tree = record { name = None; tree = tree; number = 0 }

-- from a node by the tokens from the k-th on
unfoldable pub led_from : List ℕ → List (List ℕ) → Numbered → ℕ → Result Numbered FindFault
led_from text [] c k = Ok c
led_from text (token ∷ tokens) c k =
    and_then (one_token (λ (d : Numbered). is_name text token d.name) token (kind_of c.tree) (numbered (children_of c.tree) (suc c.number)) k)
    (λ d. led_from text tokens d (suc k))

-- the node that the tokens lead to, or the refusal of the first that leads nowhere
abbrev pub led : List ℕ → Tree → List (List ℕ) → Result Numbered FindFault
led text tree tokens = led_from text tokens (root_of tree) 0

abbrev pub number_of : Result Numbered FindFault → Result ℕ FindFault
number_of (Ok c) = Ok c.number
number_of (Err fault) = Err fault

-- the same by its number
abbrev pub leads : List ℕ → Tree → List (List ℕ) → Result ℕ FindFault
leads text tree tokens = number_of (led text tree tokens)

-- the row at the node's number has the node's kind, span and name
pub record HasRow (table : List Row) (c : Numbered) : Type 0 where
  pub row : Row
  pub is_row : slice_get table c.number ≡ Some row
  pub kind : row.kind ≡ kind_of c.tree
  pub span : row.span ≡ span_of c.tree
  pub name : row.name ≡ c.name
