-- The values of a message, by the pointers (RFC 6901) that lead to them in its tree.
use Rattle.std.specs.Prelude.{ℕ, List, Bool, true, false, Option, None, Some, Result, Ok, Err, slice_range}
use Rattle.jx_index.specs.declared.find_fault.FindFault.{FindFault}
use Rattle.jx_index.specs.Leads.{kind_of, led, Numbered}
use Rattle.jx_index.specs.Pointers.{tokens}
use Rattle.jx_lex.specs.declared.kind.Kind.{Kind}
use Rattle.jx_lex.specs.declared.kind.Kind.TheVariants as kind
use Rattle.jx_run.specs.Laws.{span_of}
use Rattle.jx_run.specs.Settings.{IsDocumentBy}
use Rattle.jx_run.specs.Tree.{Tree}
use Rattle.jx_string.specs.Texts.{text_of}
use Rattle.jx_wire.specs.Messages.{wire_settings}
use Rattle.jx_wire.specs.Numbers.{number_of}
use Rattle.jx_wire.specs.declared.message.Value.{Value}

-- the kind of a value, and its bytes
pub record ValueIn : Type 0 where
  pub kind : Kind
  pub bytes : List ℕ

-- the body is a text with this tree
abbrev pub IsBody : List ℕ → Tree → Type 0
IsBody body tree = IsDocumentBy wire_settings 0 body tree

abbrev pub value_of : List ℕ → Tree → ValueIn
value_of body tree = record { kind = kind_of tree; bytes = slice_range body (span_of tree).start (span_of tree).end }

abbrev pub value_in : List ℕ → Result Numbered FindFault → Option ValueIn
value_in body (Ok node) = Some (value_of body node.tree)
value_in body (Err why) = None

-- the value to which a pointer leads in a body with this tree
abbrev pub value_at : List ℕ → Tree → List ℕ → Option ValueIn
value_at body tree pointer = value_in body (led body tree (tokens pointer))

-- the answer of a look-up
abbrev pub seen : Option Value → Option ValueIn
seen None = None
seen (Some value) = Some (record { kind = value.kind; bytes = value.bytes.now })

-- the values of a message, by pointers
abbrev pub Values : Type 0
Values = List ℕ → Option ValueIn

-- the UTF-8 of the characters that a string stands for; none of a string with half of a surrogate pair without the other half
abbrev pub text_by : Kind → List ℕ → Option (List ℕ)
text_by kind.String bytes = text_of bytes
text_by _ bytes = None

-- the number of decimal digits
abbrev pub number_by : Kind → List ℕ → Option ℕ
number_by kind.Number bytes = number_of bytes
number_by _ bytes = None

-- the bytes of a number
abbrev pub number_spelt_by : Kind → List ℕ → Option (List ℕ)
number_spelt_by kind.Number bytes = Some bytes
number_spelt_by _ bytes = None

-- the bytes of an id: a string or a number
abbrev pub id_by : Kind → List ℕ → Option (List ℕ)
id_by kind.String bytes = Some bytes
id_by kind.Number bytes = Some bytes
id_by _ bytes = None

abbrev pub is_true : Kind → Bool
is_true kind.True = true
is_true _ = false

abbrev pub flag_by : Kind → Option Bool
flag_by kind.True = Some true
flag_by kind.False = Some false
flag_by _ = None

-- of each tree that the body has something holds, by the values to which pointers lead
abbrev pub Says : List ℕ → (Values → Type 0) → Type 0
Says body P = (tree : Tree) → IsBody body tree → P (value_at body tree)
