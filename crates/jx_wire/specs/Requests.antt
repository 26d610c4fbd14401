-- The call in the body of a message, by the values to which pointers (RFC 6901) lead in its tree: JSON-RPC 2.0, section 4, and the Language Server
-- Protocol 3.17.
use Rattle.std.specs.Prelude.{◌≡◌, ◌≢◌, ◌≤◌, ◌||◌, ℕ, ◌+◌, ◌-◌, List, [], ◌∷◌, ◌++◌, Bool, true, false, Option, None, Some, Vec, codes, decimal, drop, if◌then◌else◌, length}
use Rattle.std.specs.Global.{Global}
use Rattle.std.specs.Str.{bytes_eq}
use Rattle.jx_lex.specs.declared.kind.Kind.{Kind}
use Rattle.jx_lex.specs.declared.kind.Kind.TheVariants as kind
use Rattle.jx_wire.specs.Values.{flag_by, id_by, is_true, number_by, number_spelt_by, text_by, ValueIn, Values}
use Rattle.jx_wire.specs.declared.call.Call.{Call}
use Rattle.jx_wire.specs.declared.call.Call.TheVariants as call
use Rattle.jx_wire.specs.declared.call.Change.{Change}
use Rattle.jx_wire.specs.declared.call.Change.TheVariants.{Whole, Range, Unknown}
use Rattle.jx_wire.specs.declared.call.Content.{Content}
use Rattle.jx_wire.specs.declared.call.Content.TheVariants as content
use Rattle.jx_wire.specs.declared.call.Offer.{Offer}
use Rattle.jx_wire.specs.declared.call.Place.{Place}
use Rattle.jx_wire.specs.declared.call.Request.{Request}
use Rattle.jx_wire.specs.declared.call.Uri.{Uri}
use Rattle.jx_wire.specs.declared.call.Versioned.{Versioned}
use Rattle.jx_wire.specs.declared.method.Method.{Method}
use Rattle.jx_wire.specs.declared.method.Method.TheVariants as method
use Rattle.jx_wire.specs.declared.request_fault.RequestFault.{RequestFault}
use Rattle.jx_wire.specs.declared.request_fault.RequestFault.TheVariants as fault

-- ---- values, which may be missing

abbrev pub spelling_in : Option ValueIn → Option (List ℕ)
spelling_in None = None
spelling_in (Some value) = Some value.bytes

-- the UTF-8 of the characters that a string stands for
abbrev pub text_in : Option ValueIn → Option (List ℕ)
text_in None = None
text_in (Some value) = text_by value.kind value.bytes

-- the number of decimal digits
abbrev pub number_in : Option ValueIn → Option ℕ
number_in None = None
number_in (Some value) = number_by value.kind value.bytes

-- the bytes of a number
abbrev pub number_spelt : Option ValueIn → Option (List ℕ)
number_spelt None = None
number_spelt (Some value) = number_spelt_by value.kind value.bytes

-- whether a setting is on. One that is missing is off
abbrev pub flag_in : Option ValueIn → Option Bool
flag_in None = Some false
flag_in (Some value) = flag_by value.kind

-- whether a capability is true
abbrev pub is_true_in : Option ValueIn → Bool
is_true_in None = false
is_true_in (Some value) = is_true value.kind

-- the bytes of an id
abbrev pub id_in : Option ValueIn → Option (List ℕ)
id_in None = None
id_in (Some value) = id_by value.kind value.bytes

abbrev pub IsOfKind : Kind → Option ValueIn → Type 0
IsOfKind k None = ⊥
IsOfKind k (Some value) = value.kind ≡ k

abbrev pub items_in : Option (Vec ℕ Global) → Option (List ℕ)
items_in None = None
items_in (Some bytes) = Some bytes.items

-- the elements of a list, each of which is read in its own way, from the one of a number on, in order
abbrev pub AreListed : {T : Type 0} → (Values → List ℕ → T → Type 0) → Values → (ℕ → List ℕ) → ℕ → List T → Type 0
AreListed Is at pointer number [] = at (pointer number) ≡ None
AreListed Is at pointer number (one ∷ others) = (at (pointer number) ≢ None) × Is at (pointer number) one × AreListed Is at pointer (number + 1) others

-- ---- documents and places

pub record IsUri (at : Values) (uri : Uri) : Type 0 where
  pub name : text_in (at (codes "/params/textDocument/uri")) ≡ Some uri.name.items
  pub spelt : spelling_in (at (codes "/params/textDocument/uri")) ≡ Some uri.spelt.items

-- a version that is no number is as none
pub record IsVersioned (at : Values) (document : Versioned) : Type 0 where
  pub uri : IsUri at document.uri
  pub version : number_spelt (at (codes "/params/textDocument/version")) ≡ items_in document.version

-- a language of JSON Lines, as editors name it
abbrev pub is_of_lines : List ℕ → Bool
is_of_lines language = bytes_eq language (codes "jsonl") || bytes_eq language (codes "ndjson") || bytes_eq language (codes "jsonlines")

-- false of a language that is missing, or no string
abbrev pub has_lines : Option (List ℕ) → Bool
has_lines None = false
has_lines (Some language) = is_of_lines language

abbrev pub ends_in : List ℕ → List ℕ → Bool
ends_in ending name = bytes_eq (drop (length name - length ending) name) ending

-- the content of a document by its language, and by the ending of its name, for any language
abbrev pub content_by : Option (List ℕ) → List ℕ → Content
content_by language name = if has_lines language || ends_in (codes ".jsonl") name || ends_in (codes ".ndjson") name then content.Lines else content.Text

abbrev pub HasContent : Values → Uri → Content → Type 0
HasContent at uri what = content_by (text_in (at (codes "/params/textDocument/languageId"))) uri.name.items ≡ what

-- the place that a pointer leads to
pub record IsPlace (at : Values) (pointer : List ℕ) (place : Place) : Type 0 where
  pub line : number_in (at (pointer ++ codes "/line")) ≡ Some place.line
  pub character : number_in (at (pointer ++ codes "/character")) ≡ Some place.character

abbrev pub position_pointer : ℕ → List ℕ
position_pointer number = codes "/params/positions/" ++ decimal number

-- the places of a message, each of them, in order
pub record ArePlaces (at : Values) (places : List Place) : Type 0 where
  pub list : IsOfKind kind.Array (at (codes "/params/positions"))
  pub each : AreListed IsPlace at position_pointer 0 places

-- ---- changes

-- a text that stands in the place of all bytes; which it is is not known where a string has half of a surrogate pair
abbrev pub IsWhole : Option ValueIn → Change → Type 0
IsWhole value (Whole text) = text_in value ≡ Some text.items
IsWhole value Unknown = IsOfKind kind.String value × (text_in value ≡ None)
IsWhole value (Range start end text) = ⊥

-- the places between which a change stands
pub record IsBetween (at : Values) (pointer : List ℕ) (start end : Place) : Type 0 where
  pub from : IsPlace at (pointer ++ codes "/range/start") start
  pub to : IsPlace at (pointer ++ codes "/range/end") end

-- a text that stands in the place of the bytes of a range
abbrev pub IsRange : Values → List ℕ → Change → Type 0
IsRange at pointer (Range start end text) = (text_in (at (pointer ++ codes "/text")) ≡ Some text.items) × IsBetween at pointer start end
IsRange at pointer Unknown = IsWhole (at (pointer ++ codes "/text")) Unknown × (start : Place) × (end : Place) × IsBetween at pointer start end
IsRange at pointer (Whole text) = ⊥

-- the change that a pointer leads to: of all bytes where it has no range
pub data IsChange (at : Values) (pointer : List ℕ) (change : Change) : Type 0 where
  of_all : at (pointer ++ codes "/range") ≡ None → IsWhole (at (pointer ++ codes "/text")) change → IsChange at pointer change
  of_range : at (pointer ++ codes "/range") ≢ None → IsRange at pointer change → IsChange at pointer change

abbrev pub change_pointer : ℕ → List ℕ
change_pointer number = codes "/params/contentChanges/" ++ decimal number

-- the changes of a message, each of them, in order
pub record AreChanges (at : Values) (changes : List Change) : Type 0 where
  pub list : IsOfKind kind.Array (at (codes "/params/contentChanges"))
  pub each : AreListed IsChange at change_pointer 0 changes

-- ---- what a client asks for

abbrev pub encoding_pointer : ℕ → List ℕ
encoding_pointer number = codes "/params/capabilities/general/positionEncodings/" ++ decimal number

-- whether "utf-8" is among the encodings from one of them on
pub data Offers (at : Values) : ℕ → Bool → Type 0 where
  no_more : {number : ℕ} → at (encoding_pointer number) ≡ None → Offers at number false
  this_one : {number : ℕ} → text_in (at (encoding_pointer number)) ≡ Some (codes "utf-8") → Offers at number true
  another : {number : ℕ} {utf8 : Bool} → at (encoding_pointer number) ≢ None → text_in (at (encoding_pointer number)) ≢ Some (codes "utf-8")
      → Offers at (number + 1) utf8 → Offers at number utf8

-- the depth that is asked for, at most 65,535
abbrev pub IsDepth : Option ValueIn → Option ℕ → Type 0
IsDepth None depth = depth ≡ None
IsDepth (Some value) None = ⊥
IsDepth (Some value) (Some depth) = (number_by value.kind value.bytes ≡ Some depth) × (depth ≤ 65535)

pub record IsOffer (at : Values) (offer : Offer) : Type 0 where
  pub utf8 : Offers at 0 offer.utf8
  pub depth : IsDepth (at (codes "/params/initializationOptions/depth")) offer.depth
  pub ignore_bom : flag_in (at (codes "/params/initializationOptions/ignoreBom")) ≡ Some offer.ignore_bom
  pub unique_names : flag_in (at (codes "/params/initializationOptions/uniqueNames")) ≡ Some offer.unique_names
  pub nested : is_true_in (at (codes "/params/capabilities/textDocument/documentSymbol/hierarchicalDocumentSymbolSupport")) ≡ offer.nested

-- ---- methods

abbrev pub method_of : List ℕ → Method
method_of name =
    if bytes_eq name (codes "initialize") then method.Initialize else
    if bytes_eq name (codes "shutdown") then method.Shutdown else
    if bytes_eq name (codes "exit") then method.Exit else
    if bytes_eq name (codes "textDocument/didOpen") then method.Open else
    if bytes_eq name (codes "textDocument/didChange") then method.Change else
    if bytes_eq name (codes "textDocument/didClose") then method.Close else
    if bytes_eq name (codes "textDocument/hover") then method.Hover else
    if bytes_eq name (codes "textDocument/documentSymbol") then method.Symbols else
    if bytes_eq name (codes "textDocument/foldingRange") then method.Folds else
    if bytes_eq name (codes "textDocument/selectionRange") then method.Selection else
    method.Other

-- ---- requests

abbrev pub AsksToBegin : Values → Call → Type 0
AsksToBegin at (call.Initialize offer) = IsOffer at offer
AsksToBegin at _ = ⊥

pub record IsHover (at : Values) (uri : Uri) (place : Place) : Type 0 where
  pub of : IsUri at uri
  pub there : IsPlace at (codes "/params/position") place

-- with wrong parameters where they are of no document and place
abbrev pub AsksForHover : Values → Call → Type 0
AsksForHover at (call.Hover uri place) = IsHover at uri place
AsksForHover at call.WrongParameters = (uri : Uri) (place : Place) → IsHover at uri place → ⊥
AsksForHover at _ = ⊥

abbrev pub AsksForSymbols : Values → Call → Type 0
AsksForSymbols at (call.Symbols uri) = IsUri at uri
AsksForSymbols at call.WrongParameters = (uri : Uri) → IsUri at uri → ⊥
AsksForSymbols at _ = ⊥

abbrev pub AsksForFolds : Values → Call → Type 0
AsksForFolds at (call.Folds uri) = IsUri at uri
AsksForFolds at call.WrongParameters = (uri : Uri) → IsUri at uri → ⊥
AsksForFolds at _ = ⊥

pub record IsSelection (at : Values) (uri : Uri) (places : List Place) : Type 0 where
  pub of : IsUri at uri
  pub there : ArePlaces at places

abbrev pub AsksForSelection : Values → Call → Type 0
AsksForSelection at (call.Selection uri places) = IsSelection at uri places.items
AsksForSelection at call.WrongParameters = (uri : Uri) (places : List Place) → IsSelection at uri places → ⊥
AsksForSelection at _ = ⊥

-- the call of a request of a method. No method of a notification can be answered
abbrev pub AsksFor : Values → Method → Call → Type 0
AsksFor at method.Initialize asked = AsksToBegin at asked
AsksFor at method.Shutdown asked = asked ≡ call.Shutdown
AsksFor at method.Hover asked = AsksForHover at asked
AsksFor at method.Symbols asked = AsksForSymbols at asked
AsksFor at method.Folds asked = AsksForFolds at asked
AsksFor at method.Selection asked = AsksForSelection at asked
AsksFor at _ asked = asked ≡ call.Other

-- ---- notifications

abbrev pub TellsOpen : Values → Call → Type 0
TellsOpen at (call.Open document what text) =
    IsVersioned at document × HasContent at document.uri what × IsWhole (at (codes "/params/textDocument/text")) text
TellsOpen at _ = ⊥

abbrev pub TellsChange : Values → Call → Type 0
TellsChange at (call.Change document changes) = IsVersioned at document × AreChanges at changes.items
TellsChange at _ = ⊥

abbrev pub TellsClose : Values → Call → Type 0
TellsClose at (call.Close uri) = IsUri at uri
TellsClose at _ = ⊥

-- the call of a notification of a method
abbrev pub TellsOf : Values → Method → Call → Type 0
TellsOf at method.Exit told = told ≡ call.Exit
TellsOf at method.Open told = TellsOpen at told
TellsOf at method.Change told = TellsChange at told
TellsOf at method.Close told = TellsClose at told
TellsOf at _ told = told ≡ call.Other

-- ---- messages

-- a request has an id, a string or a number; a notification has none
abbrev pub IsId : Option ValueIn → Option (Vec ℕ Global) → Type 0
IsId value id = (items_in id ≡ id_in value) × (id ≡ None → value ≡ None)

-- it is of JSON-RPC 2.0, and has a method of this name
pub record IsNamed (at : Values) (name : List ℕ) : Type 0 where
  pub version : text_in (at (codes "/jsonrpc")) ≡ Some (codes "2.0")
  pub method : text_in (at (codes "/method")) ≡ Some name

pub record IsMessage (at : Values) (id : Option (Vec ℕ Global)) (name : List ℕ) : Type 0 where
  pub named : IsNamed at name
  pub marked : IsId (at (codes "/id")) id

-- one with an id is a request, one without is a notification
abbrev pub CallsFor : Values → List ℕ → Option (Vec ℕ Global) → Call → Type 0
CallsFor at name (Some id) asked = AsksFor at (method_of name) asked
CallsFor at name None told = TellsOf at (method_of name) told

pub record IsRequest (at : Values) (request : Request) : Type 0 where
  pub name : List ℕ
  pub message : IsMessage at request.id name
  pub calls : CallsFor at name request.id request.call

-- ---- what is refused

-- no message; it has this id where an id can be read
pub record IsNoMessage (at : Values) (told : Option (Vec ℕ Global)) : Type 0 where
  pub marked : items_in told ≡ id_in (at (codes "/id"))
  pub none : (id : Option (Vec ℕ Global)) (name : List ℕ) → IsMessage at id name → ⊥

-- a message that calls for nothing, since parameters of its method are missing or of a wrong kind
pub record HasWrongParameters (at : Values) (id : Option (Vec ℕ Global)) : Type 0 where
  pub name : List ℕ
  pub message : IsMessage at id name
  pub none : (c : Call) → CallsFor at name id c → ⊥

abbrev pub IsRefusedFor : Values → RequestFault → Type 0
IsRefusedFor at (fault.NoRequest id) = IsNoMessage at id
IsRefusedFor at (fault.WrongParameters id) = HasWrongParameters at id
IsRefusedFor at (fault.NoText refusal) = Unit {0}
IsRefusedFor at fault.Memory = Unit {0}
