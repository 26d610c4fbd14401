-- The facts that a server knows of its client, and the replies that it may send to it.
use Rattle.std.specs.Prelude.{◌≡◌, ◌⊎◌, ℕ, List, Bool, Option, None, Some, false, true, fold, map, position, slice_get, slice_set, MatchOption, Vec}
use Rattle.std.specs.Global.{Global}
use Rattle.std.specs.Str.{bytes_eq}
use Rattle.jx_edit.specs.declared.positions.encoding.Encoding.{Encoding}
use Rattle.jx_edit.specs.Positions.{offset_at}
use Rattle.jx_index.specs.ByNames.{IsVerdictBy}
use Rattle.jx_run.specs.declared.texts.settings.Settings.{Settings}
use Rattle.jx_run.specs.declared.texts.verdict.Verdict.{Verdict}
use Rattle.jx_wire.specs.declared.call.Change.{Change}
use Rattle.jx_wire.specs.declared.call.Content.{Content}
use Rattle.jx_wire.specs.declared.call.Content.TheVariants.{Text, Lines}
use Rattle.jx_wire.specs.declared.call.Place.{Place}
use Rattle.jx_serve.specs.Changes.{HeldValue, changed, lose, position as place_of}
use Rattle.jx_serve.specs.LineMarks.{AreLineMarks}
use Rattle.jx_serve.specs.Marks.{told}
use Rattle.jx_serve.specs.Selections.{AreSelections}
use Rattle.jx_serve.specs.Values.{any_names, HasNoHover, IsHoverAt, IsOutline}
use Rattle.jx_complete.specs.Completed.{IsCutInMark}
use Rattle.jx_serve.specs.declared.reply.Code.TheVariants.{RequestFailed}
use Rattle.jx_serve.specs.declared.reply.Reply.{Reply}
use Rattle.jx_serve.specs.declared.line_mark.LineMarks.{LineMarks}
use Rattle.jx_serve.specs.declared.reply.Reply.TheVariants.{Nothing, Initialized, Null, Hovered, Outlined, Folded, Selected, Refused, Published, PublishedLines, Closed, Logged}
use Rattle.jx_serve.specs.declared.server.Phase.{Phase}

-- a document that is open: what its name stands for, how that is written in messages, whether it is one text or lines, and its bytes
pub record OpenValue : Type 0 where
  pub name : List ℕ
  pub spelt : List ℕ
  pub content : Content
  pub held : HeldValue

pub record ServerValue : Type 0 where
  pub phase : Phase
  pub encoding : Encoding
  pub settings : Settings
  -- the client shows symbols in symbols
  pub nested : Bool
  pub documents : List OpenValue

-- the number of the first document of a name
abbrev pub number_named : List ℕ → List OpenValue → Option ℕ
number_named name documents = position (λ (d : OpenValue). bytes_eq d.name name) documents

-- ---- what changes make

-- a document after changes, made in order; when out of memory its bytes are lost
pub record IsFollowed (e : Encoding) (changes : List Change) (before after : OpenValue) : Type 0 where
  pub same_name : after.name ≡ before.name
  pub same_spelling : after.spelt ≡ before.spelt
  pub same_content : after.content ≡ before.content
  pub made : (after.held ≡ fold (changed e) before.held changes) ⊎ (after.held.lost ≡ true)

-- changes of the document of this number, and of no other
pub record AreMadeAt (e : Encoding) (number : ℕ) (changes : List Change) (before after : List OpenValue) : Type 0 where
  pub document : OpenValue
  pub now : OpenValue
  pub was : slice_get before number ≡ Some document
  pub followed : IsFollowed e changes document now
  pub others : after ≡ slice_set before number now

-- changes of the first document of a name, if there is one
abbrev pub AreMade : Encoding → List ℕ → List Change → List OpenValue → List OpenValue → Type 0
AreMade e name changes before after =
    MatchOption (number_named name before) (after ≡ before) (λ number. AreMadeAt e number changes before after)

-- its bytes are lost
abbrev pub lost_open : OpenValue → OpenValue
lost_open document = record document { held = lose document.held }

abbrev pub all_lost : ServerValue → ServerValue
all_lost server = record server { documents = map lost_open server.documents }

-- ---- what is published

-- the document is one text, and has this verdict on exactly its bytes, by its settings; its name is written so, and its bytes are not lost
pub record IsVerdictOn (document : OpenValue) (uri : List ℕ) (verdict : Verdict) : Type 0 where
  pub is_spelt : document.spelt ≡ uri
  pub is_known : document.held.lost ≡ false
  pub is_text : document.content ≡ Text
  pub is_verdict : IsVerdictBy document.held.settings document.held.bytes verdict

-- the document is JSON Lines, and these are the diagnostics of its lines, by its settings; its name is written so, and its
-- bytes are not lost
pub record AreLinesOn (e : Encoding) (document : OpenValue) (uri : List ℕ) (marks : LineMarks) : Type 0 where
  pub is_spelt : document.spelt ≡ uri
  pub is_known : document.held.lost ≡ false
  pub has_lines : document.content ≡ Lines
  pub are_marks : AreLineMarks e document.held.settings document.held.bytes marks

-- the published verdict is that on this document, or on its lines
abbrev pub TellsOf : Encoding → OpenValue → Reply → Type 0
TellsOf e document (Published uri version mark) = IsVerdictOn document uri.items (told mark)
TellsOf e document (PublishedLines uri version marks) = AreLinesOn e document uri.items marks
TellsOf e document _ = Unit {0}

-- the published verdict is that on a document that is open, or on its lines
pub record Tells (server : ServerValue) (reply : Reply) : Type 0 where
  pub number : ℕ
  pub document : OpenValue
  pub is_open : slice_get server.documents number ≡ Some document
  pub tells : TellsOf server.encoding document reply

-- it publishes nothing
abbrev pub IsQuiet : Reply → Type 0
IsQuiet (Published uri version mark) = ⊥
IsQuiet (PublishedLines uri version marks) = ⊥
IsQuiet _ = Unit {0}

abbrev pub TellsVerdict : ServerValue → Reply → Type 0
TellsVerdict server reply = IsQuiet reply ⊎ Tells server reply

-- the published verdict has this version
abbrev pub HasVersion : Option (Vec ℕ Global) → Reply → Type 0
HasVersion version (Published uri told mark) = told ≡ version
HasVersion version (PublishedLines uri told marks) = told ≡ version
HasVersion version _ = Unit {0}

-- ---- what is answered

-- a request is answered once, with its id, and a notification never
abbrev pub IsAnswer : Option (Vec ℕ Global) → Reply → Type 0
IsAnswer (Some id) (Initialized other utf8) = other ≡ id
IsAnswer (Some id) (Null other) = other ≡ id
IsAnswer (Some id) (Hovered other hover) = other ≡ id
IsAnswer (Some id) (Outlined other uri nested outline) = other ≡ id
IsAnswer (Some id) (Folded other outline) = other ≡ id
IsAnswer (Some id) (Selected other selections) = other ≡ id
IsAnswer (Some id) (Refused other code refusal) = other ≡ Some id
IsAnswer (Some id) _ = ⊥
IsAnswer None Nothing = Unit {0}
IsAnswer None (Published uri version mark) = Unit {0}
IsAnswer None (PublishedLines uri version marks) = Unit {0}
IsAnswer None (Closed uri) = Unit {0}
IsAnswer None (Logged trouble) = Unit {0}
IsAnswer None _ = ⊥

-- ---- what is shown

-- the document of a number is there, and something holds of it
pub record IsOf (documents : List OpenValue) (number : ℕ) (P : OpenValue → Type 0) : Type 0 where
  pub document : OpenValue
  pub is_open : slice_get documents number ≡ Some document
  pub it_holds : P document

abbrev pub IsNull : Reply → Type 0
IsNull (Null id) = Unit {0}
IsNull _ = ⊥

-- the value at a place of a document, or null where it is JSON Lines, its bytes are lost, or no value is there before the fault, or that
-- it was out of memory
abbrev pub IsHoverIn : Encoding → Place → Reply → OpenValue → Type 0
IsHoverIn e place (Hovered id hover) document =
    (document.content ≡ Text) × (document.held.lost ≡ false) × IsHoverAt e document.held.settings document.held.bytes (offset_at e document.held.bytes (place_of place)) hover
IsHoverIn e place (Null id) document =
    (document.content ≡ Lines) ⊎ ((document.held.lost ≡ true) ⊎ HasNoHover document.held.settings document.held.bytes (offset_at e document.held.bytes (place_of place)))
IsHoverIn e place (Refused id code refusal) document = code ≡ RequestFailed
IsHoverIn e place _ document = ⊥

-- the first values of a document, or null where it is JSON Lines, or its bytes are lost or have no value before the fault, or that memory
-- was refused
abbrev pub IsOutlineIn : Encoding → Bool → Reply → OpenValue → Type 0
IsOutlineIn e inside (Outlined id uri nested outline) document =
    (uri.items ≡ document.spelt) × (nested ≡ inside) × (document.content ≡ Text) × (document.held.lost ≡ false) × IsOutline e document.held.settings document.held.bytes outline
IsOutlineIn e inside (Null id) document = (document.content ≡ Lines) ⊎ ((document.held.lost ≡ true) ⊎ IsCutInMark (any_names document.held.settings) document.held.bytes)
IsOutlineIn e inside (Refused id code refusal) document = code ≡ RequestFailed
IsOutlineIn e inside _ document = ⊥

-- the same to fold
abbrev pub AreFoldsIn : Encoding → Reply → OpenValue → Type 0
AreFoldsIn e (Folded id outline) document = (document.content ≡ Text) × (document.held.lost ≡ false) × IsOutline e document.held.settings document.held.bytes outline
AreFoldsIn e (Null id) document = (document.content ≡ Lines) ⊎ ((document.held.lost ≡ true) ⊎ IsCutInMark (any_names document.held.settings) document.held.bytes)
AreFoldsIn e (Refused id code refusal) document = code ≡ RequestFailed
AreFoldsIn e _ document = ⊥

-- the values around places of a document, or null where it is JSON Lines, or its bytes are lost or have no value before the fault; or the
-- answer that it was out of memory
abbrev pub AreAroundIn : Encoding → List Place → Reply → OpenValue → Type 0
AreAroundIn e places (Selected id selections) document =
    (document.content ≡ Text) × (document.held.lost ≡ false) × AreSelections e document.held.settings document.held.bytes places selections.items
AreAroundIn e places (Null id) document = (document.content ≡ Lines) ⊎ ((document.held.lost ≡ true) ⊎ IsCutInMark (any_names document.held.settings) document.held.bytes)
AreAroundIn e places (Refused id code refusal) document = code ≡ RequestFailed
AreAroundIn e places _ document = ⊥

-- the answer on the first document of a name; null where there is none
abbrev pub IsHover : ServerValue → List ℕ → Place → Reply → Type 0
IsHover server name place reply =
    MatchOption (number_named name server.documents) (IsNull reply) (λ number. IsOf server.documents number (IsHoverIn server.encoding place reply))

abbrev pub AreSymbols : ServerValue → List ℕ → Reply → Type 0
AreSymbols server name reply =
    MatchOption (number_named name server.documents) (IsNull reply) (λ number. IsOf server.documents number (IsOutlineIn server.encoding server.nested reply))

abbrev pub AreFolds : ServerValue → List ℕ → Reply → Type 0
AreFolds server name reply =
    MatchOption (number_named name server.documents) (IsNull reply) (λ number. IsOf server.documents number (AreFoldsIn server.encoding reply))

abbrev pub AreAround : ServerValue → List ℕ → List Place → Reply → Type 0
AreAround server name places reply =
    MatchOption (number_named name server.documents) (IsNull reply) (λ number. IsOf server.documents number (AreAroundIn server.encoding places reply))
