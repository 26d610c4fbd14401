-- The server that a message makes of another, and the answer to it (Language Server Protocol 3.17, "Lifecycle Messages" and "Text Document
-- Synchronization").
use Rattle.std.specs.Prelude.{◌≡◌, ◌⊎◌, ℕ, ◌+◌, List, [], ◌∷◌, ◌++◌, Bool, true, false, Option, None, Some, IfSome, MatchOption, Vec, drop, is_none, nat_le, take, if◌then◌else◌}
use Rattle.std.specs.Global.{Global}
use Rattle.jx_edit.specs.declared.positions.encoding.Encoding.{Encoding}
use Rattle.jx_edit.specs.declared.positions.encoding.Encoding.TheVariants.{Utf8, Utf16}
use Rattle.jx_index.specs.ByNames.{IsVerdictBy}
use Rattle.jx_run.specs.declared.texts.settings.FrontMark.TheVariants as mark
use Rattle.jx_run.specs.declared.texts.settings.NameRule.TheVariants as names
use Rattle.jx_run.specs.declared.texts.settings.Settings.{Settings}
use Rattle.jx_run.specs.declared.texts.verdict.Verdict.TheVariants.{Accepted}
use Rattle.jx_wire.specs.Messages.{wire_settings, IsFaultOf}
use Rattle.jx_wire.specs.Requests.{IsRefusedFor, IsRequest}
use Rattle.jx_wire.specs.Values.{Says}
use Rattle.jx_wire.specs.declared.call.Call.{Call}
use Rattle.jx_wire.specs.declared.call.Call.TheVariants as call
use Rattle.jx_wire.specs.declared.call.Change.{Change}
use Rattle.jx_wire.specs.declared.call.Content.{Content}
use Rattle.jx_wire.specs.declared.call.Offer.{Offer}
use Rattle.jx_wire.specs.declared.call.Request.{Request}
use Rattle.jx_wire.specs.declared.call.Uri.{Uri}
use Rattle.jx_wire.specs.declared.call.Versioned.{Versioned}
use Rattle.jx_wire.specs.declared.request_fault.RequestFault.{RequestFault}
use Rattle.jx_wire.specs.declared.request_fault.RequestFault.TheVariants as fault
use Rattle.jx_serve.specs.Changes.{changed, held}
use Rattle.jx_serve.specs.Marks.{told, IsPlaced}
use Rattle.jx_serve.specs.Served.{all_lost, number_named, AreAround, AreFolds, AreLinesOn, AreMadeAt, AreSymbols, IsHover, IsVerdictOn, OpenValue, ServerValue}
use Rattle.jx_serve.specs.declared.reply.Code.{Code}
use Rattle.jx_serve.specs.declared.reply.Code.TheVariants.{ParseError, InvalidRequest, MethodNotFound, InvalidParams, NotInitialized}
use Rattle.jx_serve.specs.declared.reply.Reply.{Reply}
use Rattle.jx_serve.specs.declared.reply.Reply.TheVariants.{Nothing, Initialized, Null, Refused, Published, PublishedLines, Closed, Logged}
use Rattle.jx_serve.specs.declared.reply.Trouble.TheVariants.{WrongParameters, NotOpen, Lost, Memory}
use Rattle.jx_serve.specs.declared.server.Phase.{Phase}
use Rattle.jx_serve.specs.declared.server.Phase.TheVariants.{New, Ready, Down, Ended}

-- ---- what a client asks for

-- 512 where it asks for none that there is
abbrev pub depth_asked : Option ℕ → ℕ
depth_asked None = 512
depth_asked (Some depth) = if nat_le depth 65535 then depth else 512

abbrev pub settings_asked : Offer → Settings
settings_asked offer = record {
  depth = depth_asked offer.depth;
  mark = if offer.ignore_bom then mark.Ignored else mark.Refused;
  names = if offer.unique_names then names.Unique else names.Any;
}

-- columns are bytes where the client can count them so
abbrev pub encoding_agreed : Offer → Encoding
encoding_agreed offer = if offer.utf8 then Utf8 else Utf16

-- a server before its first message
abbrev pub start : ServerValue
start = record { phase = New; encoding = Utf16; settings = record { depth = 512; mark = mark.Refused; names = names.Any }; nested = false; documents = [] }

-- ---- what becomes of documents

abbrev pub with_documents : List OpenValue → ServerValue → ServerValue
with_documents documents server = record server { documents = documents }

abbrev pub without_at : Option ℕ → List OpenValue → List OpenValue
without_at None documents = documents
without_at (Some number) documents = take number documents ++ drop (number + 1) documents

-- less the first one of a name
abbrev pub without : List ℕ → List OpenValue → List OpenValue
without name documents = without_at (number_named name documents) documents

-- a document that has the text that was sent
abbrev pub sent : ServerValue → Uri → Content → Change → OpenValue
sent server uri content text = record { name = uri.name.items; spelt = uri.spelt.items; content = content; held = changed server.encoding (held server.settings []) text }

-- the reply that is published of a document, with the version of the message: its verdict and the diagnostic of its refusal, or one for each of its
-- lines that is not valid JSON; or that its bytes are lost, or that it was out of memory
abbrev pub IsToldOf : Encoding → Option (Vec ℕ Global) → OpenValue → Reply → Type 0
IsToldOf e version document (Published uri told_version shown) =
    IsVerdictOn document uri.items (told shown) × (told_version ≡ version) × IfSome shown (IsPlaced e document.held.bytes)
IsToldOf e version document (PublishedLines uri told_version marks) = AreLinesOn e document uri.items marks × (told_version ≡ version)
IsToldOf e version document (Logged Lost) = document.held.lost ≡ true
IsToldOf e version document (Logged Memory) = Unit {0}
IsToldOf e version document _ = ⊥

-- an open document of the same name goes, and the new one is added after the others; out of memory, there is none
abbrev pub IsOpened : Versioned → Content → Change → ServerValue → ServerValue → Reply → Type 0
IsOpened document content text before after reply =
    let rest = without document.uri.name.items before.documents in
    let new = sent before document.uri content text in
    ((after ≡ with_documents (rest ++ new ∷ []) before) × IsToldOf before.encoding document.version new reply)
    ⊎ ((after ≡ with_documents rest before) × (reply ≡ Logged Memory))

-- the document of a number has the changes made, and this is published of it
pub record IsChangedAt (number : ℕ) (version : Option (Vec ℕ Global)) (changes : List Change) (before after : ServerValue) (reply : Reply) : Type 0 where
  pub made : AreMadeAt before.encoding number changes before.documents after.documents
  pub alone : after ≡ with_documents after.documents before
  pub tells : IsToldOf before.encoding version made.now reply

-- the first document of the name, if there is one
abbrev pub IsChanged : Versioned → List Change → ServerValue → ServerValue → Reply → Type 0
IsChanged document changes before after reply =
    MatchOption (number_named document.uri.name.items before.documents) ((after ≡ before) × (reply ≡ Logged NotOpen))
    (λ number. IsChangedAt number document.version changes before after reply)

abbrev pub IsClosed : Uri → ServerValue → ServerValue → Reply → Type 0
IsClosed uri before after reply =
    MatchOption (number_named uri.name.items before.documents) ((after ≡ before) × (reply ≡ Logged NotOpen))
    (λ number. (after ≡ with_documents (without_at (Some number) before.documents) before) × (reply ≡ Closed uri.spelt))

-- ---- requests

-- it is answered by an error, and nothing changes
abbrev pub Refuses : Code → Vec ℕ Global → ServerValue → ServerValue → Reply → Type 0
Refuses code id before after reply = (after ≡ before) × (reply ≡ Refused (Some id) code None)

abbrev pub AnswersNew : Vec ℕ Global → Call → ServerValue → ServerValue → Reply → Type 0
AnswersNew id (call.Initialize offer) before after reply =
    (after ≡ record before { phase = Ready; encoding = encoding_agreed offer; settings = settings_asked offer; nested = offer.nested }) × (reply ≡ Initialized id offer.utf8)
AnswersNew id asked before after reply = Refuses NotInitialized id before after reply

abbrev pub AnswersReady : Vec ℕ Global → Call → ServerValue → ServerValue → Reply → Type 0
AnswersReady id call.Shutdown before after reply = (after ≡ record before { phase = Down }) × (reply ≡ Null id)
AnswersReady id (call.Hover uri place) before after reply = (after ≡ before) × IsHover before uri.name.items place reply
AnswersReady id (call.Symbols uri) before after reply = (after ≡ before) × AreSymbols before uri.name.items reply
AnswersReady id (call.Folds uri) before after reply = (after ≡ before) × AreFolds before uri.name.items reply
AnswersReady id (call.Selection uri places) before after reply = (after ≡ before) × AreAround before uri.name.items places.items reply
AnswersReady id call.WrongParameters before after reply = Refuses InvalidParams id before after reply
AnswersReady id (call.Initialize offer) before after reply = Refuses InvalidRequest id before after reply
AnswersReady id asked before after reply = Refuses MethodNotFound id before after reply

abbrev pub AnswersIn : Phase → Vec ℕ Global → Call → ServerValue → ServerValue → Reply → Type 0
AnswersIn New id asked before after reply = AnswersNew id asked before after reply
AnswersIn Ready id asked before after reply = AnswersReady id asked before after reply
AnswersIn Down id asked before after reply = Refuses InvalidRequest id before after reply
AnswersIn (Ended clean) id asked before after reply = Refuses InvalidRequest id before after reply

-- ---- notifications

abbrev pub Passes : ServerValue → ServerValue → Reply → Type 0
Passes before after reply = (after ≡ before) × (reply ≡ Nothing)

-- the client leaves, as it should after `shutdown` alone
abbrev pub Leaves : Bool → ServerValue → ServerValue → Reply → Type 0
Leaves clean before after reply = (after ≡ record before { phase = Ended clean }) × (reply ≡ Nothing)

abbrev pub LeavesOrPasses : Bool → Call → ServerValue → ServerValue → Reply → Type 0
LeavesOrPasses clean call.Exit before after reply = Leaves clean before after reply
LeavesOrPasses clean asked before after reply = Passes before after reply

abbrev pub FollowsReady : Call → ServerValue → ServerValue → Reply → Type 0
FollowsReady (call.Open document content text) before after reply = IsOpened document content text before after reply
FollowsReady (call.Change document changes) before after reply = IsChanged document changes.items before after reply
FollowsReady (call.Close uri) before after reply = IsClosed uri before after reply
FollowsReady asked before after reply = LeavesOrPasses false asked before after reply

abbrev pub FollowsIn : Phase → Call → ServerValue → ServerValue → Reply → Type 0
FollowsIn New notice before after reply = LeavesOrPasses false notice before after reply
FollowsIn Ready notice before after reply = FollowsReady notice before after reply
FollowsIn Down notice before after reply = LeavesOrPasses true notice before after reply
FollowsIn (Ended clean) notice before after reply = Passes before after reply

-- ---- a message

abbrev pub StepsBy : Option (Vec ℕ Global) → Call → ServerValue → ServerValue → Reply → Type 0
StepsBy (Some id) asked before after reply = AnswersIn before.phase id asked before after reply
StepsBy None notice before after reply = FollowsIn before.phase notice before after reply

abbrev pub Steps : Request → ServerValue → ServerValue → Reply → Type 0
Steps request before after reply = StepsBy request.id request.call before after reply

-- a body that is no request may have been a change, unless it has an id
abbrev pub may_be_a_change : RequestFault → Bool
may_be_a_change (fault.NoText refusal) = true
may_be_a_change (fault.NoRequest id) = is_none id
may_be_a_change (fault.WrongParameters id) = is_none id
may_be_a_change fault.Memory = true

-- then all documents are lost
abbrev pub behind_fault : RequestFault → ServerValue → ServerValue
behind_fault why server = if may_be_a_change why then all_lost server else server

abbrev pub reply_to : RequestFault → Reply
reply_to (fault.NoText refusal) = Refused None ParseError (Some refusal)
reply_to (fault.NoRequest id) = Refused id InvalidRequest None
reply_to (fault.WrongParameters (Some id)) = Refused (Some id) InvalidParams None
reply_to (fault.WrongParameters None) = Logged WrongParameters
reply_to fault.Memory = Logged Memory

-- the server that the body of a frame makes of another, and the reply
pub data Turns (body : List ℕ) (before after : ServerValue) (reply : Reply) : Type 0 where
  by_request : (request : Request) → IsVerdictBy wire_settings body Accepted → Says body (λ at. IsRequest at request) → Steps request before after reply
      → Turns body before after reply
  by_fault : (why : RequestFault) → IsFaultOf body why → Says body (λ at. IsRefusedFor at why) → after ≡ behind_fault why before → reply ≡ reply_to why → Turns body before after reply
