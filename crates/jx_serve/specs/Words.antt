-- How replies are written as messages (JSON-RPC 2.0; Language Server Protocol 3.17, "PublishDiagnostics Notification" and "LogMessage
-- Notification"). Ids, versions and the names of documents are written as the client wrote them.
use Rattle.std.specs.Prelude.{◌≡◌, ℕ, ◌==◌, List, [], ◌∷◌, ◌++◌, Bool, false, true, Option, None, Some, Vec, codes, decimal, if◌then◌else◌}
use Rattle.std.specs.Global.{Global}
use Rattle.std.specs.List.{concat, flat_map}
use Rattle.jx_edit.specs.declared.positions.position.Position.{Position}
use Rattle.jx_ndjson.specs.declared.judged_line.LineVerdict.{LineVerdict}
use Rattle.jx_ndjson.specs.declared.judged_line.LineVerdict.TheVariants as on_line
use Rattle.jx_run.specs.declared.texts.verdict.Refusal.{Refusal}
use Rattle.jx_run.specs.declared.texts.verdict.Refusal.TheVariants.{Stopped, Truncated, TooDeep, RepeatedName}
use Rattle.jx_serve.specs.declared.line_mark.LineMark.{LineMark}
use Rattle.jx_serve.specs.declared.line_mark.LineMarks.{LineMarks}
use Rattle.jx_serve.specs.declared.mark.Mark.{Mark}
use Rattle.jx_serve.specs.declared.reply.Code.{Code}
use Rattle.jx_serve.specs.declared.reply.Code.TheVariants as wrong
use Rattle.jx_serve.specs.declared.reply.Reply.{Reply}
use Rattle.jx_serve.specs.declared.reply.Reply.TheVariants.{Nothing, Initialized, Null, Hovered, Outlined, Folded, Selected, Refused, Published, PublishedLines, Closed, Logged}
use Rattle.jx_serve.specs.declared.reply.Trouble.{Trouble}
use Rattle.jx_serve.specs.declared.reply.Trouble.TheVariants as trouble

-- ---- words

abbrev pub number_of_code : Code → List ℕ
number_of_code wrong.ParseError = codes "-32700"
number_of_code wrong.InvalidRequest = codes "-32600"
number_of_code wrong.MethodNotFound = codes "-32601"
number_of_code wrong.InvalidParams = codes "-32602"
number_of_code wrong.NotInitialized = codes "-32002"
number_of_code wrong.RequestFailed = codes "-32803"

abbrev pub words_of_code : Code → List ℕ
words_of_code wrong.ParseError = codes "no JSON text, or no frame"
words_of_code wrong.InvalidRequest = codes "no request, or none at this time"
words_of_code wrong.MethodNotFound = codes "method not known"
words_of_code wrong.InvalidParams = codes "parameters missing or of a wrong kind"
words_of_code wrong.NotInitialized = codes "not initialized"
words_of_code wrong.RequestFailed = codes "out of memory"

abbrev pub words_of_trouble : Trouble → List ℕ
words_of_trouble trouble.WrongParameters = codes "jx: parameters missing or of a wrong kind"
words_of_trouble trouble.NotOpen = codes "jx: document not open"
words_of_trouble trouble.Lost = codes "jx: document lost until its whole text is sent"
words_of_trouble trouble.Memory = codes "jx: out of memory"

abbrev pub word_of_refusal : Refusal → List ℕ
word_of_refusal (Stopped at) = codes "stopped"
word_of_refusal Truncated = codes "truncated"
word_of_refusal (TooDeep at) = codes "too deep"
word_of_refusal (RepeatedName at) = codes "repeated name"

-- the words that `jx check` prints
abbrev pub words_of_refusal : Refusal → List ℕ
words_of_refusal (Stopped at) = codes "stopped" ++ codes " at " ++ decimal at
words_of_refusal Truncated = codes "truncated"
words_of_refusal (TooDeep at) = codes "too deep" ++ codes " at " ++ decimal at
words_of_refusal (RepeatedName at) = codes "repeated name" ++ codes " at " ++ decimal at

-- ---- answers

abbrev pub encoding_member : Bool → List ℕ
encoding_member true = codes "\"positionEncoding\":\"utf-8\","
encoding_member false = []

abbrev pub initialized : List ℕ → Bool → List ℕ
initialized id utf8 = concat (
    codes "{\"jsonrpc\":\"2.0\",\"id\":" ∷ id ∷ codes ",\"result\":{\"capabilities\":{" ∷ encoding_member utf8
    ∷ codes "\"textDocumentSync\":{\"openClose\":true,\"change\":2},\"hoverProvider\":true,\"documentSymbolProvider\":true,\"foldingRangeProvider\":true,\"selectionRangeProvider\":true},"
    ∷ codes "\"serverInfo\":{\"name\":\"jx-lsp\",\"version\":\"" ∷ codes "0.3.0" ∷ codes "\"}}}" ∷ []
    )

abbrev pub null_of : List ℕ → List ℕ
null_of id = codes "{\"jsonrpc\":\"2.0\",\"id\":" ++ id ++ codes ",\"result\":null}"

-- one that was not read is `null`
abbrev pub words_of_id : Option (Vec ℕ Global) → List ℕ
words_of_id None = codes "null"
words_of_id (Some id) = id.items

abbrev pub data_member : Option Refusal → List ℕ
data_member None = []
data_member (Some refusal) = concat (codes ",\"data\":\"" ∷ words_of_refusal refusal ∷ codes "\"" ∷ [])

abbrev pub error_member : Code → List ℕ
error_member code = concat (codes ",\"error\":{\"code\":" ∷ number_of_code code ∷ codes ",\"message\":\"" ∷ words_of_code code ∷ codes "\"" ∷ [])

abbrev pub refused : Option (Vec ℕ Global) → Code → Option Refusal → List ℕ
refused id code refusal = codes "{\"jsonrpc\":\"2.0\",\"id\":" ++ words_of_id id ++ error_member code ++ data_member refusal ++ codes "}}"

-- ---- diagnostics

abbrev pub position : Position → List ℕ
position p = codes "{\"line\":" ++ decimal p.line ++ codes ",\"character\":" ++ decimal p.character ++ codes "}"

abbrev pub ends : Position → Position → List ℕ
ends start end = codes "{\"start\":" ++ position start ++ codes ",\"end\":" ++ position end ++ codes "}"

abbrev pub range : Position → Position → List ℕ
range start end = codes "\"range\":" ++ ends start end

-- after the sentence of a diagnostic
abbrev pub words_of_place : Refusal → List ℕ
words_of_place (Stopped at) = codes " (byte " ++ decimal at ++ codes ")"
words_of_place Truncated = []
words_of_place (TooDeep at) = codes " (byte " ++ decimal at ++ codes ")"
words_of_place (RepeatedName at) = codes " (byte " ++ decimal at ++ codes ")"

-- a range, the word for what is wrong there, its sentence, and the place that follows it
abbrev pub told_at : Position → Position → List ℕ → List ℕ → List ℕ → List ℕ
told_at start end word sentence place =
    codes "{" ++ range start end ++ concat (codes ",\"severity\":1,\"code\":\"" ∷ word ∷ codes "\",\"source\":\"jx\",\"message\":\"" ∷ [])
    ++ sentence ++ place ++ codes "\"}"

abbrev pub diagnostic : Mark → List ℕ
diagnostic mark = told_at mark.start mark.end (word_of_refusal mark.refusal) mark.sentence.items (words_of_place mark.refusal)

-- none where the text is accepted
abbrev pub diagnostics : Option Mark → List ℕ
diagnostics None = []
diagnostics (Some mark) = diagnostic mark

-- the words that `jx lines` prints of a line
abbrev pub word_of_line : LineVerdict → List ℕ
word_of_line on_line.Accepted = codes "accepted"
word_of_line (on_line.Refused refusal) = word_of_refusal refusal
word_of_line on_line.MayBeCut = codes "may be cut"
word_of_line on_line.Blank = codes "blank"

abbrev pub words_of_line_place : LineVerdict → List ℕ
words_of_line_place on_line.Accepted = []
words_of_line_place (on_line.Refused refusal) = words_of_place refusal
words_of_line_place on_line.MayBeCut = []
words_of_line_place on_line.Blank = []

abbrev pub line_diagnostic : LineMark → List ℕ
line_diagnostic mark = told_at mark.start mark.end (word_of_line mark.line.verdict) mark.sentence.items (words_of_line_place mark.line.verdict)

abbrev pub next_diagnostic : LineMark → List ℕ
next_diagnostic mark = codes "," ++ line_diagnostic mark

abbrev pub words_of_more : ℕ → List ℕ
words_of_more more = codes "more lines that are no JSON texts: " ++ decimal more

-- how many more lines there are, at the first one
abbrev pub more_diagnostic : LineMark → ℕ → List ℕ
more_diagnostic mark more =
    if more == 0 then [] else (codes "," ++ told_at mark.start mark.end (codes "more") (words_of_more more) [])

-- one for each, in order, and one for all others
abbrev pub line_diagnostics : List LineMark → ℕ → List ℕ
line_diagnostics [] more = []
line_diagnostics (mark ∷ marks) more = line_diagnostic mark ++ flat_map next_diagnostic marks ++ more_diagnostic mark more

abbrev pub version_member : Option (Vec ℕ Global) → List ℕ
version_member None = []
version_member (Some version) = concat (codes ",\"version\":" ∷ version.items ∷ [])

-- the message up to the first diagnostic
abbrev pub opening : List ℕ → Option (Vec ℕ Global) → List ℕ
opening uri version =
    concat (codes "{\"jsonrpc\":\"2.0\",\"method\":\"textDocument/publishDiagnostics\",\"params\":{\"uri\":" ∷ uri ∷ []) ++ version_member version
    ++ codes ",\"diagnostics\":["

abbrev pub published : List ℕ → Option (Vec ℕ Global) → Option Mark → List ℕ
published uri version mark = opening uri version ++ diagnostics mark ++ codes "]}}"

abbrev pub published_lines : List ℕ → Option (Vec ℕ Global) → LineMarks → List ℕ
published_lines uri version marks = opening uri version ++ line_diagnostics marks.marks.items marks.more ++ codes "]}}"

abbrev pub logged : Trouble → List ℕ
logged why = codes "{\"jsonrpc\":\"2.0\",\"method\":\"window/logMessage\",\"params\":{\"type\":2,\"message\":\"" ++ words_of_trouble why ++ codes "\"}}"

-- ---- messages

-- the message of a reply; how values are shown is left open
abbrev pub IsMessageOf : Reply → List ℕ → Type 0
IsMessageOf Nothing message = message ≡ []
IsMessageOf (Initialized id utf8) message = message ≡ initialized id.items utf8
IsMessageOf (Null id) message = message ≡ null_of id.items
IsMessageOf (Hovered id hover) message = Unit {0}
IsMessageOf (Outlined id uri nested outline) message = Unit {0}
IsMessageOf (Folded id outline) message = Unit {0}
IsMessageOf (Selected id selections) message = Unit {0}
IsMessageOf (Refused id code refusal) message = message ≡ refused id code refusal
IsMessageOf (Published uri version mark) message = message ≡ published uri.items version mark
IsMessageOf (PublishedLines uri version marks) message = message ≡ published_lines uri.items version marks
IsMessageOf (Closed uri) message = message ≡ published uri.items None None
IsMessageOf (Logged why) message = message ≡ logged why
