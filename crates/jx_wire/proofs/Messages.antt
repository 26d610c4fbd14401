-- What messages that tell of documents have.
use Rattle.std.proofs.Common.{codes}
use Rattle.jx_wire.specs.Requests.{IsUri, IsVersioned, IsWhole, TellsChange, TellsClose, TellsOpen}
use Rattle.jx_wire.specs.Values.{Values}
use Rattle.jx_wire.specs.declared.call.Call.{Call}
use Rattle.jx_wire.specs.declared.call.Call.TheVariants as call
use Rattle.jx_wire.specs.declared.call.Change.{Change}
use Rattle.jx_wire.specs.declared.call.Uri.{Uri}
use Rattle.jx_wire.specs.declared.call.Versioned.{Versioned}

-- the document and the text of a message that opens one
pub open_parts : (at : Values) (c : Call) → TellsOpen at c → (document : Versioned) × (text : Change) × IsVersioned at document × IsWhole (at (codes "/params/textDocument/text")) text
open_parts at (call.Open document what text) h = (document, text, h.0, h.2)
open_parts at _ h = absurd h

-- the document of a message that changes one
pub changed_document : (at : Values) (c : Call) → TellsChange at c → (document : Versioned) × IsVersioned at document
changed_document at (call.Change document changes) h = (document, h.0)
changed_document at _ h = absurd h

-- the document of a message that closes one
pub closed_document : (at : Values) (c : Call) → TellsClose at c → (uri : Uri) × IsUri at uri
closed_document at (call.Close uri) h = (uri, h)
closed_document at _ h = absurd h
