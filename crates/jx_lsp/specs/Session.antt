-- The session that the program makes of a stream of frames, and its output.
use Rattle.std.specs.Prelude.{◌≡◌, ◌≢◌, ◌⊎◌, ℕ, List, [], ◌∷◌, ◌++◌, Bool, false, true, is_some, Option, None, Some}
use Rattle.std.specs.Io.KnownBytes.{Appends, Consumes, IsAtEnd}
use Rattle.jx_index.specs.ByNames.{IsVerdictBy}
use Rattle.jx_run.specs.declared.texts.verdict.Verdict.TheVariants.{Accepted}
use Rattle.jx_wire.specs.Frames.{bodies, fault_of, frames, read_on, start as in_front, Reading}
use Rattle.jx_wire.specs.declared.frame_fault.FrameFault.{FrameFault}
use Rattle.jx_serve.specs.Messages.{message_settings}
use Rattle.jx_serve.specs.Served.{ServerValue}
use Rattle.jx_serve.specs.Steps.{start, Turns}
use Rattle.jx_serve.specs.Words.{IsMessageOf}
use Rattle.jx_serve.specs.declared.reply.Code.TheVariants.{ParseError}
use Rattle.jx_serve.specs.declared.reply.Reply.{Reply}
use Rattle.jx_serve.specs.declared.reply.Reply.TheVariants.{Nothing, Refused}
use Rattle.jx_serve.specs.declared.server.Phase.{Phase}
use Rattle.jx_serve.specs.declared.server.Phase.TheVariants as phase
use Rattle.jx_lsp.specs.declared.serve.Ended.{Ended}
use Rattle.jx_lsp.specs.declared.serve.Ended.TheVariants.{Clean, Early}

-- ---- how a client ends

-- by `exit`
abbrev pub has_left : Phase → Bool
has_left (phase.Ended clean) = true
has_left _ = false

-- as it should only by `exit` after `shutdown`
abbrev pub ended_at : Phase → Ended
ended_at (phase.Ended true) = Clean
ended_at _ = Early

-- ---- what is replied

-- the replies to bodies, one to each, in their order; none is followed after `exit`
pub data Talks : ServerValue → List (List ℕ) → ServerValue → List Reply → Type 0 where
  silent : (server : ServerValue) → Talks server [] server []
  one_more : (first next last : ServerValue) (body : List ℕ) (others : List (List ℕ)) (reply : Reply) (replies : List Reply) → has_left first.phase ≡ false
      → Turns body first next reply → Talks next others last replies → Talks first (body ∷ others) last (reply ∷ replies)

-- the messages for replies, in their order: each is a JSON text, and there is none for a reply without a message
pub data AreTold : List Reply → List (List ℕ) → Type 0 where
  none_told : AreTold [] []
  untold : (replies : List Reply) (messages : List (List ℕ)) → AreTold replies messages → AreTold (Nothing ∷ replies) messages
  one_told : (reply : Reply) (message : List ℕ) (replies : List Reply) (messages : List (List ℕ)) → reply ≢ Nothing
      → IsMessageOf reply message → IsVerdictBy message_settings message Accepted → AreTold replies messages → AreTold (reply ∷ replies) (message ∷ messages)

-- the writer got the frames of the messages of replies
pub record Writes (replies : List Reply) (written grown : Option (List ℕ)) : Type 0 where
  pub messages : List (List ℕ)
  pub told : AreTold replies messages
  pub wrote : Appends written grown (frames messages)

-- each body was followed, and its reply written
pub record Serves (first : ServerValue) (followed : List (List ℕ)) (last : ServerValue) (written grown : Option (List ℕ)) : Type 0 where
  pub replies : List Reply
  pub talks : Talks first followed last replies
  pub writes : Writes replies written grown

-- ---- a whole session

-- where the client has not left, one reply more follows a stream that cannot be read on
abbrev pub closing : Bool → Option FrameFault → List Reply
closing true fault = []
closing false None = []
closing false (Some fault) = Refused None ParseError None ∷ []

-- the client has left, or the stream cannot be read on
abbrev pub HasStopped : ServerValue → Reading → Type 0
HasStopped server reading = (has_left server.phase ≡ true) ⊎ (is_some (fault_of reading) ≡ true)

-- the bodies that end in what was read were followed from the start on: in all of it, up to the end of input, or in a beginning,
-- after which the client has left or the stream cannot be read on
pub record IsServed (unread left written grown : Option (List ℕ)) (ended : Ended) : Type 0 where
  pub stream : List ℕ
  pub rest : List ℕ
  pub last : ServerValue
  pub told : Option (List ℕ)
  pub read : Consumes unread left (stream ++ rest)
  pub serves : Serves start (bodies in_front stream) last written told
  pub closes : Writes (closing (has_left last.phase) (fault_of (read_on in_front stream))) told grown
  pub stops : HasStopped last (read_on in_front stream) ⊎ ((rest ≡ []) × IsAtEnd left)
  pub ends : ended ≡ ended_at last.phase
