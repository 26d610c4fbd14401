-- The end of reading a part of a stream.
use Rattle.std.specs.Prelude.{◌≡◌, ℕ, List, [], ◌++◌, false, true, Option, None, Some}
use Rattle.std.specs.Io.KnownBytes.{Consumes}
use Rattle.jx_wire.specs.Frames.{bodies, fault_of, read_on, start as in_front, Reading}
use Rattle.jx_serve.specs.Served.{ServerValue}
use Rattle.jx_serve.specs.Steps.{start}
use Rattle.jx_serve.specs.declared.server.Phase.{Phase}
use Rattle.jx_serve.specs.declared.server.Phase.TheVariants as phase
use Rattle.jx_lsp.specs.declared.serve.Ended.{Ended}
use Rattle.jx_lsp.specs.declared.serve.Ended.TheVariants.{Clean, Early}
use Rattle.jx_lsp.specs.Session.{closing, ended_at, has_left, HasStopped, Serves, Writes}

-- how the client ended, if it has left
abbrev pub end_of : Phase → Option Ended
end_of (phase.Ended true) = Some Clean
end_of (phase.Ended false) = Some Early
end_of _ = None

-- neither has the client left, nor has the stream a fault
pub record IsGoing (reading : Reading) (server : ServerValue) : Type 0 where
  pub readable : fault_of reading ≡ None
  pub stays : has_left server.phase ≡ false

-- bytes were followed up to some that are left
pub record Goes (from : Reading) (first : ServerValue) (written : Option (List ℕ)) (bytes : List ℕ) (to : Reading) (last : ServerValue) (grown : Option (List ℕ)) (rest : List ℕ) : Type 0 where
  pub front : List ℕ
  pub whole : bytes ≡ front ++ rest
  pub reads : to ≡ read_on from front
  pub serves : Serves first (bodies from front) last written grown

-- they were followed to their end, or up to that of the client or the stream
pub record Ends (from : Reading) (first : ServerValue) (written : Option (List ℕ)) (bytes : List ℕ) (to : Reading) (last : ServerValue) (grown : Option (List ℕ)) (end : Option Ended) : Type 0 where
  pub rest : List ℕ
  pub told : Option (List ℕ)
  pub goes : Goes from first written bytes to last told rest
  pub closes : Writes (closing (has_left last.phase) (fault_of to)) told grown
  pub going : end ≡ None → (rest ≡ []) × IsGoing to last × (told ≡ grown)
  pub over : (ended : Ended) → end ≡ Some ended → (ended ≡ ended_at last.phase) × HasStopped last to

-- all that was read was followed
pub record SoFar (unread left written grown : Option (List ℕ)) (reading : Reading) (server : ServerValue) : Type 0 where
  pub stream : List ℕ
  pub read : Consumes unread left stream
  pub reads : reading ≡ read_on in_front stream
  pub going : IsGoing reading server
  pub serves : Serves start (bodies in_front stream) server written grown
