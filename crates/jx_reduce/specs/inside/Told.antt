-- Observers of bytes that are skipped.
use Rattle.std.specs.Prelude.{◌≡◌, ◌==◌, ℕ, Bool, List, false, if◌then◌else◌, slice_range}
use Rattle.jx_lex.specs.declared.alphabet.state.LexState.TheVariants.{Gap}
use Rattle.jx_lex.specs.declared.alphabet.mark.MarkKind.{MarkKind}
use Rattle.jx_lex.specs.declared.alphabet.mark.MarkKind.TheVariants.{Comma, CloseArray, CloseObject}
use Rattle.jx_lex.specs.Lex.{lex}
use Rattle.jx_lex.specs.Seen.{Awaits, Seen, SeesTrack}

-- which token a comma or a closing bracket is
abbrev pub leaves_by : ℕ → MarkKind
leaves_by byte = if byte == 0x2c then Comma else if byte == 0x5d then CloseArray else CloseObject

-- an observer has seen the token starts and ends of the bytes
abbrev pub Sees : Seen → Seen → List ℕ → ℕ → ℕ → Type 0
Sees old new text from to = SeesTrack old new (lex Gap from (slice_range text from to))

-- a sink that listens has seen this unless it has failed
abbrev pub heard : Bool → Seen → Seen
heard failed seen = λ marks ends. failed ≡ false → seen marks ends

-- and then it awaits a token
abbrev pub awaits_mark : Bool → Awaits → Type 0
awaits_mark failed awaits = failed ≡ false → awaits false
