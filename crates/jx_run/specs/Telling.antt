-- The tokens of a slice that a sink is given, after a text was read up to the slice.
use Rattle.std.specs.Prelude.{false, ◌≡◌, ◌==◌, ℕ, ◌+◌, ◌-◌, ◌≤◌, List, [], ◌∷◌, ◌++◌, drop, length, map, if◌then◌else◌}
use Rattle.jx_lex.specs.declared.alphabet.mark.Mark.{Mark}
use Rattle.jx_lex.specs.declared.alphabet.state.LexState.TheVariants.{Gap}
use Rattle.jx_lex.specs.Lex.{lex, LexExit, Track}
use Rattle.jx_lex.specs.Seen.{Awaits, Seen, Grows}
use Rattle.jx_lex.specs.TokenStates.{in_token}
use Rattle.jx_reduce.specs.KnownStack.{start, IsFault}
use Rattle.jx_reduce.specs.Read.{Reading, read}
use Rattle.jx_reduce.specs.declared.table.expect.Expect.TheVariants.{Value}
use Rattle.jx_run.specs.declared.texts.settings.Front.TheVariants.{Skip}
use Rattle.jx_run.specs.declared.texts.settings.FrontMark.{FrontMark}
use Rattle.jx_run.specs.declared.texts.settings.FrontMark.TheVariants as on_mark
use Rattle.jx_run.specs.declared.texts.settings.Settings.{Settings}
use Rattle.jx_run.specs.declared.texts.verdict.Verdict.TheVariants.{Accepted}
use Rattle.jx_run.specs.Front.{agreed, front_of}
use Rattle.jx_run.specs.Reader.{Outcome, in_front, reads}
use Rattle.jx_run.specs.Reading.{went, stopped, too_deep}
use Rattle.jx_run.specs.Settings.{byte_order_mark}
use Rattle.jx_run.specs.Verdict.{Judged}

-- ---- the tokens of a slice; offsets count from its first byte

abbrev pub no_tokens : Track
no_tokens = record { marks = []; ends = []; exit = LexExit.state Gap }

-- where so many bytes of a byte order mark stood in front, and with those of the slice so many: they are no tokens
abbrev pub track_in_front : ℕ → ℕ → List ℕ → Track
track_in_front before count slice =
    if count == 3 then lex Gap (3 - before) (drop (3 - before) slice) else (if count == 0 then lex Gap 0 slice else no_tokens)

-- after what the bytes before it led to; after a fault nothing is read
abbrev pub track_of : Outcome → List ℕ → Track
track_of (in_front n) slice = track_in_front n (n + agreed slice (drop n byte_order_mark)) slice
track_of (reads (went s e o)) slice = lex s 0 slice
track_of (reads (stopped at)) slice = no_tokens
track_of (reads (too_deep at)) slice = no_tokens

-- the outcome of the tokens before it
abbrev pub standing_of : Outcome → Reading
standing_of (in_front n) = start
standing_of (reads (went s e o)) = Reading.went e o
standing_of (reads (stopped at)) = Reading.stopped at
standing_of (reads (too_deep at)) = Reading.too_deep at

-- the event that a sink awaits after the outcome of the bytes before; after a fault it is given nothing
abbrev pub AwaitsBehind : Awaits → Outcome → Type 0
AwaitsBehind awaits (in_front n) = awaits false
AwaitsBehind awaits (reads (went s e o)) = awaits (in_token s)
AwaitsBehind awaits (reads (stopped at)) = Unit {0}
AwaitsBehind awaits (reads (too_deep at)) = Unit {0}

-- the outcome of no byte
abbrev pub at_start : FrontMark → Outcome
at_start on_mark.Refused = reads (went Gap Value [])
at_start on_mark.Ignored = in_front 0

-- the tokens of bytes from a text's start on; offsets count from the first byte
abbrev pub tokens_by : FrontMark → List ℕ → Track
tokens_by mark bytes = track_of (at_start mark) bytes

-- the same token, so many bytes further on
abbrev pub moved_mark : ℕ → Mark → Mark
moved_mark base m = record m { at = base + m.at }

abbrev pub moved_marks : ℕ → List Mark → List Mark
moved_marks base marks = map (moved_mark base) marks

abbrev pub moved_ends : ℕ → List ℕ → List ℕ
moved_ends base ends = map (λ end. base + end) ends

-- a text by settings is one after its front, and its tokens are those after the front
pub record IsAcceptedFrom (settings : Settings) (bytes : List ℕ) : Type 0 where
  pub count : ℕ
  pub within : count ≤ length bytes
  pub front : front_of settings.mark bytes ≡ Skip count
  pub judged : Judged count (drop count bytes) settings.depth Accepted
  pub tokens : tokens_by settings.mark bytes ≡ lex Gap count (drop count bytes)

-- ---- how far a sink is given tokens

-- of these tokens, after a reading, a sink has seen those in front of the first that is a fault, and a beginning of the
-- ends
pub record SeesPast (old new : Seen) (depth : ℕ) (before : Reading) (marks : List Mark) (ends : List ℕ) : Type 0 where
  pub told : List Mark
  pub more : List Mark
  pub told_ends : List ℕ
  pub more_ends : List ℕ
  pub marks_are : marks ≡ told ++ more
  pub ends_are : ends ≡ told_ends ++ more_ends
  pub seen : Grows old new told told_ends
  -- the tokens that were given have no fault
  pub past : (IsFault before → ⊥) → IsFault (read depth told before) → ⊥
  -- the first token that was not given is one
  pub next : (m : Mark) (rest : List Mark) → more ≡ m ∷ rest → IsFault (read depth (told ++ m ∷ []) before)
  -- where none is one, all was given
  pub all : (IsFault (read depth marks before) → ⊥) → (more ≡ []) × (more_ends ≡ [])
