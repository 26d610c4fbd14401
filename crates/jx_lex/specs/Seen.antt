-- The tokens that a sink has seen, and how they grow.
use Rattle.std.specs.Prelude.{◌≡◌, ℕ, ◌+◌, Bool, true, false, List, [], ◌∷◌, ◌++◌, length, Option, Some, None}
use Rattle.jx_lex.specs.declared.alphabet.state.LexState.{LexState}
use Rattle.jx_lex.specs.declared.alphabet.lex_exit.LexExit.{LexExit}
use Rattle.jx_lex.specs.declared.alphabet.lex_exit.LexExit.TheVariants.{State, Fault}
use Rattle.jx_lex.specs.declared.alphabet.mark.Mark.{Mark}
use Rattle.jx_lex.specs.declared.alphabet.mark.MarkKind.{MarkKind}
use Rattle.jx_lex.specs.declared.alphabet.mark.MarkKind.TheVariants as mark
use Rattle.jx_lex.specs.declared.alphabet.mark.MarkKind.TheVariants.{Comma}
use Rattle.jx_lex.specs.declared.alphabet.state.LexState.TheVariants as state
use Rattle.jx_lex.specs.declared.alphabet.state.TokenEnd.{TokenEnd}
use Rattle.jx_lex.specs.declared.alphabet.state.TokenEnd.TheVariants.{Before}
use Rattle.jx_lex.specs.Lex as reading
use Rattle.jx_lex.specs.Lex.{Track, lex}
use Rattle.jx_lex.specs.Moves.{move}
use Rattle.jx_lex.specs.TokenStates.{in_token}

-- which token starts and ends a sink may have seen
abbrev pub Seen : Type 1
Seen = List Mark → List ℕ → Type 0

-- after any token starts and ends that were seen before, these were seen
abbrev pub Grows : Seen → Seen → List Mark → List ℕ → Type 0
Grows old new more others = (marks : List Mark) (ends : List ℕ) → old marks ends → new (marks ++ more) (ends ++ others)

-- the token starts and ends of a reading
abbrev pub SeesTrack : Seen → Seen → Track → Type 0
SeesTrack old new track = Grows old new track.marks track.ends

-- nothing more is wanted: what counts as seen stays so, whatever token starts and ends come after
abbrev pub WantsNoMore : Seen → Type 0
WantsNoMore seen = (marks more : List Mark) (ends others : List ℕ) → seen marks ends → seen (marks ++ more) (ends ++ others)

-- the token starts and ends of a reading that led to a state
pub record GoesTo (old new : Seen) (track : Track) (to : LexState) : Type 0 where
  pub seen : SeesTrack old new track
  pub exit : track.exit ≡ reading.state to

-- the event that a sink may be given next: an end (true), or a token start
abbrev pub Awaits : Type 1
Awaits = Bool → Type 0

-- a string, a number or a literal begins with such a token start, so an end comes after it
abbrev pub has_end : MarkKind → Bool
has_end mark.String = true
has_end mark.Number = true
has_end mark.True = true
has_end mark.False = true
has_end mark.Null = true
has_end _ = false

-- the event that a sink has to await before a byte that ends a token or begins one
abbrev pub Takes : Awaits → Option TokenEnd → Option MarkKind → Type 0
Takes awaits (Some end) begin = awaits true
Takes awaits None (Some kind) = awaits false
Takes awaits None None = Unit {0}

-- the event that it awaits after that byte
abbrev pub Leaves : Awaits → Awaits → Option MarkKind → Option TokenEnd → Type 0
Leaves old new (Some kind) end = new (has_end kind)
Leaves old new None (Some end) = new false
Leaves old new None None = (inside : Bool) → old inside → new inside

-- the event that it awaits where a reading ends
abbrev pub AwaitsAt : Awaits → LexExit → Type 0
AwaitsAt awaits (State s) = awaits (in_token s)
AwaitsAt awaits (Fault at) = Unit {0}

-- token starts and ends as contracts see them
pub record TokenLists : Type 0 where
  pub marks : List Mark
  pub ends : List ℕ

-- those of a reading after them
abbrev pub with_tokens : TokenLists → Track → TokenLists
with_tokens tokens track = record { marks = tokens.marks ++ track.marks; ends = tokens.ends ++ track.ends }

-- a number ends before a comma, which then stands between tokens
abbrev pub EndsAtComma : LexState → Type 0
EndsAtComma s = move s 0x2c ≡ record { end = Some Before; begin = Some Comma; next = Some state.Gap }

-- these bytes are the rest of a token, which ends with them
abbrev pub Shuts : LexState → List ℕ → Type 0
Shuts s bytes = (at : ℕ) → lex s at bytes ≡ record { marks = []; ends = (at + length bytes) ∷ []; exit = reading.state state.Gap }
