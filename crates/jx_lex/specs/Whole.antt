-- Whole tokens and white space, read from between tokens on.
use Rattle.std.specs.Prelude.{◌≡◌, ◌≤◌, ◌<◌, ◌==◌, ℕ, List, [], ◌∷◌, if◌then◌else◌, length, Some, slice_index, slice_range}
use Rattle.jx_lex.specs.declared.alphabet.state.LexState.{LexState}
use Rattle.jx_lex.specs.declared.alphabet.state.LexState.TheVariants as state
use Rattle.jx_lex.specs.declared.alphabet.state.TokenEnd.TheVariants.{Before}
use Rattle.jx_lex.specs.declared.alphabet.mark.Mark.{Mark}
use Rattle.jx_lex.specs.declared.alphabet.mark.MarkKind.{MarkKind}
use Rattle.jx_lex.specs.declared.alphabet.mark.MarkKind.TheVariants.{Number, True, False, Null}
use Rattle.jx_lex.specs.Lex as reading
use Rattle.jx_lex.specs.Lex.{lex}
use Rattle.jx_lex.specs.Moves.{move}

-- the bytes between two offsets are read from between tokens to between tokens, and have these token starts and ends
pub record Passes (text : List ℕ) (from to : ℕ) (marks : List Mark) (ends : List ℕ) : Type 0 where
  pub low : from ≤ to
  pub fits : to ≤ length text
  pub marks_are : (lex state.Gap from (slice_range text from to)).marks ≡ marks
  pub ends_are : (lex state.Gap from (slice_range text from to)).ends ≡ ends
  pub exit : (lex state.Gap from (slice_range text from to)).exit ≡ reading.state state.Gap

-- a token ends before this byte, which is then read as between tokens
abbrev pub EndsBefore : LexState → ℕ → Type 0
EndsBefore s byte = move s byte ≡ record (move state.Gap byte) { end = Some Before }

-- a number ends before a comma, a closing bracket, a space, a line feed and a carriage return
abbrev pub MayEnd : LexState → Type 0
MayEnd s = EndsBefore s 0x2c × EndsBefore s 0x5d × EndsBefore s 0x7d × EndsBefore s 0x20 × EndsBefore s 0x0a × EndsBefore s 0x0d

-- the bytes between two offsets are a number, if no other digit follows
pub record PassesNumber (text : List ℕ) (from to : ℕ) : Type 0 where
  pub low : from < to
  pub fits : to ≤ length text
  pub last : LexState
  pub may_end : MayEnd last
  pub marks_are : (lex state.Gap from (slice_range text from to)).marks ≡ record { kind = Number; at = from } ∷ []
  pub ends_are : (lex state.Gap from (slice_range text from to)).ends ≡ []
  pub exit : (lex state.Gap from (slice_range text from to)).exit ≡ reading.state last

-- a token start of `true`, `false` or `null`
pub data IsLiteral : MarkKind → Type 0 where
  is_true : IsLiteral True
  is_false : IsLiteral False
  is_null : IsLiteral Null

-- which literal begins with a byte
abbrev pub literal_of : ℕ → MarkKind
literal_of byte = if byte == 0x74 then True else if byte == 0x66 then False else Null

-- the bytes between two offsets are a literal
pub record PassesLiteral (text : List ℕ) (from to : ℕ) : Type 0 where
  pub kind : MarkKind
  pub literal : IsLiteral kind
  pub first : kind ≡ literal_of (slice_index text from)
  pub passes : Passes text from to (record { kind = kind; at = from } ∷ []) (to ∷ [])
