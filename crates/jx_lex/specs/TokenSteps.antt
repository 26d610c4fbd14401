-- The effects that a byte may have, in a token and between tokens.
use Rattle.std.specs.Prelude.{◌≡◌, ℕ, true}
use Rattle.jx_lex.specs.declared.kind.Kind.{Kind}
use Rattle.jx_lex.specs.declared.kind.Kind.TheVariants as kind
use Rattle.jx_lex.specs.declared.alphabet.mark.MarkKind.{MarkKind}
use Rattle.jx_lex.specs.declared.alphabet.mark.MarkKind.TheVariants as mark
use Rattle.jx_lex.specs.declared.alphabet.state.LexState.{LexState}
use Rattle.jx_lex.specs.declared.alphabet.state.LexState.TheVariants as state
use Rattle.jx_lex.specs.Classes.{class_at}
use Rattle.jx_lex.specs.Moves.{move, go, begin, close, structural, fault, as_gap}
use Rattle.jx_lex.specs.Token.{IsBlank}
use Rattle.jx_lex.specs.TokenStates.{in_token, IsFinal, mark_of}

-- in a token: it goes on, ends with the byte, or is a number that ended before it; or the byte is a fault
pub data TokenStep (s : LexState) (b : ℕ) : Type 0 where
  goes_on : {next : LexState} → in_token next ≡ true → move s b ≡ go next → TokenStep s b
  ends : move s b ≡ close → TokenStep s b
  ended : IsFinal s → move s b ≡ as_gap (class_at b) → TokenStep s b
  fails : move s b ≡ fault → TokenStep s b

-- the structural bytes (RFC 8259, section 2) and their token starts
pub data IsStructural : ℕ → MarkKind → Type 0 where
  open_array : IsStructural 0x5b mark.OpenArray
  close_array : IsStructural 0x5d mark.CloseArray
  open_object : IsStructural 0x7b mark.OpenObject
  close_object : IsStructural 0x7d mark.CloseObject
  colon : IsStructural 0x3a mark.Colon
  comma : IsStructural 0x2c mark.Comma

-- a value that is one token
abbrev pub IsScalar : Kind → Type 0
IsScalar kind.Object = ⊥
IsScalar kind.Array = ⊥
IsScalar _ = Unit {0}

-- between tokens: white space, the first byte of a token, or a structural byte; or the byte is a fault
pub data GapStep (b : ℕ) : Type 0 where
  a_blank : IsBlank b → move state.Gap b ≡ go state.Gap → GapStep b
  a_token : (k : Kind) (entry : LexState) → IsScalar k → in_token entry ≡ true → move state.Gap b ≡ begin (mark_of k) entry → GapStep b
  a_mark : {k : MarkKind} → IsStructural b k → move state.Gap b ≡ structural k → GapStep b
  no_step : move state.Gap b ≡ fault → GapStep b
