-- How the lexical machine goes over one token.
use Rattle.std.specs.Prelude.{◌≡◌, ℕ, Bool, true, false, List, [], ◌∷◌}
use Rattle.jx_lex.specs.declared.kind.Kind.{Kind}
use Rattle.jx_lex.specs.declared.kind.Kind.TheVariants as kind
use Rattle.jx_lex.specs.declared.alphabet.mark.MarkKind.{MarkKind}
use Rattle.jx_lex.specs.declared.alphabet.mark.MarkKind.TheVariants as mark
use Rattle.jx_lex.specs.declared.alphabet.state.LexState.{LexState}
use Rattle.jx_lex.specs.declared.alphabet.state.LexState.TheVariants as state
use Rattle.jx_lex.specs.Moves.{move, go, begin, close}

-- no state of a token is between tokens
abbrev pub in_token : LexState → Bool
in_token state.Gap = false
in_token _ = true

-- from a state of a token to another over some bytes, or to the token's end where its last byte shows it
pub data Spells : LexState → List ℕ → LexState → Type 0 where
  here : {s : LexState} → Spells s [] s
  goes : {s next last : LexState} {b : ℕ} {bs : List ℕ} → move s b ≡ go next → Spells next bs last → Spells s (b ∷ bs) last
  shuts : {s : LexState} {b : ℕ} → move s b ≡ close → Spells s (b ∷ []) state.Gap

-- a state in which a whole text may end: between tokens, or where a number may end
pub data IsFinal : LexState → Type 0 where
  final_gap : IsFinal state.Gap
  final_zero : IsFinal state.Zero
  final_int : IsFinal state.Int
  final_frac : IsFinal state.Frac
  final_exp : IsFinal state.Exp

-- the token start with which a value of a kind begins
abbrev pub mark_of : Kind → MarkKind
mark_of kind.Object = mark.OpenObject
mark_of kind.Array = mark.OpenArray
mark_of kind.String = mark.String
mark_of kind.Number = mark.Number
mark_of kind.True = mark.True
mark_of kind.False = mark.False
mark_of kind.Null = mark.Null

-- the bytes are read as one token, which begins with such a token start
pub record IsRead (k : MarkKind) (w : List ℕ) : Type 0 where
  pub first : ℕ
  pub bytes : List ℕ
  pub entry : LexState
  pub last : LexState
  pub whole : w ≡ first ∷ bytes
  pub begins : move state.Gap first ≡ begin k entry
  pub inside : Spells entry bytes last
  pub final : IsFinal last
  pub entered : in_token entry ≡ true
