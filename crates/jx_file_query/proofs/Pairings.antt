-- A reading tells the end of a token before the next mark.
use Rattle.std.proofs.Common.{◌≡◌, ℕ, suc, List, [], ◌∷◌, refl, sym, subst, Bool, true, false, Some}
use Rattle.std.specs.Prelude.{is_some}
use Rattle.jx_lex.specs.declared.alphabet.mark.Mark.{Mark}
use Rattle.jx_lex.specs.declared.kind.Kind.{Kind}
use Rattle.jx_lex.specs.declared.kind.Kind.TheVariants as kind
use Rattle.jx_lex.specs.declared.alphabet.mark.MarkKind.{MarkKind}
use Rattle.jx_lex.specs.declared.alphabet.state.LexState.{LexState}
use Rattle.jx_lex.specs.declared.alphabet.state.LexState.TheVariants as state
use Rattle.jx_lex.specs.declared.alphabet.state.Step.{Step}
use Rattle.jx_lex.specs.declared.alphabet.state.TokenEnd.TheVariants.{Before}
use Rattle.jx_lex.specs.Classes.{class_at}
use Rattle.jx_lex.specs.Lex.{lex, LexExit, Track, after_step, on_next}
use Rattle.jx_lex.specs.Moves.{move, as_gap}
use Rattle.jx_lex.specs.TokenStates.{in_token, mark_of}
use Rattle.jx_lex.specs.TokenSteps.{TokenStep, goes_on, ends, ended as ended_before, fails, IsScalar, IsStructural, open_array, close_array, open_object, close_object, colon, comma, GapStep, a_blank, a_token, a_mark, no_step}
use Rattle.jx_lex.proofs.Recognized.{gap_step, token_step}
use Rattle.jx_index.specs.inside.Building.{is_token}
use Rattle.jx_file_index.specs.Chunks.{has_some}
use Rattle.jx_file_query.specs.Passed.{waiting}
use Rattle.jx_file_query.proofs.Paired.{Paired, none, plain, token, ended}

data GapOr (s : LexState) : Type 0 where
  gap : s ≡ state.Gap → GapOr s
  inside : in_token s ≡ true → GapOr s

gap_or : (s : LexState) → GapOr s
gap_or state.Gap = gap refl
gap_or state.Str = inside refl
gap_or state.Esc = inside refl
gap_or state.Hex4 = inside refl
gap_or state.Hex3 = inside refl
gap_or state.Hex2 = inside refl
gap_or state.Hex1 = inside refl
gap_or state.Tail1 = inside refl
gap_or state.Tail2 = inside refl
gap_or state.Tail3 = inside refl
gap_or state.AfterE0 = inside refl
gap_or state.AfterEd = inside refl
gap_or state.AfterF0 = inside refl
gap_or state.AfterF4 = inside refl
gap_or state.Minus = inside refl
gap_or state.Zero = inside refl
gap_or state.Int = inside refl
gap_or state.Dot = inside refl
gap_or state.Frac = inside refl
gap_or state.E = inside refl
gap_or state.ESign = inside refl
gap_or state.Exp = inside refl
gap_or state.T = inside refl
gap_or state.Tr = inside refl
gap_or state.Tru = inside refl
gap_or state.F = inside refl
gap_or state.Fa = inside refl
gap_or state.Fal = inside refl
gap_or state.Fals = inside refl
gap_or state.N = inside refl
gap_or state.Nu = inside refl
gap_or state.Nul = inside refl

scalar_token : (k : Kind) → IsScalar k → is_token (mark_of k) ≡ true
scalar_token kind.Object h = absurd h
scalar_token kind.Array h = absurd h
scalar_token kind.String h = refl
scalar_token kind.Number h = refl
scalar_token kind.True h = refl
scalar_token kind.False h = refl
scalar_token kind.Null h = refl

structural_plain : {b : ℕ} {k : MarkKind} → IsStructural b k → is_token k ≡ false
structural_plain open_array = refl
structural_plain close_array = refl
structural_plain open_object = refl
structural_plain close_object = refl
structural_plain colon = refl
structural_plain comma = refl

-- the track of a reading that ends in a state is paired, from a place where a token has begun or not
abbrev Pairs : Bool → LexState → Track → Type 0
Pairs b last t = t.exit ≡ LexExit.state last → Paired b t.marks t.ends (in_token last)

-- what a step is put in front of
abbrev next_track : Step → ℕ → List ℕ → Track
next_track m at bytes = after_step m at (on_next m.next at (λ next. lex next (suc at) bytes))

abbrev before : Step → Step
before m = record m { end = Some Before }

module _ (last : LexState) (at b : ℕ) (bytes : List ℕ) (rest : (s : LexState) → Pairs (in_token s) last (lex s (suc at) bytes)) where
  from_gap : Pairs false last (next_track (move state.Gap b) at bytes)
  from_gap = pick (gap_step b)
    where
      pick : GapStep b → Pairs false last (next_track (move state.Gap b) at bytes)
      pick (a_blank blank m) = subst (λ (x : Step). Pairs false last (next_track x at bytes)) (sym m) (rest state.Gap)
      pick (a_token k entry scalar within m) =
          subst (λ (x : Step). Pairs false last (next_track x at bytes)) (sym m)
          (λ e. token (scalar_token k scalar) (subst (λ (x : Bool). Paired x (lex entry (suc at) bytes).marks (lex entry (suc at) bytes).ends (in_token last)) within (rest entry e)))
      pick (a_mark structure m) = subst (λ (x : Step). Pairs false last (next_track x at bytes)) (sym m) (λ e. plain (structural_plain structure) (rest state.Gap e))
      pick (no_step m) = subst (λ (x : Step). Pairs false last (next_track x at bytes)) (sym m) (λ e. absurd cc)

  -- a number has ended
  from_end : Pairs true last (next_track (before (move state.Gap b)) at bytes)
  from_end = pick (gap_step b)
    where
      pick : GapStep b → Pairs true last (next_track (before (move state.Gap b)) at bytes)
      pick (a_blank blank m) = subst (λ (x : Step). Pairs true last (next_track (before x) at bytes)) (sym m) (λ e. ended (rest state.Gap e))
      pick (a_token k entry scalar within m) =
          subst (λ (x : Step). Pairs true last (next_track (before x) at bytes)) (sym m)
          (λ e. ended (token (scalar_token k scalar) (subst (λ (x : Bool). Paired x (lex entry (suc at) bytes).marks (lex entry (suc at) bytes).ends (in_token last)) within (rest entry e))))
      pick (a_mark structure m) = subst (λ (x : Step). Pairs true last (next_track (before x) at bytes)) (sym m) (λ e. ended (plain (structural_plain structure) (rest state.Gap e)))
      pick (no_step m) = subst (λ (x : Step). Pairs true last (next_track (before x) at bytes)) (sym m) (λ e. absurd cc)

  ended_is : (s : LexState) → move s b ≡ as_gap (class_at b) → move s b ≡ before (move state.Gap b)
  unfolding as_gap
  ended_is s m = m

  from_token : (s : LexState) → TokenStep s b → Pairs true last (next_track (move s b) at bytes)
  from_token s (goes_on {next = next} within m) =
      subst (λ (x : Step). Pairs true last (next_track x at bytes)) (sym m)
      (λ e. subst (λ (x : Bool). Paired x (lex next (suc at) bytes).marks (lex next (suc at) bytes).ends (in_token last)) within (rest next e))
  from_token s (ends m) = subst (λ (x : Step). Pairs true last (next_track x at bytes)) (sym m) (λ e. ended (rest state.Gap e))
  from_token s (ended_before final m) = subst (λ (x : Step). Pairs true last (next_track x at bytes)) (sym (ended_is s m)) from_end
  from_token s (fails m) = subst (λ (x : Step). Pairs true last (next_track x at bytes)) (sym m) (λ e. absurd cc)

  from_any : (s : LexState) → Pairs (in_token s) last (next_track (move s b) at bytes)
  from_any s = pick (gap_or s)
    where
      pick : GapOr s → Pairs (in_token s) last (next_track (move s b) at bytes)
      pick (gap e) = subst (λ (x : LexState). Pairs (in_token x) last (next_track (move x b) at bytes)) (sym e) from_gap
      pick (inside e) = subst (λ (x : Bool). Pairs x last (next_track (move s b) at bytes)) (sym e) (from_token s (token_step s b e))

lex_next : (s : LexState) (at b : ℕ) (bytes : List ℕ) → lex s at (b ∷ bytes) ≡ next_track (move s b) at bytes
unfolding lex
lex_next s at b bytes = refl

lex_none : (s : LexState) (at : ℕ) → lex s at [] ≡ record { marks = []; ends = []; exit = LexExit.state s }
unfolding lex
lex_none s at = refl

pub lex_paired : (s last : LexState) (at : ℕ) (bytes : List ℕ) → Pairs (in_token s) last (lex s at bytes)
lex_paired s last at [] =
    subst (λ (t : Track). Pairs (in_token s) last t) (sym (lex_none s at))
    (λ e. let same : s ≡ last = cc in subst (λ (x : LexState). Paired (in_token s) [] [] (in_token x)) same none)
lex_paired s last at (b ∷ bytes) = subst (λ (t : Track). Pairs (in_token s) last t) (sym (lex_next s at b bytes)) (from_any last at b bytes (λ x. lex_paired x last (suc at) bytes) s)

-- where nothing begins or ends, a token goes on
pub nothing_paired : {b c : Bool} {ms : List Mark} {es : List ℕ} → Paired b ms es c → has_some ms ≡ false → has_some es ≡ false → b ≡ c
nothing_paired none m e = refl
nothing_paired (plain is h) m e = absurd cc
nothing_paired (token is h) m e = absurd cc
nothing_paired (ended h) m e = absurd cc

pub waiting_some : (b : Bool) → is_some (waiting b) ≡ b
waiting_some true = refl
waiting_some false = refl
