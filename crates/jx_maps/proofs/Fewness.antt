-- Where at most two states are live, all that is read on ends in at most two.
use Rattle.std.proofs.Common.{◌≡◌, ◌⊎◌, inl, inr, ℕ, zero, suc, ◌+◌, ◌<◌, ◌≤◌, List, [], ◌∷◌, ◌++◌, length, get_or, refl, ap, sym, subst, ◌∙◌, arith, Bool, true, false, cond, count_by, replicate}
use Rattle.std.proofs.lemmas.List.Sums.{sum_by-cons}
use Rattle.jx_lex.specs.declared.alphabet.state.LexState.{LexState}
use Rattle.jx_lex.specs.declared.alphabet.state.LexState.TheVariants as state
use Rattle.jx_lex.specs.Lex.{Track, LexExit, lex}
use Rattle.jx_lex.specs.Ordinal.{ordinal, all_states}
use Rattle.jx_maps.specs.Follow.{head}
use Rattle.jx_maps.specs.Map.{Map, IsOf, EndsInTwo}
use Rattle.jx_maps.specs.inside.Bundle.{Bundle, is_live, live_count, IsBundleOf, Stands}
use Rattle.jx_lex.specs.TwoPieces.{right_of}
use Rattle.jx_lex.proofs.LexJoin.{lex-append}
use Rattle.jx_lex.proofs.StateOrder.{ordinal-low, state-read}
use Rattle.jx_maps.proofs.Building.{every-live}
use Rattle.jx_maps.proofs.Bundles.{exit-live}

-- ---- states of a list that pass a test

count-cons : (p : LexState → Bool) (s : LexState) (ss : List LexState) → count_by p (s ∷ ss) ≡ cond (p s) 1 0 + count_by p ss
count-cons p s ss = sum_by-cons (λ x. cond (p x) 1 0) s ss

-- behind a state that passes, one fewer is left
count-behind : (p : LexState → Bool) (s : LexState) (ss : List LexState) (n : ℕ) → p s ≡ true → count_by p (s ∷ ss) ≤ suc n → count_by p ss ≤ n
count-behind p s ss n e few =
    let c : count_by p (s ∷ ss) ≡ 1 + count_by p ss = count-cons p s ss ∙ ap (λ b. cond b 1 0 + count_by p ss) e in
    omega (arith, c, few)

count-rest : (p : LexState → Bool) (s : LexState) (ss : List LexState) (n : ℕ) → count_by p (s ∷ ss) ≤ n → count_by p ss ≤ n
count-rest p s ss n few = let c = count-cons p s ss in omega (arith, c, few)

none-passes : (p : LexState → Bool) (ss : List LexState) → count_by p ss ≤ 0 → (i : ℕ) → i < length ss → p (get_or ss i state.Gap) ≡ true → ⊥
none-passes p [] few i low e = omega (arith, low)
none-passes p (s ∷ ss) few zero low e =
    let c : count_by p (s ∷ ss) ≡ 1 + count_by p ss = count-cons p s ss ∙ ap (λ b. cond b 1 0 + count_by p ss) e in
    omega (arith, c, few)
none-passes p (s ∷ ss) few (suc i) low e = none-passes p ss (count-rest p s ss 0 few) i (omega (arith, low)) e

-- those that pass are this one
record AllAre (p : LexState → Bool) (ss : List LexState) : Type 0 where
  one : LexState
  all : (i : ℕ) → i < length ss → p (get_or ss i state.Gap) ≡ true → get_or ss i state.Gap ≡ one

one-first : (p : LexState → Bool) (s : LexState) (ss : List LexState) → p s ≡ true → count_by p (s ∷ ss) ≤ 1 → AllAre p (s ∷ ss)
one-first p s ss q few = record { one = s; all = at }
  where
    at : (i : ℕ) → i < length (s ∷ ss) → p (get_or (s ∷ ss) i state.Gap) ≡ true → get_or (s ∷ ss) i state.Gap ≡ s
    at zero low e = refl
    at (suc i) low e = absurd (none-passes p ss (count-behind p s ss 0 q few) i (omega (arith, low)) e)

one-more : (p : LexState → Bool) (s : LexState) (ss : List LexState) → p s ≡ false → AllAre p ss → AllAre p (s ∷ ss)
one-more p s ss q rest = record { one = rest.one; all = at }
  where
    at : (i : ℕ) → i < length (s ∷ ss) → p (get_or (s ∷ ss) i state.Gap) ≡ true → get_or (s ∷ ss) i state.Gap ≡ rest.one
    at zero low e = absurd cc
    at (suc i) low e = rest.all i (omega (arith, low)) e

one-passes : (p : LexState → Bool) (ss : List LexState) → count_by p ss ≤ 1 → AllAre p ss
one-passes p [] few = record { one = state.Gap; all = λ i low e. absurd (omega (arith, low)) }
one-passes p (s ∷ ss) few = go (p s) refl (one-passes p ss (count-rest p s ss 1 few))
  where
    go : (b : Bool) → p s ≡ b → AllAre p ss → AllAre p (s ∷ ss)
    go true q rest = one-first p s ss q few
    go false q rest = one-more p s ss q rest

-- those that pass are these two
record AllAmong (p : LexState → Bool) (ss : List LexState) : Type 0 where
  one : LexState
  other : LexState
  all : (i : ℕ) → i < length ss → p (get_or ss i state.Gap) ≡ true → (get_or ss i state.Gap ≡ one) ⊎ (get_or ss i state.Gap ≡ other)

two-first : (p : LexState → Bool) (s : LexState) (ss : List LexState) → AllAre p ss → AllAmong p (s ∷ ss)
two-first p s ss rest = record { one = s; other = rest.one; all = at }
  where
    at : (i : ℕ) → i < length (s ∷ ss) → p (get_or (s ∷ ss) i state.Gap) ≡ true → (get_or (s ∷ ss) i state.Gap ≡ s) ⊎ (get_or (s ∷ ss) i state.Gap ≡ rest.one)
    at zero low e = inl refl
    at (suc i) low e = inr (rest.all i (omega (arith, low)) e)

two-more : (p : LexState → Bool) (s : LexState) (ss : List LexState) → p s ≡ false → AllAmong p ss → AllAmong p (s ∷ ss)
two-more p s ss q rest = record { one = rest.one; other = rest.other; all = at }
  where
    at : (i : ℕ) → i < length (s ∷ ss) → p (get_or (s ∷ ss) i state.Gap) ≡ true → (get_or (s ∷ ss) i state.Gap ≡ rest.one) ⊎ (get_or (s ∷ ss) i state.Gap ≡ rest.other)
    at zero low e = absurd cc
    at (suc i) low e = rest.all i (omega (arith, low)) e

two-pass : (p : LexState → Bool) (ss : List LexState) → count_by p ss ≤ 2 → AllAmong p ss
two-pass p [] few = record { one = state.Gap; other = state.Gap; all = λ i low e. absurd (omega (arith, low)) }
two-pass p (s ∷ ss) few = go (p s) refl (two-pass p ss (count-rest p s ss 2 few))
  where
    go : (b : Bool) → p s ≡ b → AllAmong p ss → AllAmong p (s ∷ ss)
    go true q rest = two-first p s ss (one-passes p ss (count-behind p s ss 1 q few))
    go false q rest = two-more p s ss q rest

-- ---- readings

-- two states, in one of which each reading of these bytes ends that meets no fault
pub record LeaveTwo (start : ℕ) (bytes : List ℕ) : Type 0 where
  pub one : LexState
  pub other : LexState
  pub all : (s t : LexState) → (lex s start bytes).exit ≡ LexExit.state t → (t ≡ one) ⊎ (t ≡ other)

-- where at most two states are live
pub live-two : (start : ℕ) (u : List ℕ) (b : Bundle) → IsBundleOf start u (replicate 32 true) b → Stands u (replicate 32 true) b → live_count b.live ≤ 2 → LeaveTwo start u
live-two start u b reads stands few = record { one = two.one; other = two.other; all = at }
  where
    two : AllAmong (is_live b.live) all_states
    two = two-pass (is_live b.live) all_states few

    at : (s t : LexState) → (lex s start u).exit ≡ LexExit.state t → (t ≡ two.one) ⊎ (t ≡ two.other)
    at s t e =
        let track = reads.tracks s (every-live s) in
        let lives : is_live b.live t ≡ true = exit-live b.live b.segments (head b.heads s) (stands.heads s) stands.segments (reads.heads s) reads.segments t (ap (λ (t : Track). t.exit) track ∙ e) in
        subst (λ (x : LexState). (x ≡ two.one) ⊎ (x ≡ two.other)) (state-read t)
        (two.all (ordinal t) (ordinal-low t) (subst (λ (x : LexState). is_live b.live x ≡ true) (sym (state-read t)) lives))

-- the state in which a reading ends, where it ends in one
abbrev end_of : LexExit → LexState
end_of (LexExit.state s) = s
end_of (LexExit.fault at) = state.Gap

-- more bytes lead two states to at most two
pub two-read_on : (start : ℕ) (u w : List ℕ) → LeaveTwo start u → LeaveTwo start (u ++ w)
two-read_on start u w h = record { one = behind h.one; other = behind h.other; all = at }
  where
    behind : LexState → LexState
    behind n = end_of ((lex n (start + length u) w).exit)

    go : (s t : LexState) (x : LexExit) → (lex s start u).exit ≡ x → (right_of x (λ n. lex n (start + length u) w)).exit ≡ LexExit.state t → (t ≡ behind h.one) ⊎ (t ≡ behind h.other)
    go s t (LexExit.fault k) q r = absurd cc
    go s t (LexExit.state n) q r =
        let ends : t ≡ behind n = sym (ap end_of r) in
        pick (h.all s n q) ends
      where
        pick : (n ≡ h.one) ⊎ (n ≡ h.other) → t ≡ behind n → (t ≡ behind h.one) ⊎ (t ≡ behind h.other)
        pick (inl a) e = inl (e ∙ ap behind a)
        pick (inr a) e = inr (e ∙ ap behind a)

    at : (s t : LexState) → (lex s start (u ++ w)).exit ≡ LexExit.state t → (t ≡ behind h.one) ⊎ (t ≡ behind h.other)
    at s t e = go s t ((lex s start u).exit) refl (sym (ap (λ (t : Track). t.exit) (lex-append u w s start)) ∙ e)

-- the tracks of a map of such bytes
pub map-two : (m : Map) (bytes : List ℕ) → IsOf bytes m → LeaveTwo m.start bytes → EndsInTwo m
map-two m bytes of two = record { one = two.one; other = two.other; all = λ s t e. two.all s t (sym (ap (λ (t : Track). t.exit) (of.tracks s)) ∙ e) }
