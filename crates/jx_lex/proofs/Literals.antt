-- The rest of a literal ends it.
use Rattle.std.proofs.Common.{◌≡◌, ℕ, suc, ◌+◌, ◌≤◌, List, [], ◌∷◌, length, get_or, refl, ap, sym, subst, ◌∙◌, arith}
use Rattle.std.specs.Prelude.{slice_range}
use Rattle.jx_lex.specs.declared.alphabet.state.LexState.{LexState}
use Rattle.jx_lex.specs.declared.alphabet.state.LexState.TheVariants as state
use Rattle.jx_lex.specs.Classes.{class_at}
use Rattle.jx_lex.specs.Lex.{lex}
use Rattle.jx_lex.specs.Lex as reading
use Rattle.jx_lex.specs.Seen.{Shuts}
use Rattle.jx_lex.proofs.Slices.{slice-none, slice-first}

-- the bytes of a stretch, one after another
three : (xs : List ℕ) (a b c d : ℕ) → a + 3 ≤ length xs → get_or xs a 0 ≡ b → get_or xs (a + 1) 0 ≡ c → get_or xs (a + 2) 0 ≡ d
    → slice_range xs a (a + 3) ≡ b ∷ c ∷ d ∷ []
three xs a b c d low f g h =
    let m : a + 1 + 1 ≡ a + 2 = omega arith in
    let n : a + 2 + 1 ≡ a + 3 = omega arith in
    slice-first xs a (a + 3) 0 (omega arith) low
    ∙ ap (λ x. x ∷ slice_range xs (a + 1) (a + 3)) f
    ∙ ap (λ ys. b ∷ ys) (slice-first xs (a + 1) (a + 3) 0 (omega arith) low)
    ∙ ap (λ x. b ∷ x ∷ slice_range xs (a + 1 + 1) (a + 3)) g
    ∙ ap (λ k. b ∷ c ∷ slice_range xs k (a + 3)) m
    ∙ ap (λ ys. b ∷ c ∷ ys) (slice-first xs (a + 2) (a + 3) 0 (omega arith) low)
    ∙ ap (λ x. b ∷ c ∷ x ∷ slice_range xs (a + 2 + 1) (a + 3)) h
    ∙ ap (λ k. b ∷ c ∷ d ∷ slice_range xs k (a + 3)) n
    ∙ ap (λ ys. b ∷ c ∷ d ∷ ys) (slice-none xs (a + 3))

ends_at : (s : LexState) (at n k : ℕ) (w : List ℕ) → n ≡ k → lex s at w ≡ record { marks = []; ends = n ∷ []; exit = reading.state state.Gap }
    → lex s at w ≡ record { marks = []; ends = k ∷ []; exit = reading.state state.Gap }
ends_at s at n k w e h = h ∙ ap (λ (x : ℕ). record { marks = []; ends = x ∷ []; exit = reading.state state.Gap }) e

rue : Shuts state.T (0x72 ∷ 0x75 ∷ 0x65 ∷ [])
unfolding lex class_at
rue at = ends_at state.T at (suc (suc (suc at))) (at + 3) (0x72 ∷ 0x75 ∷ 0x65 ∷ []) (omega arith) refl

alse : Shuts state.F (0x61 ∷ 0x6c ∷ 0x73 ∷ 0x65 ∷ [])
unfolding lex class_at
alse at = ends_at state.F at (suc (suc (suc (suc at)))) (at + 4) (0x61 ∷ 0x6c ∷ 0x73 ∷ 0x65 ∷ []) (omega arith) refl

ull : Shuts state.N (0x75 ∷ 0x6c ∷ 0x6c ∷ [])
unfolding lex class_at
ull at = ends_at state.N at (suc (suc (suc at))) (at + 3) (0x75 ∷ 0x6c ∷ 0x6c ∷ []) (omega arith) refl

pub true_shuts : (xs : List ℕ) (a : ℕ) → a + 3 ≤ length xs → get_or xs a 0 ≡ 0x72 → get_or xs (a + 1) 0 ≡ 0x75 → get_or xs (a + 2) 0 ≡ 0x65
    → Shuts state.T (slice_range xs a (a + 3))
true_shuts xs a low f g h = subst (λ (w : List ℕ). Shuts state.T w) (sym (three xs a 0x72 0x75 0x65 low f g h)) rue

pub null_shuts : (xs : List ℕ) (a : ℕ) → a + 3 ≤ length xs → get_or xs a 0 ≡ 0x75 → get_or xs (a + 1) 0 ≡ 0x6c → get_or xs (a + 2) 0 ≡ 0x6c
    → Shuts state.N (slice_range xs a (a + 3))
null_shuts xs a low f g h = subst (λ (w : List ℕ). Shuts state.N w) (sym (three xs a 0x75 0x6c 0x6c low f g h)) ull

pub false_shuts : (xs : List ℕ) (a : ℕ) → a + 4 ≤ length xs → get_or xs a 0 ≡ 0x61 → get_or xs (a + 1) 0 ≡ 0x6c → get_or xs (a + 2) 0 ≡ 0x73 → get_or xs (a + 3) 0 ≡ 0x65
    → Shuts state.F (slice_range xs a (a + 4))
false_shuts xs a low f g h i =
    let m : a + 1 + 3 ≡ a + 4 = omega arith in
    let n : a + 1 + 1 ≡ a + 2 = omega arith in
    let o : a + 1 + 2 ≡ a + 3 = omega arith in
    let rest : slice_range xs (a + 1) (a + 4) ≡ 0x6c ∷ 0x73 ∷ 0x65 ∷ [] =
    subst (λ (k : ℕ). slice_range xs (a + 1) k ≡ 0x6c ∷ 0x73 ∷ 0x65 ∷ []) m
    (three xs (a + 1) 0x6c 0x73 0x65 (omega arith) g (ap (λ k. get_or xs k 0) n ∙ h) (ap (λ k. get_or xs k 0) o ∙ i)) in
    subst (λ (w : List ℕ). Shuts state.F w)
    (sym (slice-first xs a (a + 4) 0 (omega arith) low ∙ ap (λ x. x ∷ slice_range xs (a + 1) (a + 4)) f ∙ ap (λ ys. 0x61 ∷ ys) rest))
    alse
