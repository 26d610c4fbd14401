-- Going on over the rest of a token: bytes with no event.
use Rattle.std.proofs.Common.{◌≡◌, ℕ, ◌+◌, ◌≤◌, ◌<◌, List, [], ◌∷◌, ◌++◌, length, get_or, refl, ap, sym, subst, ◌∙◌, arith}
use Rattle.std.specs.Prelude.{slice_range}
use Rattle.jx_lex.specs.declared.alphabet.class.Class.TheVariants as class
use Rattle.jx_lex.specs.declared.alphabet.state.LexState.{LexState}
use Rattle.jx_lex.specs.declared.alphabet.state.LexState.TheVariants as state
use Rattle.jx_lex.specs.Character.{IsWithin}
use Rattle.jx_lex.specs.Classes.{class_at}
use Rattle.jx_lex.specs.Moves.{move, row, go}
use Rattle.jx_lex.specs.Uneventful.{AllKeep, Leads}
use Rattle.jx_lex.specs.Token.{IsE}
use Rattle.jx_lex.proofs.Forward.{move-range, move-digit, move-e}
use Rattle.jx_lex.proofs.Running.{AllKeep-leads, Leads-append}
use Rattle.jx_lex.proofs.Slices.{slice-none, slice-more, slice-split}

-- ---- one byte after another

pub leads-none : (xs : List ℕ) (a : ℕ) (s : LexState) → Leads s (slice_range xs a a) s
leads-none xs a s = let P : List ℕ → Type 0 = λ w. Leads s w s in subst P (sym (slice-none xs a)) refl

pub leads-one : (xs : List ℕ) (a : ℕ) (s t : LexState) → a < length xs → move s (get_or xs a 0) ≡ go t → Leads s (slice_range xs a (a + 1)) t
leads-one xs a s t low h =
    let P : List ℕ → Type 0 = λ w. Leads s w t in
    let e : slice_range xs a (a + 1) ≡ get_or xs a 0 ∷ [] = slice-more xs a a 0 (omega arith) low ∙ ap (λ ys. ys ++ get_or xs a 0 ∷ []) (slice-none xs a) in
    subst P (sym e) (t, h, refl)

pub leads-then : (xs : List ℕ) (a b c : ℕ) (s t r : LexState) → a ≤ b → b ≤ c → Leads s (slice_range xs a b) t → Leads t (slice_range xs b c) r
    → Leads s (slice_range xs a c) r
leads-then xs a b c s t r low high h k =
    let P : List ℕ → Type 0 = λ w. Leads s w r in
    subst P (sym (slice-split xs a b c low high)) (Leads-append s t r (slice_range xs a b) (slice_range xs b c) h k)

pub leads-from : (s t r : LexState) (w : List ℕ) → s ≡ t → Leads t w r → Leads s w r
leads-from s t r w e h = let P : LexState → Type 0 = λ x. Leads x w r in subst P (sym e) h

pub kept_at : (s t : LexState) (w : List ℕ) → s ≡ t → AllKeep t w → Leads s w s
kept_at s t w e h = let P : LexState → Type 0 = λ x. Leads x w x in subst P (sym e) (AllKeep-leads t w h)

-- ---- numbers

pub minus_zero : (xs : List ℕ) (a : ℕ) (s : LexState) → a < length xs → s ≡ state.Minus → get_or xs a 0 ≡ 0x30 → Leads s (slice_range xs a (a + 1)) state.Zero
unfolding class_at
minus_zero xs a s low e h = leads-from s state.Minus state.Zero _ e (leads-one xs a state.Minus state.Zero low (ap (move state.Minus) h))

pub minus_digit : (xs : List ℕ) (a : ℕ) (s : LexState) → a < length xs → s ≡ state.Minus → 0x31 ≤ get_or xs a 0 → get_or xs a 0 ≤ 0x39
    → Leads s (slice_range xs a (a + 1)) state.Int
minus_digit xs a s low e from to =
    leads-from s state.Minus state.Int _ e
    (leads-one xs a state.Minus state.Int low
    (move-range 0x31 0x39 (class.Digit ∷ []) refl (omega arith) state.Minus (go state.Int) (refl, tt) (record { from = from; to = to })))

-- a decimal point and a digit
pointed : (xs : List ℕ) (a : ℕ) (s : LexState) → a + 2 ≤ length xs → move s 0x2e ≡ go state.Dot → get_or xs a 0 ≡ 0x2e → 0x30 ≤ get_or xs (a + 1) 0 → get_or xs (a + 1) 0 ≤ 0x39
    → Leads s (slice_range xs a (a + 2)) state.Frac
pointed xs a s low dots dot from to =
    let n : a + 1 + 1 ≡ a + 2 = omega arith in
    let digit : IsWithin 0x30 0x39 (get_or xs (a + 1) 0) = record { from = from; to = to } in
    leads-then xs a (a + 1) (a + 2) s state.Dot state.Frac (omega arith) (omega arith)
    (leads-one xs a s state.Dot (omega arith) (ap (move s) dot ∙ dots))
    (subst (λ c. Leads state.Dot (slice_range xs (a + 1) c) state.Frac) n
    (leads-one xs (a + 1) state.Dot state.Frac (omega arith) (move-digit state.Dot state.Frac refl refl digit)))

pub zero_point : (xs : List ℕ) (a : ℕ) (s : LexState) → a + 2 ≤ length xs → s ≡ state.Zero → get_or xs a 0 ≡ 0x2e → 0x30 ≤ get_or xs (a + 1) 0 → get_or xs (a + 1) 0 ≤ 0x39
    → Leads s (slice_range xs a (a + 2)) state.Frac
unfolding class_at
zero_point xs a s low e dot from to = leads-from s state.Zero state.Frac _ e (pointed xs a state.Zero low refl dot from to)

pub int_point : (xs : List ℕ) (a : ℕ) (s : LexState) → a + 2 ≤ length xs → s ≡ state.Int → get_or xs a 0 ≡ 0x2e → 0x30 ≤ get_or xs (a + 1) 0 → get_or xs (a + 1) 0 ≤ 0x39
    → Leads s (slice_range xs a (a + 2)) state.Frac
unfolding class_at
int_point xs a s low e dot from to = leads-from s state.Int state.Frac _ e (pointed xs a state.Int low refl dot from to)

-- ---- exponents

pub letter-led : (xs : List ℕ) (a : ℕ) (s t : LexState) → a < length xs → s ≡ t → row t class.LowE ≡ go state.E → row t class.UpE ≡ go state.E → IsE (get_or xs a 0)
    → Leads s (slice_range xs a (a + 1)) state.E
letter-led xs a s t low e l u h = leads-from s t state.E _ e (leads-one xs a t state.E low (move-e t state.E l u (get_or xs a 0) h))

pub minus_sign : (xs : List ℕ) (a : ℕ) (s : LexState) → a < length xs → s ≡ state.E → get_or xs a 0 ≡ 0x2d → Leads s (slice_range xs a (a + 1)) state.ESign
unfolding class_at
minus_sign xs a s low e h = leads-from s state.E state.ESign _ e (leads-one xs a state.E state.ESign low (ap (move state.E) h))

pub plus_sign : (xs : List ℕ) (a : ℕ) (s : LexState) → a < length xs → s ≡ state.E → get_or xs a 0 ≡ 0x2b → Leads s (slice_range xs a (a + 1)) state.ESign
unfolding class_at
plus_sign xs a s low e h = leads-from s state.E state.ESign _ e (leads-one xs a state.E state.ESign low (ap (move state.E) h))

pub exponent_begun : (xs : List ℕ) (a : ℕ) (s t : LexState) → a < length xs → s ≡ t → row t class.Zero ≡ go state.Exp → row t class.Digit ≡ go state.Exp
    → 0x30 ≤ get_or xs a 0 → get_or xs a 0 ≤ 0x39 → Leads s (slice_range xs a (a + 1)) state.Exp
exponent_begun xs a s t low e z d from to =
    let digit : IsWithin 0x30 0x39 (get_or xs a 0) = record { from = from; to = to } in
    leads-from s t state.Exp _ e (leads-one xs a t state.Exp low (move-digit t state.Exp z d digit))
