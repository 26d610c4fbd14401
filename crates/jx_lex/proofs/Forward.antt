-- What each state does with a byte of a stated range: the table read forwards.
use Rattle.std.proofs.Common.{◌≡◌, ◌≢◌, ℕ, ◌≤◌, Bool, true, false, ◌&&◌, ◌||◌, eqb, List, [], ◌∷◌, refl, ap, subst, ◌∙◌, inl, inr, ◌⊎◌, arith}
use Rattle.std.specs.Prelude.{◌==◌, nat_le, not}
use Rattle.std.proofs.lemmas.Bool.Decides.{nat_tests, eqb_tells}
use Rattle.jx_lex.specs.declared.alphabet.class.Class.{Class}
use Rattle.jx_lex.specs.declared.alphabet.class.Class.TheVariants as class
use Rattle.jx_lex.specs.declared.alphabet.state.LexState.{LexState}
use Rattle.jx_lex.specs.declared.alphabet.state.LexState.TheVariants as state
use Rattle.jx_lex.specs.declared.alphabet.state.Step.{Step}
use Rattle.jx_lex.specs.Classes.{all_classes, first_with, class_at}
use Rattle.jx_lex.specs.Character.{IsWithin, IsTail}
use Rattle.jx_lex.specs.Moves.{move, row, go}
use Rattle.jx_lex.specs.Token.{IsDigit, IsE, IsHexDigit, decimal, upper, lower}
use Rattle.jx_lex.proofs.ClassTable.{all_below, all_below-at, code, same_code, implies, implies-use}
use Rattle.jx_lex.proofs.ByteFacts.{IsOrdinary}

abbrev pub is_one_of : Class → List Class → Bool
is_one_of c [] = false
is_one_of c (k ∷ ks) = (code c == code k) || is_one_of c ks

-- the row of each of the classes is this step
abbrev pub AllStep : LexState → Step → List Class → Type 0
AllStep s step [] = Unit {0}
AllStep s step (k ∷ ks) = (row s k ≡ step) × AllStep s step ks

pub row-one_of : (s : LexState) (step : Step) (c : Class) (ks : List Class) → AllStep s step ks → is_one_of c ks ≡ true → row s c ≡ step
row-one_of s step c [] all h = absurd cc
row-one_of s step c (k ∷ ks) all h = pick (eqb_tells (code c) (code k)) (λ h'. row-one_of s step c ks all.1 h')
  where
    pick : ((eqb (code c) (code k) ≡ true) × (code c ≡ code k)) ⊎ ((eqb (code c) (code k) ≡ false) × (code c ≢ code k))
        → (is_one_of c ks ≡ true → row s c ≡ step) → row s c ≡ step
    pick (inl e) rest = ap (row s) (same_code c k e.1) ∙ all.0
    pick (inr e) rest = rest (subst (λ t. (t || is_one_of c ks) ≡ true) e.0 h)

abbrev pub range_test : ℕ → ℕ → List Class → ℕ → Bool
range_test low high ks b = implies (nat_le low b && nat_le b high) (is_one_of (first_with all_classes b) ks)

-- the bytes of a range, whose classes are among these, do what the rows of the classes say
pub move-range : (low high : ℕ) (ks : List Class) → all_below 256 (range_test low high ks) ≡ true → high ≤ 255
    → (s : LexState) (step : Step) → AllStep s step ks → {b : ℕ} → IsWithin low high b → move s b ≡ step
unfolding class_at
move-range low high ks tested le s step all {b} h =
    let from = h.from in let to = h.to in
    row-one_of s step (class_at b) ks all (implies-use (nat_le low b && nat_le b high) _ (all_below-at (range_test low high ks) 256 tested b (omega arith)) (grind (arith, nat_tests)))

abbrev pub ordinary_classes : List Class
ordinary_classes = class.Space ∷ class.Plus ∷ class.Comma ∷ class.Minus ∷ class.Dot ∷ class.Slash ∷ class.Zero ∷ class.Digit ∷ class.Colon ∷ class.UpHex ∷ class.UpE ∷ class.OpenArray ∷ class.CloseArray ∷ class.LowA ∷ class.LowB ∷ class.LowCD ∷ class.LowE ∷ class.LowF ∷ class.LowL ∷ class.LowN ∷ class.LowR ∷ class.LowS ∷ class.LowT ∷ class.LowU ∷ class.OpenObject ∷ class.CloseObject ∷ class.Plain ∷ []

abbrev ordinary_test : ℕ → Bool
ordinary_test b = implies ((nat_le 0x20 b && nat_le b 0x7f) && (not (b == 0x22) && not (b == 0x5c))) (is_one_of (first_with all_classes b) ordinary_classes)

ordinary_tested : all_below 256 ordinary_test ≡ true
ordinary_tested = refl

pub all_ordinary : AllStep state.Str (go state.Str) ordinary_classes
all_ordinary = (refl, (refl, (refl, (refl, (refl, (refl, (refl, (refl, (refl, (refl, (refl, (refl, (refl, (refl, (refl, (refl, (refl, (refl, (refl, (refl, (refl, (refl, (refl, (refl, (refl, (refl, (refl, tt)))))))))))))))))))))))))))

pub Str-ordinary : (b : ℕ) → IsOrdinary b → move state.Str b ≡ go state.Str
unfolding class_at
Str-ordinary b h =
    let from = h.from in let to = h.to in let q = h.no_quote in let k = h.no_backslash in
    row-one_of state.Str (go state.Str) (class_at b) ordinary_classes all_ordinary
    (implies-use ((nat_le 0x20 b && nat_le b 0x7f) && (not (b == 0x22) && not (b == 0x5c))) _ (all_below-at ordinary_test 256 ordinary_tested b (omega arith)) (grind (arith, nat_tests)))

pub move-digit : (s next : LexState) → row s class.Zero ≡ go next → row s class.Digit ≡ go next → {b : ℕ} → IsDigit b → move s b ≡ go next
move-digit s next z d h = move-range 0x30 0x39 (class.Zero ∷ class.Digit ∷ []) refl (omega arith) s (go next) (z, (d, tt)) h

pub move-e : (s next : LexState) → row s class.LowE ≡ go next → row s class.UpE ≡ go next → (b : ℕ) → IsE b → move s b ≡ go next
unfolding class_at
move-e s next l u b (inl e) = ap (move s) e ∙ l
move-e s next l u b (inr e) = ap (move s) e ∙ u

pub move-hex : (s next : LexState) → AllStep s (go next) (class.Zero ∷ class.Digit ∷ []) → AllStep s (go next) (class.UpHex ∷ class.UpE ∷ [])
    → AllStep s (go next) (class.LowA ∷ class.LowB ∷ class.LowCD ∷ class.LowE ∷ class.LowF ∷ []) → {b : ℕ} → IsHexDigit b → move s b ≡ go next
move-hex s next d u l (decimal h) = move-range 0x30 0x39 (class.Zero ∷ class.Digit ∷ []) refl (omega arith) s (go next) d h
move-hex s next d u l (upper h) = move-range 0x41 0x46 (class.UpHex ∷ class.UpE ∷ []) refl (omega arith) s (go next) u h
move-hex s next d u l (lower h) = move-range 0x61 0x66 (class.LowA ∷ class.LowB ∷ class.LowCD ∷ class.LowE ∷ class.LowF ∷ []) refl (omega arith) s (go next) l h

pub move-tail : (s next : LexState) → AllStep s (go next) (class.TailA ∷ class.TailB ∷ class.TailC ∷ []) → {b : ℕ} → IsTail b → move s b ≡ go next
move-tail s next all h = move-range 0x80 0xbf (class.TailA ∷ class.TailB ∷ class.TailC ∷ []) refl (omega arith) s (go next) all h
