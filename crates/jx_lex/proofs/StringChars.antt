-- Characters above 7F and escapes lead from inside a string back to there, with no event.
use Rattle.std.proofs.Common.{◌≡◌, ◌≢◌, ℕ, ◌<◌, ◌≤◌, ◌⊎◌, inl, inr, true, false, eqb, List, [], ◌∷◌, length, take, get_or, refl, ap, sym, subst, arith}
use Rattle.std.specs.Prelude.{◌==◌}
use Rattle.std.proofs.lemmas.Bool.{cases_lt}
use Rattle.std.proofs.lemmas.Bool.Decides.{nat_tests, eqb_tells}
use Rattle.jx_lex.specs.declared.alphabet.class.Class.{Class}
use Rattle.jx_lex.specs.declared.alphabet.class.Class.TheVariants as class
use Rattle.jx_lex.specs.declared.alphabet.state.LexState.{LexState}
use Rattle.jx_lex.specs.declared.alphabet.state.LexState.TheVariants as state
use Rattle.jx_lex.specs.Character.{IsWithin, IsTail}
use Rattle.jx_lex.specs.Classes.{class_at, all_classes, first_with}
use Rattle.jx_lex.specs.Moves.{move, go}
use Rattle.jx_lex.specs.Uneventful.{Leads, is_two, is_three, is_four, is_escaped, is_escape, is_hex, is_unit}
use Rattle.jx_lex.proofs.ClassTable.{and_left, and_right, all_below-at, implies, implies-use}
use Rattle.jx_lex.proofs.Forward.{move-range, move-tail, AllStep, is_one_of, row-one_of}

take-two : (xs : List ℕ) → 2 ≤ length xs → take 2 xs ≡ get_or xs 0 0 ∷ get_or xs 1 0 ∷ []
take-two [] le = absurd (omega arith)
take-two (a ∷ []) le = absurd (omega arith)
take-two (a ∷ b ∷ xs) le = refl

take-three : (xs : List ℕ) → 3 ≤ length xs → take 3 xs ≡ get_or xs 0 0 ∷ get_or xs 1 0 ∷ get_or xs 2 0 ∷ []
take-three [] le = absurd (omega arith)
take-three (a ∷ xs) le = ap (λ l. a ∷ l) (take-two xs (omega arith))

take-four : (xs : List ℕ) → 4 ≤ length xs → take 4 xs ≡ get_or xs 0 0 ∷ get_or xs 1 0 ∷ get_or xs 2 0 ∷ get_or xs 3 0 ∷ []
take-four [] le = absurd (omega arith)
take-four (a ∷ xs) le = ap (λ l. a ∷ l) (take-three xs (omega arith))

take-six : (xs : List ℕ) → 6 ≤ length xs → take 6 xs ≡ get_or xs 0 0 ∷ get_or xs 1 0 ∷ get_or xs 2 0 ∷ get_or xs 3 0 ∷ get_or xs 4 0 ∷ get_or xs 5 0 ∷ []
take-six [] le = absurd (omega arith)
take-six (a ∷ []) le = absurd (omega arith)
take-six (a ∷ b ∷ xs) le = ap (λ l. a ∷ b ∷ l) (take-four xs (omega arith))

tail1 : {b : ℕ} → IsTail b → move state.Tail1 b ≡ go state.Str
tail1 h = move-tail state.Tail1 state.Str (refl, (refl, (refl, tt))) h

tail2 : {b : ℕ} → IsTail b → move state.Tail2 b ≡ go state.Tail1
tail2 h = move-tail state.Tail2 state.Tail1 (refl, (refl, (refl, tt))) h

tail3 : {b : ℕ} → IsTail b → move state.Tail3 b ≡ go state.Tail2
tail3 h = move-tail state.Tail3 state.Tail2 (refl, (refl, (refl, tt))) h

abbrev pub escape_classes : List Class
escape_classes = class.Quote ∷ class.Backslash ∷ class.Slash ∷ class.LowB ∷ class.LowF ∷ class.LowN ∷ class.LowR ∷ class.LowT ∷ []

abbrev pub hex_classes : List Class
hex_classes = class.Zero ∷ class.Digit ∷ class.UpHex ∷ class.UpE ∷ class.LowA ∷ class.LowB ∷ class.LowCD ∷ class.LowE ∷ class.LowF ∷ []

-- ---- characters

pub two_bytes_lead : (a b : ℕ) → IsWithin 0xc2 0xdf a → IsTail b → Leads state.Str (a ∷ b ∷ []) state.Str
unfolding class_at
two_bytes_lead a b first second = (state.Tail1, move-range 0xc2 0xdf (class.Lead2 ∷ []) refl (omega arith) state.Str (go state.Tail1) (refl, tt) first, (state.Str, tail1 second, refl))

two_leads : (a b : ℕ) → is_two a b ≡ true → Leads state.Str (a ∷ b ∷ []) state.Str
two_leads a b h =
    two_bytes_lead a b (record { from = grind (arith, nat_tests); to = grind (arith, nat_tests) }) (record { from = grind (arith, nat_tests); to = grind (arith, nat_tests) })

-- after the second of three bytes
second_of_three : (a b : ℕ) → 0xe0 ≤ a → a ≤ 0xef → IsTail b → (a ≡ 0xe0 → 0xa0 ≤ b) → (a ≡ 0xed → b ≤ 0x9f)
    → (next : LexState) × (move state.Str a ≡ go next) × (move next b ≡ go state.Tail1)
unfolding class_at
second_of_three a b from to second low high =
    let range = second.from in let limit = second.to in
    by_lead (eqb_tells a 0xe0) (eqb_tells a 0xed) (cases_lt a 0xed)
  where
    by_lead : ((eqb a 0xe0 ≡ true) × (a ≡ 0xe0)) ⊎ ((eqb a 0xe0 ≡ false) × (a ≢ 0xe0)) → ((eqb a 0xed ≡ true) × (a ≡ 0xed)) ⊎ ((eqb a 0xed ≡ false) × (a ≢ 0xed))
        → (a < 0xed) ⊎ (0xed ≤ a) → (next : LexState) × (move state.Str a ≡ go next) × (move next b ≡ go state.Tail1)
    by_lead (inl e) d o = (state.AfterE0, ap (move state.Str) e.1, move-range 0xa0 0xbf (class.TailC ∷ []) refl (omega arith) state.AfterE0 (go state.Tail1) (refl, tt) (record { from = low e.1; to = second.to }))
    by_lead (inr n) (inl e) o = (state.AfterEd, ap (move state.Str) e.1, move-range 0x80 0x9f (class.TailA ∷ class.TailB ∷ []) refl (omega arith) state.AfterEd (go state.Tail1) (refl, (refl, tt)) (record { from = second.from; to = high e.1 }))
    by_lead (inr n) (inr m) (inl lt) =
        let not_e0 = n.1 in
        let first : IsWithin 0xe1 0xec a = record { from = omega (arith, not_e0); to = omega arith } in
        (state.Tail2, move-range 0xe1 0xec (class.Lead3 ∷ []) refl (omega arith) state.Str (go state.Tail2) (refl, tt) first, tail2 second)
    by_lead (inr n) (inr m) (inr le) =
        let not_ed = m.1 in
        let first : IsWithin 0xee 0xef a = record { from = omega (arith, not_ed); to = to } in
        (state.Tail2, move-range 0xee 0xef (class.Lead3 ∷ []) refl (omega arith) state.Str (go state.Tail2) (refl, tt) first, tail2 second)

pub three_bytes_lead : (a b c : ℕ) → 0xe0 ≤ a → a ≤ 0xef → IsTail b → IsTail c → (a ≡ 0xe0 → 0xa0 ≤ b) → (a ≡ 0xed → b ≤ 0x9f) → Leads state.Str (a ∷ b ∷ c ∷ []) state.Str
three_bytes_lead a b c from to second third low high =
    let s = second_of_three a b from to second low high in
    (s.0, s.1, (state.Tail1, s.2, (state.Str, tail1 third, refl)))

three_leads : (a b c : ℕ) → is_three a b c ≡ true → Leads state.Str (a ∷ b ∷ c ∷ []) state.Str
three_leads a b c h =
    let low : a ≡ 0xe0 → 0xa0 ≤ b = λ e. grind (arith, nat_tests) in
    let high : a ≡ 0xed → b ≤ 0x9f = λ e. grind (arith, nat_tests) in
    let second : IsTail b = record { from = grind (arith, nat_tests); to = grind (arith, nat_tests) } in
    let third : IsTail c = record { from = grind (arith, nat_tests); to = grind (arith, nat_tests) } in
    three_bytes_lead a b c (grind (arith, nat_tests)) (grind (arith, nat_tests)) second third low high

-- after the second of four bytes
second_of_four : (a b : ℕ) → 0xf0 ≤ a → a ≤ 0xf4 → IsTail b → (a ≡ 0xf0 → 0x90 ≤ b) → (a ≡ 0xf4 → b ≤ 0x8f)
    → (next : LexState) × (move state.Str a ≡ go next) × (move next b ≡ go state.Tail2)
unfolding class_at
second_of_four a b from to second low high =
    by_lead (eqb_tells a 0xf0) (eqb_tells a 0xf4)
  where
    by_lead : ((eqb a 0xf0 ≡ true) × (a ≡ 0xf0)) ⊎ ((eqb a 0xf0 ≡ false) × (a ≢ 0xf0)) → ((eqb a 0xf4 ≡ true) × (a ≡ 0xf4)) ⊎ ((eqb a 0xf4 ≡ false) × (a ≢ 0xf4))
        → (next : LexState) × (move state.Str a ≡ go next) × (move next b ≡ go state.Tail2)
    by_lead (inl e) d = (state.AfterF0, ap (move state.Str) e.1, move-range 0x90 0xbf (class.TailB ∷ class.TailC ∷ []) refl (omega arith) state.AfterF0 (go state.Tail2) (refl, (refl, tt)) (record { from = low e.1; to = second.to }))
    by_lead (inr n) (inl e) = (state.AfterF4, ap (move state.Str) e.1, move-range 0x80 0x8f (class.TailA ∷ []) refl (omega arith) state.AfterF4 (go state.Tail2) (refl, tt) (record { from = second.from; to = high e.1 }))
    by_lead (inr n) (inr m) =
        let not_f0 = n.1 in
        let not_f4 = m.1 in
        let first : IsWithin 0xf1 0xf3 a = record { from = omega (arith, not_f0); to = omega (arith, not_f4) } in
        (state.Tail3, move-range 0xf1 0xf3 (class.Lead4 ∷ []) refl (omega arith) state.Str (go state.Tail3) (refl, tt) first, tail3 second)

pub four_bytes_lead : (a b c d : ℕ) → 0xf0 ≤ a → a ≤ 0xf4 → IsTail b → IsTail c → IsTail d → (a ≡ 0xf0 → 0x90 ≤ b) → (a ≡ 0xf4 → b ≤ 0x8f)
    → Leads state.Str (a ∷ b ∷ c ∷ d ∷ []) state.Str
four_bytes_lead a b c d from to second third fourth low high =
    let s = second_of_four a b from to second low high in
    (s.0, s.1, (state.Tail2, s.2, (state.Tail1, tail2 third, (state.Str, tail1 fourth, refl))))

four_leads : (a b c d : ℕ) → is_four a b c d ≡ true → Leads state.Str (a ∷ b ∷ c ∷ d ∷ []) state.Str
four_leads a b c d h =
    let low : a ≡ 0xf0 → 0x90 ≤ b = λ e. grind (arith, nat_tests) in
    let high : a ≡ 0xf4 → b ≤ 0x8f = λ e. grind (arith, nat_tests) in
    let second : IsTail b = record { from = grind (arith, nat_tests); to = grind (arith, nat_tests) } in
    let third : IsTail c = record { from = grind (arith, nat_tests); to = grind (arith, nat_tests) } in
    let fourth : IsTail d = record { from = grind (arith, nat_tests); to = grind (arith, nat_tests) } in
    four_bytes_lead a b c d (grind (arith, nat_tests)) (grind (arith, nat_tests)) second third fourth low high

-- ---- escapes

escaped_small : (b : ℕ) → is_escaped b ≡ true → b < 256
escaped_small b h = grind (arith, nat_tests)

escaped_goes : (b : ℕ) → is_escaped b ≡ true → move state.Esc b ≡ go state.Str
unfolding class_at
escaped_goes b h =
    row-one_of state.Esc (go state.Str) (class_at b) escape_classes (refl, (refl, (refl, (refl, (refl, (refl, (refl, (refl, tt))))))))
    (implies-use (is_escaped b) _ (all_below-at (λ b. implies (is_escaped b) (is_one_of (first_with all_classes b) escape_classes)) 256 refl b (escaped_small b h)) h)

escape_leads : (a b : ℕ) → is_escape a b ≡ true → Leads state.Str (a ∷ b ∷ []) state.Str
unfolding class_at
escape_leads a b h =
    let backslash : a ≡ 0x5c = grind (arith, nat_tests) in
    (state.Esc, ap (move state.Str) backslash, (state.Str, escaped_goes b (and_right (a == 0x5c) _ h), refl))

hex_small : (b : ℕ) → is_hex b ≡ true → b < 256
hex_small b h = grind (arith, nat_tests)

hex_goes : (s next : LexState) → AllStep s (go next) hex_classes → (b : ℕ) → is_hex b ≡ true → move s b ≡ go next
unfolding class_at
hex_goes s next all b h =
    row-one_of s (go next) (class_at b) hex_classes all
    (implies-use (is_hex b) _ (all_below-at (λ b. implies (is_hex b) (is_one_of (first_with all_classes b) hex_classes)) 256 refl b (hex_small b h)) h)

unit_leads : (a b c d e f : ℕ) → is_unit a b c d e f ≡ true → Leads state.Str (a ∷ b ∷ c ∷ d ∷ e ∷ f ∷ []) state.Str
unfolding class_at
unit_leads a b c d e f h =
    let backslash : a ≡ 0x5c = grind (arith, nat_tests) in
    let letter : b ≡ 0x75 = grind (arith, nat_tests) in
    let five = and_left _ (is_hex f) h in
    let four = and_left _ (is_hex e) five in
    let three = and_left _ (is_hex d) four in (
      state.Esc,
      ap (move state.Str) backslash,
      (
        state.Hex4,
        ap (move state.Esc) letter,
        (
          state.Hex3,
          hex_goes state.Hex4 state.Hex3 (refl, (refl, (refl, (refl, (refl, (refl, (refl, (refl, (refl, tt))))))))) c (and_right _ (is_hex c) three),
          (
            state.Hex2,
            hex_goes state.Hex3 state.Hex2 (refl, (refl, (refl, (refl, (refl, (refl, (refl, (refl, (refl, tt))))))))) d (and_right _ (is_hex d) four),
            (
              state.Hex1,
              hex_goes state.Hex2 state.Hex1 (refl, (refl, (refl, (refl, (refl, (refl, (refl, (refl, (refl, tt))))))))) e (and_right _ (is_hex e) five),
              (state.Str, hex_goes state.Hex1 state.Str (refl, (refl, (refl, (refl, (refl, (refl, (refl, (refl, (refl, tt))))))))) f (and_right _ (is_hex f) h), refl),
            ),
          ),
        ),
      ),
    )

-- ---- the first bytes of a text

Leads-same : (u v : List ℕ) → u ≡ v → Leads state.Str v state.Str → Leads state.Str u state.Str
Leads-same u v e h = subst (λ l. Leads state.Str l state.Str) (sym e) h

pub two_led : (xs : List ℕ) → 2 ≤ length xs → is_two (get_or xs 0 0) (get_or xs 1 0) ≡ true → Leads state.Str (take 2 xs) state.Str
two_led xs le h = Leads-same _ _ (take-two xs le) (two_leads _ _ h)

pub three_led : (xs : List ℕ) → 3 ≤ length xs → is_three (get_or xs 0 0) (get_or xs 1 0) (get_or xs 2 0) ≡ true → Leads state.Str (take 3 xs) state.Str
three_led xs le h = Leads-same _ _ (take-three xs le) (three_leads _ _ _ h)

pub four_led : (xs : List ℕ) → 4 ≤ length xs → is_four (get_or xs 0 0) (get_or xs 1 0) (get_or xs 2 0) (get_or xs 3 0) ≡ true → Leads state.Str (take 4 xs) state.Str
four_led xs le h = Leads-same _ _ (take-four xs le) (four_leads _ _ _ _ h)

pub escape_led : (xs : List ℕ) → 2 ≤ length xs → is_escape (get_or xs 0 0) (get_or xs 1 0) ≡ true → Leads state.Str (take 2 xs) state.Str
escape_led xs le h = Leads-same _ _ (take-two xs le) (escape_leads _ _ h)

pub unit_led : (xs : List ℕ) → 6 ≤ length xs → is_unit (get_or xs 0 0) (get_or xs 1 0) (get_or xs 2 0) (get_or xs 3 0) (get_or xs 4 0) (get_or xs 5 0) ≡ true
    → Leads state.Str (take 6 xs) state.Str
unit_led xs le h = Leads-same _ _ (take-six xs le) (unit_leads _ _ _ _ _ _ h)
