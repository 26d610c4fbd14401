-- Runs of bytes of a set, and what the bytes of each set do: they keep the place and the height.
use Rattle.std.specs.Prelude.{if◌then◌else◌, ◌==◌, slice_range}
use Rattle.std.specs.Slice.Scan.{IsFirstPlace}
use Rattle.std.proofs.Common.{◌≡◌, ℕ, zero, suc, ◌+◌, ◌-◌, ◌<◌, ◌≤◌, List, [], ◌∷◌, take, drop, get_or, Bool, true, false, not, refl, sym, ap, subst, ◌∙◌, arith}
use Rattle.std.proofs.lemmas.Bool.{eqb-true, not-false}
use Rattle.std.proofs.lemmas.Bool.Decides.{nat_tests}
use Rattle.std.proofs.lemmas.List.{get_or-drop}
use Rattle.jx_compact.specs.declared.place.Place.{Place}
use Rattle.jx_compact.specs.declared.place.Place.TheVariants.{Between, Inside, Escaped}
use Rattle.jx_compact.specs.Compact.{is_kept, is_no_blank, kept, next}
use Rattle.jx_each.specs.declared.sign.Sign.TheVariants as sign
use Rattle.jx_each.specs.declared.sign.Turn.TheVariants.{Stay}
use Rattle.jx_each.specs.Turns.{height_next, sign_of, turn_at, turn_by, turned}
use Rattle.jx_each.specs.inside.Runs.{AreIn, is_blank, is_border, is_bracket, is_char, is_deep, is_flat}
use Rattle.jx_each.proofs.Bytes.{turn_other}

-- ---- runs

in_take : (p : ℕ → Bool) (n : ℕ) (ys : List ℕ) → ((k : ℕ) → k < n → p (get_or ys k 0) ≡ true) → AreIn p (take n ys)
in_take p zero ys h = tt
in_take p (suc n) [] h = tt
in_take p (suc n) (y ∷ ys) h = (h 0 (omega arith), in_take p n ys (λ k lt. h (suc k) (omega arith)))

-- each byte from one offset up to another is in the set
pub set_in : (p : ℕ → Bool) (xs : List ℕ) (from to : ℕ) → ((k : ℕ) → from ≤ k → k < to → p (get_or xs k 0) ≡ true) → AreIn p (slice_range xs from to)
set_in p xs from to h =
    in_take p (to - from) (drop from xs)
    (λ k lt. subst (λ b. p b ≡ true) (sym (get_or-drop from xs k 0)) (h (from + k) (omega arith) (omega (arith, lt))))

-- a run up to the first byte that is not in the set
pub run_in : (p : ℕ → Bool) (xs : List ℕ) (from to r : ℕ) → IsFirstPlace (λ k. not (p (get_or xs k 0))) from to r → AreIn p (slice_range xs from r)
run_in p xs from to r first = set_in p xs from r (λ k low lt. not-false (p (get_or xs k 0)) (first.before k low lt))

-- ---- what bytes do

-- it is kept, and the byte behind it stands where it stood
pub record Keeps (p : Place) (h b : ℕ) : Type 0 where
  pub turn : turn_at p h b ≡ Stay
  pub stays : is_kept p b ≡ true
  pub place : next p b ≡ p
  pub height : height_next p h b ≡ h

pub char_keeps : (h b : ℕ) → is_char b ≡ true → Keeps Inside h b
char_keeps h b c =
    let e : (b == 0x22) ≡ false = grind (arith, nat_tests) in
    let f : (b == 0x5c) ≡ false = grind (arith, nat_tests) in
    record { turn = refl; stays = refl; place = rw e (rw f refl); height = refl }

-- what is no blank is kept
pub other_kept : (b : ℕ) → is_blank b ≡ false → is_kept Between b ≡ true
other_kept b h = not-false (is_no_blank b) h

-- a comma or a colon, or none of the structural bytes
same_height : (h b : ℕ) → is_bracket b ≡ false → turned h (sign_of b) ≡ h
same_height h b c =
    let e1 : (b == 0x5b) ≡ false = grind (arith, nat_tests) in
    let e2 : (b == 0x7b) ≡ false = grind (arith, nat_tests) in
    let e3 : (b == 0x5d) ≡ false = grind (arith, nat_tests) in
    let e4 : (b == 0x7d) ≡ false = grind (arith, nat_tests) in
    rw (e1, e2, e3, e4) (last (b == 0x2c) (b == 0x3a))
  where
    last : (m n : Bool) → turned h (if m then sign.Comma else if n then sign.Colon else sign.Other) ≡ h
    last true n = refl
    last false true = refl
    last false false = refl

pub high_turn : (h b : ℕ) → 1 < h → turn_by h (sign_of b) ≡ Stay
high_turn zero b lt = absurd (omega (arith, lt))
high_turn (suc zero) b lt = absurd (omega (arith, lt))
high_turn (suc (suc n)) b lt = refl

-- it is kept, ends nothing and opens nothing
pub record Still (p : Place) (h b : ℕ) : Type 0 where
  pub turn : turn_at p h b ≡ Stay
  pub stays : is_kept p b ≡ true
  pub height : height_next p h b ≡ h

pub still_at : (p : Place) (h b : ℕ) → 1 < h → (p ≡ Between → is_bracket b ≡ false) → (p ≡ Between → is_blank b ≡ false) → Still p h b
still_at Between h b lt none solid = record { turn = high_turn h b lt; stays = other_kept b (solid refl); height = same_height h b (none refl) }
still_at Inside h b lt none solid = record { turn = refl; stays = refl; height = refl }
still_at Escaped h b lt none solid = record { turn = refl; stays = refl; height = refl }

other_sign : (b : ℕ) → is_bracket b ≡ false → is_border b ≡ false → sign_of b ≡ sign.Other
other_sign b c d =
    let e1 : (b == 0x5b) ≡ false = grind (arith, nat_tests) in
    let e2 : (b == 0x7b) ≡ false = grind (arith, nat_tests) in
    let e3 : (b == 0x5d) ≡ false = grind (arith, nat_tests) in
    let e4 : (b == 0x7d) ≡ false = grind (arith, nat_tests) in
    let e5 : (b == 0x2c) ≡ false = grind (arith, nat_tests) in
    let e6 : (b == 0x3a) ≡ false = grind (arith, nat_tests) in
    rw (e1, e2, e3, e4, e5, e6) refl

-- at any height, where it is no comma and no colon either
pub still_flat : (p : Place) (h b : ℕ) → (p ≡ Between → is_bracket b ≡ false) → (p ≡ Between → is_blank b ≡ false) → (p ≡ Between → is_border b ≡ false) → Still p h b
still_flat Between h b none solid plain = record {
  turn = ap (turn_by h) (other_sign b (none refl) (plain refl)) ∙ turn_other h;
  stays = other_kept b (solid refl);
  height = ap (turned h) (other_sign b (none refl) (plain refl));
}
still_flat Inside h b none solid plain = record { turn = refl; stays = refl; height = refl }
still_flat Escaped h b none solid plain = record { turn = refl; stays = refl; height = refl }

deep_still : (b : ℕ) → is_deep b ≡ true → is_bracket b ≡ false
deep_still b c = grind (arith, nat_tests)

deep_solid : (b : ℕ) → is_deep b ≡ true → is_blank b ≡ false
deep_solid b c = grind (arith, nat_tests)

deep_next : (b : ℕ) → is_deep b ≡ true → next Between b ≡ Between
deep_next b c = let e : (b == 0x22) ≡ false = grind (arith, nat_tests) in rw e refl

pub deep_keeps : (h b : ℕ) → 1 < h → is_deep b ≡ true → Keeps Between h b
deep_keeps h b lt c =
    record { turn = high_turn h b lt; stays = other_kept b (deep_solid b c); place = deep_next b c; height = same_height h b (deep_still b c) }

flat_deep : (b : ℕ) → is_flat b ≡ true → is_deep b ≡ true
flat_deep b c = grind (arith, nat_tests)

flat_sign : (b : ℕ) → is_flat b ≡ true → sign_of b ≡ sign.Other
flat_sign b c =
    let e1 : (b == 0x5b) ≡ false = grind (arith, nat_tests) in
    let e2 : (b == 0x7b) ≡ false = grind (arith, nat_tests) in
    let e3 : (b == 0x5d) ≡ false = grind (arith, nat_tests) in
    let e4 : (b == 0x7d) ≡ false = grind (arith, nat_tests) in
    let e5 : (b == 0x2c) ≡ false = grind (arith, nat_tests) in
    let e6 : (b == 0x3a) ≡ false = grind (arith, nat_tests) in
    rw (e1, e2, e3, e4, e5, e6) refl

pub flat_keeps : (h b : ℕ) → is_flat b ≡ true → Keeps Between h b
flat_keeps h b c =
    let d : is_deep b ≡ true = flat_deep b c in
    record { turn = ap (turn_by h) (flat_sign b c) ∙ turn_other h; stays = other_kept b (deep_solid b d); place = deep_next b d; height = same_height h b (deep_still b d) }

-- ---- blanks

-- it is not kept, and the byte behind it stands where it stood
pub record Leaves (b : ℕ) : Type 0 where
  pub sign_is : sign_of b ≡ sign.Other
  pub place : next Between b ≡ Between
  pub none : kept Between b ≡ []

pub blank_leaves : (b : ℕ) → is_blank b ≡ true → Leaves b
blank_leaves b h = first (b == 0x20) refl h
  where
    of : (c : ℕ) → (b == c) ≡ true → Leaves c → Leaves b
    of c q l = subst Leaves (sym (eqb-true b c q)) l

    last : (m : Bool) → (b == 0x0d) ≡ m → not (if m then false else true) ≡ true → Leaves b
    last true q h = of 0x0d q (record { sign_is = refl; place = refl; none = refl })
    last false q h = absurd cc

    third : (m : Bool) → (b == 0x0a) ≡ m → not (if m then false else if b == 0x0d then false else true) ≡ true → Leaves b
    third true q h = of 0x0a q (record { sign_is = refl; place = refl; none = refl })
    third false q h = last (b == 0x0d) refl h

    second : (m : Bool) → (b == 0x09) ≡ m → not (if m then false else if b == 0x0a then false else if b == 0x0d then false else true) ≡ true → Leaves b
    second true q h = of 0x09 q (record { sign_is = refl; place = refl; none = refl })
    second false q h = third (b == 0x0a) refl h

    first : (m : Bool) → (b == 0x20) ≡ m → not (if m then false else if b == 0x09 then false else if b == 0x0a then false else if b == 0x0d then false else true) ≡ true → Leaves b
    first true q h = of 0x20 q (record { sign_is = refl; place = refl; none = refl })
    first false q h = second (b == 0x09) refl h

-- ---- what is marked

pub bracket_solid : (b : ℕ) → is_bracket b ≡ true → is_blank b ≡ false
bracket_solid b h = grind (arith, nat_tests)

pub border_solid : (b : ℕ) → is_border b ≡ true → is_blank b ≡ false
border_solid b h = grind (arith, nat_tests)
