-- A walk over a block: from one byte that is marked outside of strings to the next.
use Rattle.std.specs.Prelude.{◌==◌, ◌||◌, slice_range}
use Rattle.std.specs.Simd.Lanes.{chunk}
use Rattle.std.proofs.Common.{◌≡◌, ◌⊎◌, inl, inr, ℕ, zero, suc, ◌+◌, ◌-◌, ◌/◌, ◌^◌, ◌<◌, ◌≤◌, List, length, get_or, Bool, true, false, bit_and, bit_or, refl, sym, ap, subst, ◌∙◌, arith}
use Rattle.std.proofs.lemmas.Bool.{cases_lt, or_parts, or_cases}
use Rattle.std.proofs.lemmas.Nat.Bits.{shr_and_one}
use Rattle.std.proofs.lemmas.Simd.{get_or-chunk}
use Rattle.jx_compact.specs.declared.place.Place.{Place}
use Rattle.jx_compact.specs.declared.place.Place.TheVariants.{Between}
use Rattle.jx_compact.specs.Compact.{is_kept, next}
use Rattle.jx_lex.specs.inside.Bits.{bit}
use Rattle.jx_lex.proofs.Bits.{bit-or}
use Rattle.jx_each.specs.Turns.{height_next}
use Rattle.jx_each.specs.declared.blocks.Words.{Words}
use Rattle.jx_each.specs.inside.Blocks.{IsMarked, IsTold, place_at, place_by, placed}
use Rattle.jx_each.specs.inside.Runs.{is_blank, is_border, is_bracket}
use Rattle.jx_each.specs.inside.Stretches.{IsPassed, IsStretch}
use Rattle.jx_each.proofs.Keeping.{Still, border_solid, bracket_solid, high_turn, other_kept, set_in, still_at, still_flat}
use Rattle.jx_each.proofs.Stretching.{blanks_passed, none_stretch, push_stretch}

pub bit_of : (s k : ℕ) → (bit_and (s / 2 ^ k) 1 == 1) ≡ bit s k
unfolding bit
bit_of s k = ap (λ (n : ℕ). n == 1) (shr_and_one s k)

-- ---- two words at once

pub neither : (a b k : ℕ) → bit (bit_or a b) k ≡ false → (bit a k ≡ false) × (bit b k ≡ false)
neither a b k h = or_parts (bit a k) (bit b k) (sym (bit-or a b k) ∙ h)

pub either : (a b k : ℕ) → bit (bit_or a b) k ≡ true → (bit a k ≡ true) ⊎ (bit b k ≡ true)
either a b k h = or_cases (bit a k) (bit b k) (sym (bit-or a b k) ∙ h)

left_of : (a b : Bool) → (a || b) ≡ true → b ≡ false → a ≡ true
left_of true b h e = refl
left_of false b h e = let x : true ≡ false = sym h ∙ e in absurd cc

pub first_of : (a b k : ℕ) → bit (bit_or a b) k ≡ true → bit b k ≡ false → bit a k ≡ true
first_of a b k h e = left_of (bit a k) (bit b k) (sym (bit-or a b k) ∙ h) e

module _ (xs : List ℕ) (base : ℕ) (inside : Bool) (w : Words) (room : base + 64 ≤ length xs) (told : IsTold (chunk base 64 xs) inside w) where
  byte_is : (k : ℕ) → k < 64 → get_or (chunk base 64 xs) k 0 ≡ get_or xs (base + k) 0
  byte_is k lt = get_or-chunk base 64 xs k 0 lt

  pub goes : (k : ℕ) → k < 64 → next (place_at inside w k) (get_or xs (base + k) 0) ≡ place_at inside w (suc k)
  goes k lt = subst (λ (b : ℕ). next (place_at inside w k) b ≡ place_at inside w (suc k)) (byte_is k lt) (told.goes k lt)

  -- what a word says of a byte
  clear_at : (set : ℕ → Bool) (word k : ℕ) → IsMarked set (chunk base 64 xs) inside w word → k < 64 → bit word k ≡ false → place_at inside w k ≡ Between → set (get_or xs (base + k) 0) ≡ false
  clear_at set word k m lt clear out = subst (λ (b : ℕ). set b ≡ false) (byte_is k lt) (m.still k lt clear out)

  pub set_at : (set : ℕ → Bool) (word k : ℕ) → IsMarked set (chunk base 64 xs) inside w word → k < 64 → bit word k ≡ true → set (get_or xs (base + k) 0) ≡ true
  set_at set word k m lt on = subst (λ (b : ℕ). set b ≡ true) (byte_is k lt) (m.outside k lt on).2

  pub deep_still : (h k : ℕ) → 1 < h → k < 64 → bit w.brackets k ≡ false → bit w.gaps k ≡ false → Still (place_at inside w k) h (get_or xs (base + k) 0)
  deep_still h k high lt b g =
      still_at (place_at inside w k) h (get_or xs (base + k) 0) high (clear_at is_bracket w.brackets k told.brackets lt b) (clear_at is_blank w.gaps k told.gaps lt g)

  pub flat_still : (h k : ℕ) → k < 64 → bit w.brackets k ≡ false → bit w.gaps k ≡ false → bit w.borders k ≡ false → Still (place_at inside w k) h (get_or xs (base + k) 0)
  flat_still h k lt b g o =
      still_flat (place_at inside w k) h (get_or xs (base + k) 0) (clear_at is_bracket w.brackets k told.brackets lt b) (clear_at is_blank w.gaps k told.gaps lt g)
      (clear_at is_border w.borders k told.borders lt o)

  -- bytes that are kept and turn nothing
  quiet_run : (h at n : ℕ) → at + n ≤ 64 → ((k : ℕ) → at ≤ k → k < at + n → Still (place_at inside w k) h (get_or xs (base + k) 0))
      → IsStretch (place_at inside w at) h (slice_range xs (base + at) (base + (at + n))) (place_at inside w (at + n)) h
  quiet_run h at zero le still =
      let p : Place = place_at inside w at in
      let same : at ≡ at + zero = omega arith in
      subst (λ (m : ℕ). IsStretch p h (slice_range xs (base + at) (base + m)) (place_at inside w m) h) same (none_stretch p h xs (base + at))
  quiet_run h at (suc n) le still =
      let p : Place = place_at inside w at in
      let k : ℕ = at + n in
      let lt : k < 64 = omega (arith, le) in
      let b : ℕ = get_or xs (base + k) 0 in
      let before : IsStretch p h (slice_range xs (base + at) (base + k)) (place_at inside w k) h =
      quiet_run h at n (omega (arith, le)) (λ j low l. still j low (omega (arith, l))) in
      let here : Still (place_at inside w k) h b = still k (omega arith) (omega arith) in
      let pushed = push_stretch xs (base + at) (base + k) (omega arith) (omega (arith, lt, room)) here.turn here.stays before in
      let v : List ℕ = slice_range xs (base + at) (base + k + 1) in
      let more : suc k ≡ at + suc n = omega arith in
      let end : base + k + 1 ≡ base + suc k = omega arith in
      subst (λ (m : ℕ). IsStretch p h (slice_range xs (base + at) (base + m)) (place_at inside w m) h) more
      (subst (λ (j : ℕ). IsStretch p h (slice_range xs (base + at) j) (place_at inside w (suc k)) h) end
      (subst (λ (q : Place). IsStretch p h v q h) (goes k lt)
      (subst (λ (i : ℕ). IsStretch p h v (next (place_at inside w k) b) i) here.height pushed)))

  -- from one place to another
  pub walk_quiet : (h at stop : ℕ) → at ≤ stop → stop ≤ 64 → ((k : ℕ) → at ≤ k → k < stop → Still (place_at inside w k) h (get_or xs (base + k) 0))
      → IsStretch (place_at inside w at) h (slice_range xs (base + at) (base + stop)) (place_at inside w stop) h
  walk_quiet h at stop low le still =
      let e : at + (stop - at) ≡ stop = omega (arith, low) in
      subst (λ (m : ℕ). IsStretch (place_at inside w at) h (slice_range xs (base + at) (base + m)) (place_at inside w m) h) e
      (quiet_run h at (stop - at) (omega (arith, low, le)) (λ k l lt. still k l (omega (arith, low, lt))))

  -- behind the bytes that are looked at
  pub end_is : place_at inside w w.len ≡ placed (bit w.strings (w.len - 1))
  end_is =
      let from : 63 ≤ w.len = told.bounds.0 in
      let all : w.len ≡ suc (w.len - 1) = omega (arith, from) in
      ap (place_at inside w) all ∙ ap (λ (m : Bool). place_by m (bit w.strings (w.len - 1))) told.ends

  -- a byte of a set outside of strings
  pub behind : (set : ℕ → Bool) (word k : ℕ) → IsMarked set (chunk base 64 xs) inside w word → k < 64 → bit word k ≡ true → next Between (get_or xs (base + k) 0) ≡ Between
  behind set word k m lt on =
      ap (λ (q : Place). next q (get_or xs (base + k) 0)) (sym (m.outside k lt on).0)
      ∙ goes k lt
      ∙ (m.outside k lt on).1

  -- ---- from a place on, where two containers or more are open, up to a bracket or a blank or to the end

  module _ (h at stop : ℕ) (high : 1 < h) (low : at ≤ stop) (none : (k : ℕ) → at ≤ k → k < stop → bit (bit_or w.brackets w.gaps) k ≡ false) where
    deep_quiet : stop ≤ 64 → IsStretch (place_at inside w at) h (slice_range xs (base + at) (base + stop)) (place_at inside w stop) h
    deep_quiet le = walk_quiet h at stop low le (λ k l lt. let n = neither w.brackets w.gaps k (none k l lt) in deep_still h k high (omega (arith, lt, le)) n.0 n.1)

    -- the rest of the block
    pub walk_end : stop ≡ 64 → w.len ≡ 64 → IsStretch (place_at inside w at) h (slice_range xs (base + at) (base + 64)) (placed (bit w.strings 63)) h
    walk_end is all =
        let last : w.len - 1 ≡ 63 = omega (arith, all) in
        let to : place_at inside w 64 ≡ placed (bit w.strings 63) = ap (place_at inside w) (sym all) ∙ end_is ∙ ap (λ (k : ℕ). placed (bit w.strings k)) last in
        subst (λ (q : Place). IsStretch (place_at inside w at) h (slice_range xs (base + at) (base + 64)) q h) to
        (subst (λ (m : ℕ). IsStretch (place_at inside w at) h (slice_range xs (base + at) (base + m)) (place_at inside w m) h) is (deep_quiet (omega (arith, is))))

    pub walk_stop : stop < 64 → place_at inside w stop ≡ Between → IsStretch (place_at inside w at) h (slice_range xs (base + at) (base + stop)) Between h
    walk_stop lt out = subst (λ (q : Place). IsStretch (place_at inside w at) h (slice_range xs (base + at) (base + stop)) q h) out (deep_quiet (omega (arith, lt)))

    -- over it, where it is a bracket
    pub walk_over : stop < 64 → bit w.brackets stop ≡ true → is_kept Between (get_or xs (base + stop) 0) ≡ true
        → IsStretch (place_at inside w at) h (slice_range xs (base + at) (base + (stop + 1))) Between (height_next Between h (get_or xs (base + stop) 0))
    walk_over lt set keeps =
        let b : ℕ = get_or xs (base + stop) 0 in
        let end : base + stop + 1 ≡ base + (stop + 1) = omega arith in
        subst (λ (j : ℕ). IsStretch (place_at inside w at) h (slice_range xs (base + at) j) Between (height_next Between h b)) end
        (subst (λ (q : Place). IsStretch (place_at inside w at) h (slice_range xs (base + at) (base + stop + 1)) q (height_next Between h b)) (behind is_bracket w.brackets stop told.brackets lt set)
        (push_stretch xs (base + at) (base + stop) (omega (arith, low)) (omega (arith, lt, room)) (high_turn h b high) keeps (walk_stop lt (told.brackets.outside stop lt set).0)))

  pub is_outside : (set : ℕ → Bool) (word k : ℕ) → IsMarked set (chunk base 64 xs) inside w word → k < 64 → bit word k ≡ true → place_at inside w (k + 1) ≡ Between
  is_outside set word k m lt on = let more : k + 1 ≡ suc k = omega arith in ap (place_at inside w) more ∙ (m.outside k lt on).1

  -- ---- blanks

  -- what stands behind blanks stands where they stand
  pub blanks_lead : (stop past : ℕ) → stop < past → past ≤ 64 → ((k : ℕ) → stop ≤ k → k < past → bit w.gaps k ≡ true) → place_at inside w past ≡ Between
  blanks_lead stop past lt le set =
      let last : suc (past - 1) ≡ past = omega (arith, lt) in
      ap (place_at inside w) (sym last) ∙ (told.gaps.outside (past - 1) (omega (arith, lt, le)) (set (past - 1) (omega (arith, lt)) (omega (arith, lt)))).1

  pub blanks_pass : (stop past : ℕ) → past ≤ 64 → ((k : ℕ) → stop ≤ k → k < past → bit w.gaps k ≡ true) → IsPassed Between (slice_range xs (base + stop) (base + past))
  blanks_pass stop past le set =
      blanks_passed Between (slice_range xs (base + stop) (base + past)) refl
      (set_in is_blank xs (base + stop) (base + past)
      (λ k low lt.
      let same : base + (k - base) ≡ k = omega (arith, low) in
      subst (λ (j : ℕ). is_blank (get_or xs j 0) ≡ true) same
      (set_at is_blank w.gaps (k - base) told.gaps (omega (arith, low, lt, le)) (set (k - base) (omega (arith, low)) (omega (arith, low, lt))))))

  -- ---- in an array, by a word of brackets, and where one container is open of commas and colons too

  module _ (h word : ℕ) (brackets : (k : ℕ) → bit word k ≡ false → bit w.brackets k ≡ false) (borders : h ≤ 1 → (k : ℕ) → bit word k ≡ false → bit w.borders k ≡ false)
      (set : (k : ℕ) → bit word k ≡ true → (bit w.brackets k ≡ true) ⊎ (bit w.borders k ≡ true)) where
    pub still_by : (k : ℕ) → k < 64 → bit word k ≡ false → bit w.gaps k ≡ false → Still (place_at inside w k) h (get_or xs (base + k) 0)
    still_by k lt clear solid = elim (cases_lt 1 h) [
      | inl high ↦ deep_still h k high lt (brackets k clear) solid
      | inr low ↦ flat_still h k lt (brackets k clear) solid (borders low k clear)
    ]

    pub stop_by : (k : ℕ) → k < 64 → bit word k ≡ true
        → (place_at inside w k ≡ Between) × (place_at inside w (k + 1) ≡ Between) × (next Between (get_or xs (base + k) 0) ≡ Between) × (is_kept Between (get_or xs (base + k) 0) ≡ true)
    stop_by k lt on = elim (set k on) [
      | inl b ↦ (
        (told.brackets.outside k lt b).0,
        is_outside is_bracket w.brackets k told.brackets lt b,
        behind is_bracket w.brackets k told.brackets lt b,
        other_kept (get_or xs (base + k) 0) (bracket_solid (get_or xs (base + k) 0) (set_at is_bracket w.brackets k told.brackets lt b)),
      )
      | inr b ↦ (
        (told.borders.outside k lt b).0,
        is_outside is_border w.borders k told.borders lt b,
        behind is_border w.borders k told.borders lt b,
        other_kept (get_or xs (base + k) 0) (border_solid (get_or xs (base + k) 0) (set_at is_border w.borders k told.borders lt b)),
      )
    ]
