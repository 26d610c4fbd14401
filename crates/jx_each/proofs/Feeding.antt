-- A block whose commas alone do anything: each of them ends an element.
use Rattle.std.specs.Prelude.{◌&&◌, if◌then◌else◌, slice_range}
use Rattle.std.specs.Simd.Lanes.{chunk, mask_l, sel_l}
use Rattle.std.proofs.Common.{◌≡◌, ℕ, zero, suc, ◌+◌, ◌-◌, ◌<◌, ◌≤◌, List, [], ◌∷◌, ◌++◌, length, take, get_or, map, replicate, append_assoc, Bool, true, false, not, bit_or, cond, inl, inr, refl, sym, ap, subst, ◌∙◌, arith}
use Rattle.std.proofs.lemmas.Bool.{cases_lt, eqb-true, not-false}
use Rattle.std.proofs.lemmas.List.{append-nil, get_or-map, length-append, length-map, length-take-le, take_all, take_more}
use Rattle.std.proofs.lemmas.Simd.{get_or-chunk, length-chunk}
use Rattle.jx_compact.specs.declared.place.Place.{Place}
use Rattle.jx_compact.specs.declared.place.Place.TheVariants.{Between}
use Rattle.jx_compact.specs.Compact.{next}
use Rattle.jx_lex.specs.inside.Bits.{bit}
use Rattle.jx_lex.proofs.Bits.{bit-mask, bit-none}
use Rattle.jx_lex.proofs.Slices.{slice-more, slice-none}
use Rattle.jx_each.specs.declared.blocks.Words.{Words}
use Rattle.jx_each.specs.declared.nest.Nest.{Nest}
use Rattle.jx_each.specs.Turns.{height_next}
use Rattle.jx_each.specs.inside.Blocks.{IsTold, in_at, place_at}
use Rattle.jx_each.specs.inside.Flat.{IsFlat, fed, is_comma}
use Rattle.jx_each.specs.inside.Stretches.{IsLed, IsStretch}
use Rattle.jx_each.proofs.Keeping.{Still}
use Rattle.jx_each.proofs.Leading.{led_border, led_none_at, led_slice, led_stretch}
use Rattle.jx_each.proofs.Stretching.{one_stretch}
use Rattle.jx_each.proofs.Walking.{flat_still, neither}

-- ---- what was looked at

both_not : (a b : Bool) → (a && b) ≡ false → a ≡ true → b ≡ false
both_not true b h q = h
both_not false b h q = let e : false ≡ true = q in absurd cc

pub flat_is : (v : List ℕ) (w : Words) (begun : Bool) (commas end : ℕ) → length v ≡ 64 → commas ≡ mask_l (map is_comma v) → w.len ≡ 64 → w.borders ≡ commas
    → bit_or w.brackets w.gaps ≡ 0 → ((k : ℕ) → k < 64 → (bit commas k && in_at (not begun) commas k) ≡ false) → end ≤ 64
    → ((k : ℕ) → end ≤ k → k < 64 → bit commas k ≡ false) → (0 < end → bit commas (end - 1) ≡ true) → IsFlat v w begun end
flat_is v w begun commas end long is whole borders none apart within behind last = record {
  whole = whole;
  brackets = λ k. (clear k).0;
  gaps = λ k. (clear k).1;
  borders = λ k lt. ap (λ (n : ℕ). bit n k) borders ∙ comma k lt;
  first = λ c. not-false begun (both_not (bit commas 0) (not begun) (apart 0 (omega arith)) (comma 0 (omega arith) ∙ c));
  apart = λ k lt c. sym (comma k (omega (arith, lt))) ∙ both_not (bit commas (suc k)) (bit commas k) (apart (suc k) lt) (comma (suc k) lt ∙ c);
  within = within;
  behind = λ k le lt. sym (comma k lt) ∙ behind k le lt;
  last = λ some. sym (comma (end - 1) (omega (arith, some, within))) ∙ last some;
}
  where
    comma : (k : ℕ) → k < 64 → bit commas k ≡ is_comma (get_or v k 0)
    comma k lt = ap (λ (n : ℕ). bit n k) is ∙ bit-mask is_comma v k (omega (arith, lt, long))

    clear : (k : ℕ) → (bit w.brackets k ≡ false) × (bit w.gaps k ≡ false)
    clear k = neither w.brackets w.gaps k (ap (λ (n : ℕ). bit n k) none ∙ bit-none k)

-- ---- line feeds in place of commas

pub sel_map : (p : ℕ → Bool) (a : ℕ) (v : List ℕ) → sel_l (map p v) (replicate (length v) a) v ≡ map (λ b. cond (p b) a b) v
sel_map p a [] = refl
sel_map p a (b ∷ v) = ap (λ (t : List ℕ). cond (p b) a b ∷ t) (sel_map p a v)

-- ---- what the bytes lead to

at_most : (m : Bool) (a b c : ℕ) → a ≤ c → b ≤ c → (if m then a else b) ≤ c
at_most true a b c x y = x
at_most false a b c x y = y

module _ (xs : List ℕ) (base : ℕ) (inside : Bool) (w : Words) (room : base + 64 ≤ length xs) (told : IsTold (chunk base 64 xs) inside w) (n : Nest) (out : List ℕ) (begun : Bool) (end : ℕ)
    (flat : IsFlat (chunk base 64 xs) w begun end) (one : n.height ≡ 1) (begins : n.begin ≤ length out) (opens : begun ≡ true → n.begin < length out) where
  abbrev v : List ℕ
  v = chunk base 64 xs

  long : length v ≡ 64
  long = length-chunk base 64 xs room

  abbrev comma_at : ℕ → Bool
  comma_at k = is_comma (get_or v k 0)

  -- where the element begins that is open behind so many bytes
  abbrev begin_at : ℕ → ℕ
  begin_at zero = n.begin
  begin_at (suc k) = if comma_at k then length out + suc k else begin_at k

  abbrev nest_at : ℕ → Nest
  nest_at k = record { begin = begin_at k; height = 1 }

  abbrev made_at : ℕ → List ℕ
  made_at k = out ++ take k (map fed v)

  made_long : (k : ℕ) → k ≤ 64 → length (made_at k) ≡ length out + k
  made_long k le =
      let all : length (map fed v) ≡ length v = length-map v fed in
      let some : length (take k (map fed v)) ≡ k = length-take-le k (map fed v) (omega (arith, le, all, long)) in
      length-append out (take k (map fed v)) ∙ ap (λ (m : ℕ). length out + m) some

  begin_le : (k : ℕ) → begin_at k ≤ length out + k
  begin_le zero = omega (arith, begins)
  begin_le (suc k) = let low : begin_at k ≤ length out + k = begin_le k in at_most (comma_at k) (length out + suc k) (begin_at k) (length out + suc k) (omega arith) (omega (arith, low))

  -- an element stands before each comma
  begin_lt : (k : ℕ) → k < 64 → comma_at k ≡ true → begin_at k < length out + k
  begin_lt zero lt c = let some : n.begin < length out = opens (flat.first c) in omega (arith, some)
  begin_lt (suc k) lt c =
      let none : comma_at k ≡ false = flat.apart k lt c in
      let same : begin_at (suc k) ≡ begin_at k = ap (λ (m : Bool). if m then length out + suc k else begin_at k) none in
      let low : begin_at k ≤ length out + k = begin_le k in
      omega (arith, same, low)

  fed_more : (k : ℕ) → k < 64 → made_at (suc k) ≡ made_at k ++ fed (get_or v k 0) ∷ []
  fed_more k lt =
      let more : suc k ≡ k + 1 = omega arith in
      let all : length (map fed v) ≡ length v = length-map v fed in
      ap made_at more
      ∙ ap (λ (l : List ℕ). out ++ l) (take_more (map fed v) k 0 (omega (arith, lt, all, long)) ∙ ap (λ (b : ℕ). take k (map fed v) ++ b ∷ []) (get_or-map fed v k 0 0 (omega (arith, lt, long))))
      ∙ sym (append_assoc out (take k (map fed v)) (fed (get_or v k 0) ∷ []))

  abbrev place : ℕ → Place
  place k = place_at inside w k

  -- over one byte
  over : (k : ℕ) → k < 64 → (m : Bool) → comma_at k ≡ m → IsLed (place k) (nest_at k) (made_at k) (get_or v k 0 ∷ []) (place (suc k)) (nest_at (suc k)) (made_at (suc k))
  over k lt true q =
      let b : ℕ = get_or v k 0 in
      let is : b ≡ 0x2c = eqb-true b 0x2c q in
      let o = told.borders.outside k lt (flat.borders k lt ∙ q) in
      let next_begin : begin_at (suc k) ≡ length out + suc k = ap (λ (m : Bool). if m then length out + suc k else begin_at k) q in
      let count : length (made_at k) ≡ length out + k = made_long k (omega (arith, lt)) in
      let low : begin_at k < length out + k = begin_lt k lt q in
      let feed : made_at (suc k) ≡ made_at k ++ 0x0a ∷ [] = fed_more k lt ∙ ap (λ (m : Bool). made_at k ++ (if m then 0x0a else b) ∷ []) q in
      subst (λ (l : List ℕ). IsLed (place k) (nest_at k) (made_at k) (b ∷ []) (place (suc k)) (nest_at (suc k)) l) (sym feed)
      (subst (λ (p : Place). IsLed p (nest_at k) (made_at k) (b ∷ []) (place (suc k)) (nest_at (suc k)) (made_at k ++ 0x0a ∷ [])) (sym o.0)
      (subst (λ (p : Place). IsLed Between (nest_at k) (made_at k) (b ∷ []) p (nest_at (suc k)) (made_at k ++ 0x0a ∷ [])) (sym o.1)
      (subst (λ (c : ℕ). IsLed Between (nest_at k) (made_at k) (c ∷ []) Between (nest_at (suc k)) (made_at k ++ 0x0a ∷ [])) (sym is)
      (led_border (nest_at k) (nest_at (suc k)) (made_at k) (omega (arith, low, count)) refl refl (omega (arith, next_begin, count))))))
  over k lt false q =
      let b : ℕ = get_or v k 0 in
      let same : get_or xs (base + k) 0 ≡ b = sym (get_or-chunk base 64 xs k 0 lt) in
      let begin : begin_at (suc k) ≡ begin_at k = ap (λ (m : Bool). if m then length out + suc k else begin_at k) q in
      let count : length (made_at k) ≡ length out + k = made_long k (omega (arith, lt)) in
      let low : begin_at k ≤ length out + k = begin_le k in
      let kept : made_at (suc k) ≡ made_at k ++ b ∷ [] = fed_more k lt ∙ ap (λ (m : Bool). made_at k ++ (if m then 0x0a else b) ∷ []) q in
      let still : Still (place k) 1 b = subst (Still (place k) 1) same (flat_still xs base inside w room told 1 k lt (flat.brackets k) (flat.gaps k) (flat.borders k lt ∙ q)) in
      let on : next (place k) b ≡ place (suc k) = told.goes k lt in
      subst (λ (l : List ℕ). IsLed (place k) (nest_at k) (made_at k) (b ∷ []) (place (suc k)) (nest_at (suc k)) l) (sym kept)
      (subst (λ (j : ℕ). IsLed (place k) (nest_at k) (made_at k) (b ∷ []) (place (suc k)) (record { begin = j; height = 1 }) (made_at k ++ b ∷ [])) (sym begin)
      (led_stretch (place k) (place (suc k)) (nest_at k) 1 (made_at k) (b ∷ []) (omega (arith, low, count))
      (subst (λ (h : ℕ). IsStretch (place k) 1 (b ∷ []) (place (suc k)) h) still.height
      (subst (λ (p : Place). IsStretch (place k) 1 (b ∷ []) p (height_next (place k) 1 b)) on (one_stretch (place k) 1 b still.turn still.stays)))))

  up_to : (k : ℕ) → k ≤ 64 → IsLed (place 0) (nest_at 0) out (slice_range xs base (base + k)) (place k) (nest_at k) (made_at k)
  up_to zero le =
      let start : base + 0 ≡ base = omega arith in
      subst (λ (l : List ℕ). IsLed (place 0) (nest_at 0) out (slice_range xs base (base + 0)) (place 0) (nest_at 0) l) (sym (append-nil out))
      (subst (λ (j : ℕ). IsLed (place 0) (nest_at 0) out (slice_range xs base j) (place 0) (nest_at 0) out) (sym start) (led_none_at (place 0) (nest_at 0) out xs base))
  up_to (suc k) le =
      let lt : k < 64 = omega (arith, le) in
      let v_at : get_or xs (base + k) 0 ≡ get_or v k 0 = sym (get_or-chunk base 64 xs k 0 lt) in
      let end_is : base + suc k ≡ base + k + 1 = omega arith in
      let one_byte : slice_range xs (base + k) (base + suc k) ≡ get_or v k 0 ∷ [] =
      ap (slice_range xs (base + k)) end_is
      ∙ slice-more xs (base + k) (base + k) 0 (omega arith) (omega (arith, lt, room))
      ∙ ap (λ (l : List ℕ). l ++ get_or xs (base + k) 0 ∷ []) (slice-none xs (base + k))
      ∙ ap (λ (b : ℕ). b ∷ []) v_at in
      led_slice xs base (base + k) (base + suc k) (omega arith) (omega arith) (up_to k (omega (arith, le)))
      (subst (λ (l : List ℕ). IsLed (place k) (nest_at k) (made_at k) l (place (suc k)) (nest_at (suc k)) (made_at (suc k))) (sym one_byte) (over k lt (comma_at k) refl))

  -- behind the last comma nothing begins
  begins_on : (d : ℕ) → end + d ≤ 64 → begin_at (end + d) ≡ begin_at end
  begins_on zero le = let same : end + 0 ≡ end = omega arith in ap begin_at same
  begins_on (suc d) le =
      let more : end + suc d ≡ suc (end + d) = omega arith in
      ap begin_at more
      ∙ ap (λ (m : Bool). if m then length out + suc (end + d) else begin_at (end + d)) (flat.behind (end + d) (omega arith) (omega (arith, le)))
      ∙ begins_on d (omega (arith, le))

  begins_last : (e : ℕ) → e ≡ end → 0 < e → begin_at e ≡ length out + e
  begins_last zero is some = absurd (omega (arith, some))
  begins_last (suc e) is some =
      let before : end - 1 ≡ e = omega (arith, is) in
      ap (λ (m : Bool). if m then length out + suc e else begin_at e) (ap comma_at (sym before) ∙ flat.last (omega (arith, is)))

  pub led_flat : (longer : List ℕ) (m : Nest) → longer ≡ out ++ map fed v → m.height ≡ 1 → (end ≡ 0 → m.begin ≡ n.begin) → (0 < end → m.begin ≡ length out + end)
      → IsLed (place_at inside w 0) n out (slice_range xs base (base + 64)) (place_at inside w 64) m longer
  led_flat longer m is flat_too none_ends some_end =
      let rest : end + (64 - end) ≡ 64 = omega (arith, flat.within) in
      let on : begin_at 64 ≡ begin_at end = ap begin_at (sym rest) ∙ begins_on (64 - end) (omega (arith, flat.within)) in
      let last : m.begin ≡ begin_at 64 = elim (cases_lt 0 end) [
        | inl lt ↦ some_end lt ∙ sym (begins_last end refl lt) ∙ sym on
        | inr ge ↦ (let e : end ≡ 0 = omega (arith, ge) in none_ends e ∙ sym (ap begin_at e) ∙ sym on)
      ] in
      let count : length (map fed v) ≡ 64 = length-map v fed ∙ long in
      let whole : made_at 64 ≡ longer = ap (λ (l : List ℕ). out ++ l) (take_all 64 (map fed v) (omega (arith, count))) ∙ sym is in
      subst (λ (h : ℕ). IsLed (place 0) (record { begin = n.begin; height = h }) out (slice_range xs base (base + 64)) (place 64) m longer) (sym one)
      (subst (λ (h : ℕ). IsLed (place 0) (nest_at 0) out (slice_range xs base (base + 64)) (place 64) (record { begin = m.begin; height = h }) longer) (sym flat_too)
      (subst (λ (j : ℕ). IsLed (place 0) (nest_at 0) out (slice_range xs base (base + 64)) (place 64) (record { begin = j; height = 1 }) longer) (sym last)
      (subst (λ (l : List ℕ). IsLed (place 0) (nest_at 0) out (slice_range xs base (base + 64)) (place 64) (nest_at 64) l) whole (up_to 64 (omega arith)))))
