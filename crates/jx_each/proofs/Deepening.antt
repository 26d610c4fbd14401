-- A block in which no element ends: two containers or more are open in front of each byte.
use Rattle.std.specs.Prelude.{slice_range}
use Rattle.std.specs.Simd.Lanes.{chunk}
use Rattle.std.proofs.Common.{◌≡◌, ℕ, zero, suc, ◌+◌, ◌-◌, ◌<◌, ◌≤◌, List, ◌++◌, length, take, drop, get_or, Bool, true, false, inl, inr, refl, sym, ap, subst, ◌∙◌, arith}
use Rattle.std.proofs.lemmas.Bool.{cases_lt}
use Rattle.std.proofs.lemmas.List.{length-take-le, take-append-drop}
use Rattle.std.proofs.lemmas.Simd.{get_or-chunk}
use Rattle.jx_compact.specs.declared.place.Place.{Place}
use Rattle.jx_compact.specs.declared.place.Place.TheVariants.{Between, Inside, Escaped}
use Rattle.jx_compact.specs.Compact.{is_kept, next}
use Rattle.jx_lex.specs.inside.Bits.{bit}
use Rattle.jx_each.specs.declared.blocks.Words.{Words}
use Rattle.jx_each.specs.declared.nest.Nest.{Nest}
use Rattle.jx_each.specs.declared.sign.Turn.TheVariants.{Stay}
use Rattle.jx_each.specs.Turns.{height_next, turn_at, turned}
use Rattle.jx_each.specs.inside.Blocks.{IsTold, place_at}
use Rattle.jx_each.specs.inside.Deep.{IsDeep, height_at}
use Rattle.jx_each.specs.inside.Runs.{is_blank}
use Rattle.jx_each.specs.inside.Stretches.{IsLed, IsStretch}
use Rattle.jx_each.proofs.Ending.{led_gap, put_copied}
use Rattle.jx_each.proofs.Keeping.{blank_leaves, high_turn, other_kept}
use Rattle.jx_each.proofs.Leading.{led_none_at, led_slice, led_stretch}
use Rattle.jx_each.proofs.Stretching.{none_stretch, push_stretch}
use Rattle.jx_each.proofs.Walking.{deep_still}

deep_turn : (p : Place) (h b : ℕ) → 1 < h → turn_at p h b ≡ Stay
deep_turn Between h b lt = high_turn h b lt
deep_turn Inside h b lt = refl
deep_turn Escaped h b lt = refl

solid_kept : (p : Place) (b : ℕ) → (p ≡ Between → is_blank b ≡ false) → is_kept p b ≡ true
solid_kept Between b solid = other_kept b (solid refl)
solid_kept Inside b solid = refl
solid_kept Escaped b solid = refl

module _ (xs : List ℕ) (base : ℕ) (inside : Bool) (w : Words) (room : base + 64 ≤ length xs) (told : IsTold (chunk base 64 xs) inside w) (height : ℕ) where
  abbrev v : List ℕ
  v = chunk base 64 xs

  abbrev place : ℕ → Place
  place k = place_at inside w k

  abbrev open_at : ℕ → ℕ
  open_at k = height_at v inside w height k

  byte_is : (k : ℕ) → k < 64 → get_or v k 0 ≡ get_or xs (base + k) 0
  byte_is k lt = get_or-chunk base 64 xs k 0 lt

  -- ---- bytes that open and close nothing

  level : (at n : ℕ) → ((k : ℕ) → at ≤ k → k < at + n → height_next (place k) (open_at k) (get_or v k 0) ≡ open_at k) → open_at (at + n) ≡ open_at at
  level at zero same = let e : at + zero ≡ at = omega arith in ap open_at e
  level at (suc n) same =
      let e : at + suc n ≡ suc (at + n) = omega arith in
      ap open_at e ∙ same (at + n) (omega arith) (omega arith) ∙ level at n (λ k low lt. same k low (omega (arith, lt)))

  level_to : (at to : ℕ) → at ≤ to → ((k : ℕ) → at ≤ k → k < to → height_next (place k) (open_at k) (get_or v k 0) ≡ open_at k) → open_at to ≡ open_at at
  level_to at to low same =
      let e : at + (to - at) ≡ to = omega (arith, low) in
      ap open_at (sym e) ∙ level at (to - at) (λ k l lt. same k l (omega (arith, low, lt)))

  blank_level : (k : ℕ) → k < 64 → bit w.gaps k ≡ true → height_next (place k) (open_at k) (get_or v k 0) ≡ open_at k
  blank_level k lt on =
      let out = told.gaps.outside k lt on in
      ap (λ (p : Place). height_next p (open_at k) (get_or v k 0)) out.0 ∙ ap (turned (open_at k)) (blank_leaves (get_or v k 0) out.2).sign_is

  plain_level : (k : ℕ) → k < 64 → 1 < open_at k → bit w.brackets k ≡ false → height_next (place k) (open_at k) (get_or v k 0) ≡ open_at k
  plain_level k lt gt clear = pick (bit w.gaps k) refl
    where
      pick : (m : Bool) → bit w.gaps k ≡ m → height_next (place k) (open_at k) (get_or v k 0) ≡ open_at k
      pick true q = blank_level k lt q
      pick false q = ap (height_next (place k) (open_at k)) (byte_is k lt) ∙ (deep_still xs base inside w room told (open_at k) k gt lt clear q).height

  -- ---- from one bracket to the next

  module _ (at stop h : ℕ) (low : at ≤ stop) (most : stop ≤ 64) (here : open_at at ≡ h) (gt : 1 < h) (none : (k : ℕ) → at ≤ k → k < stop → bit w.brackets k ≡ false) where
    open_by : (n : ℕ) → at + n ≤ stop → open_at (at + n) ≡ h
    open_by zero le = let e : at + zero ≡ at = omega arith in ap open_at e ∙ here
    open_by (suc n) le =
        let before : open_at (at + n) ≡ h = open_by n (omega (arith, le)) in
        let e : at + suc n ≡ suc (at + n) = omega arith in
        ap open_at e ∙ plain_level (at + n) (omega (arith, le, most)) (omega (arith, before, gt)) (none (at + n) (omega arith) (omega (arith, le))) ∙ before

    pub open_on : (k : ℕ) → at ≤ k → k ≤ stop → open_at k ≡ h
    open_on k from le = let e : at + (k - at) ≡ k = omega (arith, from) in ap open_at (sym e) ∙ open_by (k - at) (omega (arith, from, le))

    pub before_on : ((k : ℕ) → k < at → 1 < open_at k) → (k : ℕ) → k ≤ stop → 1 < open_at k
    before_on before k le = elim (cases_lt k at) [
      | inl lt ↦ before k lt
      | inr ge ↦ (let same : open_at k ≡ h = open_on k ge le in omega (arith, same, gt))
    ]

    pub open_over : stop < 64 → place stop ≡ Between → open_at (stop + 1) ≡ height_next Between h (get_or xs (base + stop) 0)
    open_over lt out =
        let more : stop + 1 ≡ suc stop = omega arith in
        ap open_at more
        ∙ ap (λ (p : Place). height_next p (open_at stop) (get_or v stop 0)) out
        ∙ ap (λ (m : ℕ). height_next Between m (get_or v stop 0)) (open_on stop low (omega arith))
        ∙ ap (height_next Between h) (byte_is stop lt)

  -- ---- what stays of a block

  module _ (high : ℕ) (deep : IsDeep (chunk base 64 xs) inside w height high) where
    stretch_run : (at n : ℕ) → at + n ≤ 64 → ((k : ℕ) → at ≤ k → k < at + n → bit w.gaps k ≡ false)
        → IsStretch (place at) (open_at at) (slice_range xs (base + at) (base + (at + n))) (place (at + n)) (open_at (at + n))
    stretch_run at zero le solid =
        let same : at ≡ at + zero = omega arith in
        subst (λ (m : ℕ). IsStretch (place at) (open_at at) (slice_range xs (base + at) (base + m)) (place m) (open_at m)) same (none_stretch (place at) (open_at at) xs (base + at))
    stretch_run at (suc n) le solid =
        let k : ℕ = at + n in
        let lt : k < 64 = omega (arith, le) in
        let b : ℕ = get_or xs (base + k) 0 in
        let same : get_or v k 0 ≡ b = byte_is k lt in
        let before : IsStretch (place at) (open_at at) (slice_range xs (base + at) (base + k)) (place k) (open_at k) = stretch_run at n (omega (arith, le)) (λ j low l. solid j low (omega (arith, l))) in
        let stays : is_kept (place k) b ≡ true = solid_kept (place k) b (λ out. subst (λ (c : ℕ). is_blank c ≡ false) same (told.gaps.still k lt (solid k (omega arith) (omega arith)) out)) in
        let pushed = push_stretch xs (base + at) (base + k) (omega arith) (omega (arith, lt, room)) (deep_turn (place k) (open_at k) b (deep.before k lt)) stays before in
        let u : List ℕ = slice_range xs (base + at) (base + k + 1) in
        let on : next (place k) b ≡ place (suc k) = subst (λ (c : ℕ). next (place k) c ≡ place (suc k)) same (told.goes k lt) in
        let more : suc k ≡ at + suc n = omega arith in
        let end : base + k + 1 ≡ base + suc k = omega arith in
        subst (λ (m : ℕ). IsStretch (place at) (open_at at) (slice_range xs (base + at) (base + m)) (place m) (open_at m)) more
        (subst (λ (j : ℕ). IsStretch (place at) (open_at at) (slice_range xs (base + at) j) (place (suc k)) (open_at (suc k))) end
        (subst (λ (q : Place). IsStretch (place at) (open_at at) u q (open_at (suc k))) on
        (subst (λ (h : ℕ). IsStretch (place at) (open_at at) u (next (place k) b) h) (ap (height_next (place k) (open_at k)) (sym same)) pushed)))

    stretch_to : (at to : ℕ) → at ≤ to → to ≤ 64 → ((k : ℕ) → at ≤ k → k < to → bit w.gaps k ≡ false) → IsStretch (place at) (open_at at) (slice_range xs (base + at) (base + to)) (place to) (open_at to)
    stretch_to at to low most solid =
        let e : at + (to - at) ≡ to = omega (arith, low) in
        subst (λ (m : ℕ). IsStretch (place at) (open_at at) (slice_range xs (base + at) (base + m)) (place m) (open_at m)) e
        (stretch_run at (to - at) (omega (arith, low, most)) (λ k l lt. solid k l (omega (arith, low, lt))))

    module _ (n : Nest) (tall : n.height ≡ height) (out : List ℕ) where
      -- so far this is made of a block
      abbrev Packed : ℕ → List ℕ → Type 0
      Packed at longer = IsLed (place 0) n out (slice_range xs base (base + at)) (place at) (record { begin = n.begin; height = open_at at }) longer

      pub packed_none : Packed 0 out
      packed_none =
          let start : base + 0 ≡ base = omega arith in
          subst (λ (h : ℕ). IsLed (place 0) n out (slice_range xs base (base + 0)) (place 0) (record { begin = n.begin; height = h }) out) tall
          (subst (λ (j : ℕ). IsLed (place 0) n out (slice_range xs base j) (place 0) n out) (sym start) (led_none_at (place 0) n out xs base))

      -- up to a blank
      pub packed_on : (made ys : List ℕ) (len at to : ℕ) → n.begin ≤ len → len + 64 ≤ length made → (at ≤ to) × (to ≤ 64) → ((k : ℕ) → at ≤ k → k < to → bit w.gaps k ≡ false)
          → take (len + 64) ys ≡ take len made ++ slice_range xs (base + at) (base + at + 64) → Packed at (take len made) → Packed to (take (len + (to - at)) ys)
      packed_on made ys len at to begins fits order solid is led =
          let low : at ≤ to = order.0 in
          let most : to ≤ 64 = order.1 in
          let count : length (take len made) ≡ len = length-take-le len made (omega (arith, fits)) in
          let ws : List ℕ = take (len + (to - at)) ys in
          let put = put_copied made ys xs len base at to room order fits is in
          let longer : ws ≡ take len made ++ slice_range xs (base + at) (base + to) =
          sym (take-append-drop (length ws - (to - at)) ws)
          ∙ ap (λ (l : List ℕ). l ++ drop (length ws - (to - at)) ws) put.1
          ∙ ap (λ (l : List ℕ). take len made ++ l) put.0.rest in
          let from : Nest = record { begin = n.begin; height = open_at at } in
          let last : Nest = record { begin = n.begin; height = open_at to } in
          led_slice xs base (base + at) (base + to) (omega arith) (omega (arith, low)) led
          (subst (λ (l : List ℕ). IsLed (place at) from (take len made) (slice_range xs (base + at) (base + to)) (place to) last l) (sym longer)
          (led_stretch (place at) (place to) from (open_at to) (take len made) (slice_range xs (base + at) (base + to)) (omega (arith, begins, count)) (stretch_to at to low most solid)))

      -- behind blanks
      pub packed_past : (longer : List ℕ) (to past : ℕ) → to ≤ past → past ≤ 64 → ((k : ℕ) → to ≤ k → k < past → bit w.gaps k ≡ true) → Packed to longer → Packed past longer
      packed_past longer to past low most all led =
          let whole : w.len ≡ 64 = deep.whole in
          let same : open_at past ≡ open_at to = level_to to past low (λ k l lt. blank_level k (omega (arith, lt, most)) (all k l lt)) in
          let nest : Nest = record { begin = n.begin; height = open_at to } in
          led_slice xs base (base + to) (base + past) (omega arith) (omega (arith, low)) led
          (subst (λ (h : ℕ). IsLed (place to) nest longer (slice_range xs (base + to) (base + past)) (place past) (record { begin = n.begin; height = h }) longer) (sym same)
          (led_gap xs base inside w room told nest longer to past low (omega (arith, most, whole)) all))

      pub packed_all : (longer : List ℕ) (at : ℕ) → at ≡ 64 → Packed at longer → IsLed (place 0) n out (slice_range xs base (base + 64)) (place 64) (record { begin = n.begin; height = high }) longer
      packed_all longer at is led =
          subst (λ (h : ℕ). IsLed (place 0) n out (slice_range xs base (base + 64)) (place 64) (record { begin = n.begin; height = h }) longer) deep.behind
          (subst (λ (j : ℕ). IsLed (place 0) n out (slice_range xs base (base + j)) (place j) (record { begin = n.begin; height = open_at j }) longer) is led)

      -- a block without blanks
      pub packed_whole : (longer : List ℕ) → n.begin ≤ length out → ((k : ℕ) → 0 ≤ k → k < 64 → bit w.gaps k ≡ false) → longer ≡ out ++ slice_range xs base (base + 64)
          → IsLed (place 0) n out (slice_range xs base (base + 64)) (place 64) (record { begin = n.begin; height = high }) longer
      packed_whole longer le solid is =
          let start : base + 0 ≡ base = omega arith in
          let from : Nest = record { begin = n.begin; height = open_at 0 } in
          let u : List ℕ = slice_range xs base (base + 64) in
          subst (λ (l : List ℕ). IsLed (place 0) n out u (place 64) (record { begin = n.begin; height = high }) l) (sym is)
          (subst (λ (h : ℕ). IsLed (place 0) n out u (place 64) (record { begin = n.begin; height = h }) (out ++ u)) deep.behind
          (subst (λ (h : ℕ). IsLed (place 0) (record { begin = n.begin; height = h }) out u (place 64) (record { begin = n.begin; height = open_at 64 }) (out ++ u)) (sym tall)
          (led_stretch (place 0) (place 64) from (open_at 64) out u le
          (subst (λ (j : ℕ). IsStretch (place 0) (open_at 0) (slice_range xs j (base + 64)) (place 64) (open_at 64)) start (stretch_to 0 64 (omega arith) (omega arith) solid)))))
