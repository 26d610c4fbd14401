-- Bytes that were copied behind what was made, while the elements there are ended one after another.
use Rattle.std.specs.Prelude.{slice_range}
use Rattle.std.proofs.Common.{◌≡◌, ℕ, ◌+◌, ◌-◌, ◌<◌, ◌≤◌, List, [], ◌∷◌, ◌++◌, length, take, drop, get_or, Bool, true, inl, inr, refl, sym, ap, subst, ◌∙◌, arith}
use Rattle.std.specs.Simd.Lanes.{chunk}
use Rattle.std.proofs.lemmas.Bool.{cases_lt}
use Rattle.jx_lex.specs.inside.Bits.{bit}
use Rattle.std.proofs.lemmas.List.{append-nil, drop-drop, drop-take, drop_all, drop_at, get_or-drop, get_or-take, length-append, length-take-le, take-append-le, take_all, take_at}
use Rattle.std.proofs.Math.Seq.{take-add}
use Rattle.jx_lex.proofs.Running.{take-again}
use Rattle.jx_lex.proofs.Slices.{slice-length, slice-more, slice-none}
use Rattle.jx_compact.specs.declared.place.Place.{Place}
use Rattle.jx_compact.specs.declared.place.Place.TheVariants.{Between}
use Rattle.jx_each.specs.declared.nest.Nest.{Nest}
use Rattle.jx_each.specs.inside.Stretches.{IsLed, IsStretch}
use Rattle.jx_each.specs.declared.blocks.Words.{Words}
use Rattle.jx_each.specs.inside.Blocks.{IsTold, place_at}
use Rattle.jx_each.proofs.Leading.{led_none_at, led_passed, led_stretch}
use Rattle.jx_each.proofs.Walking.{blanks_lead, blanks_pass}

-- what was made before the last bytes, which are those from one place up to another
abbrev pub made_at : List ℕ → ℕ → ℕ → List ℕ
made_at ys at to = take (length ys - (to - at)) ys

-- the last bytes are those of a text
pub record Lies (ys xs : List ℕ) (base at to : ℕ) : Type 0 where
  pub long : to - at ≤ length ys
  pub rest : drop (length ys - (to - at)) ys ≡ slice_range xs (base + at) (base + to)

slice-drop : (xs : List ℕ) (a d c : ℕ) → a + d ≤ c → drop d (slice_range xs a c) ≡ slice_range xs (a + d) c
slice-drop xs a d c le =
    let e : c - a ≡ d + (c - (a + d)) = omega (arith, le) in
    ap (λ (n : ℕ). drop d (take n (drop a xs))) e
    ∙ drop-take d (c - (a + d)) (drop a xs)
    ∙ ap (take (c - (a + d))) (drop-drop d a xs)

slice-take : (xs : List ℕ) (a d c : ℕ) → a + d ≤ c → take d (slice_range xs a c) ≡ slice_range xs a (a + d)
slice-take xs a d c le =
    let e : a + d - a ≡ d = omega arith in
    take-again d (c - a) (drop a xs) (omega (arith, le)) ∙ ap (λ (n : ℕ). take n (drop a xs)) (sym e)

module _ (ys xs : List ℕ) (base at to : ℕ) (l : Lies ys xs base at to) where
  -- from a later byte on
  pub lies_on : (stop : ℕ) → at ≤ stop → stop ≤ to → Lies ys xs base stop to
  lies_on stop low high =
      let long : to - at ≤ length ys = l.long in
      let n : length ys - (to - stop) ≡ (length ys - (to - at)) + (stop - at) = omega (arith, low, high, long) in
      let k : base + at + (stop - at) ≡ base + stop = omega (arith, low) in
      record {
        long = omega (arith, low, high, long);
        rest =
            ap (λ (m : ℕ). drop m ys) n
            ∙ sym (drop-drop (stop - at) (length ys - (to - at)) ys)
            ∙ ap (drop (stop - at)) l.rest
            ∙ slice-drop xs (base + at) (stop - at) (base + to) (omega (arith, low, high))
            ∙ ap (λ (m : ℕ). slice_range xs m (base + to)) k;
      }

  -- a stretch was made then too
  pub lies_led : (p q : Place) (n : Nest) (stop : ℕ) → at ≤ stop → stop ≤ to → n.begin ≤ length ys - (to - at) → IsStretch p n.height (slice_range xs (base + at) (base + stop)) q n.height
      → IsLed p n (made_at ys at to) (slice_range xs (base + at) (base + stop)) q n (made_at ys stop to)
  lies_led p q n stop low high le s =
      let long : to - at ≤ length ys = l.long in
      let m : length ys - (to - stop) ≡ (length ys - (to - at)) + (stop - at) = omega (arith, low, high, long) in
      let k : base + at + (stop - at) ≡ base + stop = omega (arith, low) in
      let w : List ℕ = slice_range xs (base + at) (base + stop) in
      let more : made_at ys stop to ≡ made_at ys at to ++ w =
      ap (λ (j : ℕ). take j ys) m
      ∙ take-add (length ys - (to - at)) (stop - at) ys
      ∙ ap (λ (v : List ℕ). made_at ys at to ++ take (stop - at) v) l.rest
      ∙ ap (λ (v : List ℕ). made_at ys at to ++ v) (slice-take xs (base + at) (stop - at) (base + to) (omega (arith, low, high)) ∙ ap (slice_range xs (base + at)) k) in
      let count : length (made_at ys at to) ≡ length ys - (to - at) = length-take-le (length ys - (to - at)) ys (omega arith) in
      subst (λ (out : List ℕ). IsLed p n (made_at ys at to) w q n out) (sym more) (led_stretch p q n n.height (made_at ys at to) w (omega (arith, le, count)) s)

  -- the first one of them
  pub lies_byte : at < to → base + to ≤ length xs → get_or ys (length ys - (to - at)) 0 ≡ get_or xs (base + at) 0
  lies_byte lt room =
      let n : length ys - (to - at) + 0 ≡ length ys - (to - at) = omega arith in
      let k : base + at + 0 ≡ base + at = omega arith in
      ap (λ (j : ℕ). get_or ys j 0) (sym n)
      ∙ sym (get_or-drop (length ys - (to - at)) ys 0 0)
      ∙ ap (λ (v : List ℕ). get_or v 0 0) l.rest
      ∙ get_or-take (base + to - (base + at)) (drop (base + at) xs) 0 0 (omega (arith, lt))
      ∙ get_or-drop (base + at) xs 0 0
      ∙ ap (λ (j : ℕ). get_or xs j 0) k

  -- behind it, where it alone was written over
  pub lies_next : (zs : List ℕ) → at < to → length zs ≡ length ys → drop (length ys - (to - at) + 1) zs ≡ drop (length ys - (to - at) + 1) ys → Lies zs xs base (at + 1) to
  lies_next zs lt same rest =
      let long : to - at ≤ length ys = l.long in
      let n : length zs - (to - (at + 1)) ≡ length ys - (to - at) + 1 = omega (arith, lt, long, same) in
      let m : length ys - (to - (at + 1)) ≡ length ys - (to - at) + 1 = omega (arith, lt, long) in
      let on = lies_on (at + 1) (omega arith) (omega (arith, lt)) in
      record {
        long = omega (arith, lt, long, same);
        rest = ap (λ (j : ℕ). drop j zs) n ∙ rest ∙ ap (λ (j : ℕ). drop j ys) (sym m) ∙ on.rest;
      }

-- where they were just copied
pub lies_copied : (ys zs xs : List ℕ) (base at to : ℕ) → at ≤ to → base + to ≤ length xs → zs ≡ ys ++ slice_range xs (base + at) (base + to) → (Lies zs xs base at to) × (made_at zs at to ≡ ys) × (length zs - (to - at) ≡ length ys)
lies_copied ys zs xs base at to le room is =
    let long : base + to ≡ base + at + length (slice_range xs (base + at) (base + to)) = slice-length xs (base + at) (base + to) (omega (arith, le)) room in
    let both : length zs ≡ length ys + length (slice_range xs (base + at) (base + to)) = ap length is ∙ length-append ys (slice_range xs (base + at) (base + to)) in
    let n : length zs - (to - at) ≡ length ys = omega (arith, le, long, both) in (
      record {
        long = omega (arith, le, long, both);
        rest = ap (λ (j : ℕ). drop j zs) n ∙ ap (drop (length ys)) is ∙ drop_at ys (slice_range xs (base + at) (base + to)) (length ys) refl;
      },
      ap (λ (j : ℕ). take j zs) n ∙ ap (take (length ys)) is ∙ take_at ys (slice_range xs (base + at) (base + to)) (length ys) refl,
      n,
    )

-- bytes of a vector that were written over in place
pub written : (n : ℕ) (items old new : List ℕ) → old ≡ items → length old ≡ n → length new ≡ length old → take n (new ++ drop (length new) items) ≡ new
written n items old new is all same =
    let m : length old ≡ length items = ap length is in
    ap (λ (xs : List ℕ). take n (new ++ xs)) (drop_all (length new) items (omega (arith, same, m)))
    ∙ ap (take n) (append-nil new)
    ∙ take_all n new (omega (arith, same, all))

-- over one byte
pub led_stop : (ys zs xs : List ℕ) (base stop to at : ℕ) (p q : Place) (n m : Nest) → stop < to → to - stop ≤ length ys → base + to ≤ length xs → length zs ≡ length ys → at ≡ length ys - (to - stop) → p ≡ Between → q ≡ Between
    → IsLed Between n (take at ys) (get_or xs (base + stop) 0 ∷ []) Between m (take (at + 1) zs)
    → IsLed p n (made_at ys stop to) (slice_range xs (base + stop) (base + (stop + 1))) q m (made_at zs (stop + 1) to)
led_stop ys zs xs base stop to at p q n m lt long room same is from behind led =
    let v : List ℕ = get_or xs (base + stop) 0 ∷ [] in
    let k : base + (stop + 1) ≡ base + stop + 1 = omega arith in
    let j : at + 1 ≡ length zs - (to - (stop + 1)) = omega (arith, lt, long, same, is) in
    let one : slice_range xs (base + stop) (base + (stop + 1)) ≡ v =
    ap (slice_range xs (base + stop)) k ∙ slice-more xs (base + stop) (base + stop) 0 (omega arith) (omega (arith, lt, room)) ∙ ap (λ (w : List ℕ). w ++ v) (slice-none xs (base + stop)) in
    subst (λ (w : List ℕ). IsLed p n (made_at ys stop to) w q m (made_at zs (stop + 1) to)) (sym one)
    (subst (λ (r : Place). IsLed r n (made_at ys stop to) v q m (made_at zs (stop + 1) to)) (sym from)
    (subst (λ (r : Place). IsLed Between n (made_at ys stop to) v r m (made_at zs (stop + 1) to)) (sym behind)
    (subst (λ (i : ℕ). IsLed Between n (take i ys) v Between m (made_at zs (stop + 1) to)) is
    (subst (λ (i : ℕ). IsLed Between n (take at ys) v Between m (take i zs)) j led))))

-- of a block
pub copied_at : (ys zs xs : List ℕ) (base at to : ℕ) → base + 64 ≤ length xs → (at ≤ to) × (to ≤ 64) → zs ≡ ys ++ slice_range xs (base + at) (base + to)
    → (Lies zs xs base at to) × (made_at zs at to ≡ ys) × (length zs - (to - at) ≡ length ys)
copied_at ys zs xs base at to room order is =
    let most : to ≤ 64 = order.1 in
    lies_copied ys zs xs base at to order.0 (omega (arith, most, room)) is

-- ---- 64 bytes that were put behind what was made, of which some are looked at

-- as many of them
put_is : (made ys xs : List ℕ) (len base at to : ℕ) → (at ≤ to) × (to ≤ 64) → len + 64 ≤ length made → take (len + 64) ys ≡ take len made ++ slice_range xs (base + at) (base + at + 64)
    → take (len + (to - at)) ys ≡ take len made ++ slice_range xs (base + at) (base + to)
put_is made ys xs len base at to order room is =
    let low : at ≤ to = order.0 in
    let most : to ≤ 64 = order.1 in
    let front : List ℕ = take len made in
    let w : List ℕ = slice_range xs (base + at) (base + at + 64) in
    let count : length front ≡ len = length-take-le len made (omega (arith, room)) in
    let end : base + at + (to - at) ≡ base + to = omega (arith, low) in
    sym (take-again (len + (to - at)) (len + 64) ys (omega (arith, most)))
    ∙ ap (take (len + (to - at))) is
    ∙ take-add len (to - at) (front ++ w)
    ∙ ap (λ (v : List ℕ). v ++ take (to - at) (drop len (front ++ w))) (take_at front w len count)
    ∙ ap (λ (v : List ℕ). front ++ take (to - at) v) (drop_at front w len count)
    ∙ ap (λ (v : List ℕ). front ++ v) (slice-take xs (base + at) (to - at) (base + at + 64) (omega (arith, most)) ∙ ap (slice_range xs (base + at)) end)

module _ (made ys xs : List ℕ) (len base at to : ℕ) (inside : base + 64 ≤ length xs) (order : (at ≤ to) × (to ≤ 64)) (room : len + 64 ≤ length made)
    (is : take (len + 64) ys ≡ take len made ++ slice_range xs (base + at) (base + at + 64)) where
  pub put_copied : (Lies (take (len + (to - at)) ys) xs base at to) × (made_at (take (len + (to - at)) ys) at to ≡ take len made) × (length (take (len + (to - at)) ys) - (to - at) ≡ length (take len made))
  put_copied = copied_at (take len made) (take (len + (to - at)) ys) xs base at to inside order (put_is made ys xs len base at to order room is)

  pub put_long : length (take (len + (to - at)) ys) ≡ len + (to - at)
  put_long =
      let c = put_copied in
      let long : to - at ≤ length (take (len + (to - at)) ys) = c.0.long in
      let rest : length (take (len + (to - at)) ys) - (to - at) ≡ length (take len made) = c.2 in
      let count : length (take len made) ≡ len = length-take-le len made (omega (arith, room)) in
      omega (arith, long, rest, count)

  -- what they lead to
  pub put_led : (ws rest w : List ℕ) (k : ℕ) (p q : Place) (n m : Nest) → length ws ≡ length (take (len + (to - at)) ys) → IsLed p n (made_at (take (len + (to - at)) ys) at to) w q m (made_at ws k to)
      → IsLed p n (take len made) w q m (take (len + (to - at) - (to - k)) (ws ++ rest))
  put_led ws rest w k p q n m same led =
      let long : length ws ≡ len + (to - at) = same ∙ put_long in
      let cut : take (len + (to - at) - (to - k)) (ws ++ rest) ≡ made_at ws k to =
      take-append-le (len + (to - at) - (to - k)) ws rest (omega (arith, long)) ∙ ap (λ (j : ℕ). take (j - (to - k)) ws) (sym long) in
      subst (λ (out : List ℕ). IsLed p n out w q m (take (len + (to - at) - (to - k)) (ws ++ rest))) put_copied.1
      (subst (λ (out : List ℕ). IsLed p n (made_at (take (len + (to - at)) ys) at to) w q m out) (sym cut) led)

-- ---- blanks of a block

module _ (xs : List ℕ) (base : ℕ) (inside : Bool) (w : Words) (room : base + 64 ≤ length xs) (told : IsTold (chunk base 64 xs) inside w) where
  pub led_gap : (n : Nest) (out : List ℕ) (to past : ℕ) → to ≤ past → past ≤ w.len → ((k : ℕ) → to ≤ k → k < past → bit w.gaps k ≡ true)
      → IsLed (place_at inside w to) n out (slice_range xs (base + to) (base + past)) (place_at inside w past) n out
  led_gap n out to past low high all =
      let most : w.len ≤ 64 = told.bounds.1 in
      elim (cases_lt to past) [
        | inl lt ↦ subst (λ (p : Place). IsLed p n out (slice_range xs (base + to) (base + past)) (place_at inside w past) n out) (sym (told.gaps.outside to (omega (arith, lt, high, most)) (all to (omega arith) lt)).0)
            (subst (λ (q : Place). IsLed Between n out (slice_range xs (base + to) (base + past)) q n out) (sym (blanks_lead xs base inside w room told to past lt (omega (arith, high, most)) all))
            (led_passed Between n out (slice_range xs (base + to) (base + past)) (blanks_pass xs base inside w room told to past (omega (arith, high, most)) all)))
        | inr ge ↦ (let same : to ≡ past = omega (arith, low, ge) in
            subst (λ (j : ℕ). IsLed (place_at inside w to) n out (slice_range xs (base + to) (base + j)) (place_at inside w j) n out) same (led_none_at (place_at inside w to) n out xs (base + to)))
      ]
