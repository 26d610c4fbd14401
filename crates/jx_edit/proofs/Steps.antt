-- Positions at even steps of bytes.
use Rattle.std.proofs.Common.{◌≡◌, ℕ, ◌+◌, ◌*◌, ◌-◌, ◌^◌, ◌<◌, ◌≤◌, List, [], ◌∷◌, ◌++◌, false, length, take, drop, get_or, min, refl, sym, ap, subst, ◌∙◌, arith, inl, inr, length-append}
use Rattle.std.proofs.lemmas.Bool.{cases_lt}
use Rattle.std.proofs.lemmas.List.{get_or_append_left, get_or_push, length-drop, length-take, take-append-drop, take_min}
use Rattle.std.proofs.Math.Seq.{take-add}
use Rattle.jx_edit.specs.declared.positions.encoding.Encoding.{Encoding}
use Rattle.jx_edit.specs.declared.positions.position.Position.{Position}
use Rattle.jx_edit.specs.declared.positions.position.Reached.{Reached}
use Rattle.jx_edit.specs.Positions.{first, is_behind, position_behind, reach}
use Rattle.jx_edit.specs.declared.positions.steps.Step.{Step}
use Rattle.jx_edit.specs.inside.Moves.{joined, position_of}
use Rattle.jx_edit.specs.inside.Nearing.{IsBefore}
use Rattle.jx_edit.proofs.Counting.{behind_character, behind_line, reach_over}
use Rattle.jx_edit.proofs.Seeking.{joined_fits, joined_is, over_position}
use Rattle.jx_edit.proofs.Texts.{rest_is}

-- from one place to another
pub step_on : (e : Encoding) (p m : Position) (bytes : List ℕ) (start end : ℕ) → start ≤ end → p ≡ position_behind e first (take start bytes)
    → m ≡ position_behind e first (take (end - start) (drop start bytes)) → joined p m ≡ position_behind e first (take end bytes)
step_on e p m bytes start end order is moves =
    let whole : start + (end - start) ≡ end = omega (arith, order) in
    joined_is e first p m (take start bytes) (take (end - start) (drop start bytes)) is moves
    ∙ ap (position_behind e first) (sym (take-add start (end - start) bytes) ∙ ap (λ (n : ℕ). take n bytes) whole)

pub step_fits : (e : Encoding) (p m : Position) (bytes : List ℕ) (start end : ℕ) → start ≤ end → end ≤ length bytes → length bytes < 2 ^ 63 → p ≡ position_behind e first (take start bytes)
    → m ≡ position_behind e first (take (end - start) (drop start bytes)) → (p.line + m.line < 2 ^ 64) × (p.character + m.character < 2 ^ 64)
step_fits e p m bytes start end order within short is moves =
    joined_fits e first p m (take start bytes) (take (end - start) (drop start bytes)) (length bytes) is moves
    (omega (arith, order, within, length-take start bytes, length-take (end - start) (drop start bytes), length-drop start bytes)) (omega (arith, short)) (omega (arith, short))

-- to the next step, or to the end
pub next_step : (e : Encoding) (p : Position) (bytes : List ℕ) (k start end : ℕ) → start ≡ k * 128 → end ≡ min (start + 128) (length bytes) → p ≡ position_behind e first (take end bytes)
    → p ≡ position_behind e first (take ((k + 1) * 128) bytes)
next_step e p bytes k start end from to is =
    let sum : start + 128 ≡ (k + 1) * 128 = omega (arith, from) in
    is ∙ ap (λ (n : ℕ). position_behind e first (take n bytes)) to
    ∙ ap (position_behind e first) (take_min (start + 128) bytes ∙ ap (λ (n : ℕ). take n bytes) sum)

-- one step more
pub kept_push : (f : ℕ → Position) (xs ys : List Step) (y : Step) → ys ≡ xs ++ y ∷ [] → ((k : ℕ) (step : Step) → k < length xs → position_of (get_or xs k step) ≡ f k) → position_of y ≡ f (length xs)
    → (k : ℕ) (step : Step) → k < length ys → position_of (get_or ys k step) ≡ f k
kept_push f xs ys y more kept last k step within = elim (cases_lt k (length xs)) [
  | inl less ↦ ap (λ (zs : List Step). position_of (get_or zs k step)) more ∙ ap position_of (get_or_append_left xs (y ∷ []) step k less) ∙ kept k step less
  | inr past ↦
      let here : length xs ≡ k = omega (arith, past, within, ap length more, length-append xs (y ∷ [])) in
      ap (λ (zs : List Step). position_of (get_or zs k step)) more ∙ ap position_of (get_or_push xs y step k here) ∙ last ∙ ap f here
]

-- ---- the last step before a position

abbrev pub reached : ℕ → Position → Reached
reached count position = record { count = count; position = position }

pub before_none : (e : Encoding) (from to : Position) (bytes : List ℕ) → IsBefore e from to bytes (reached 0 from)
before_none e from to bytes = record { within = omega arith; position = refl; before = λ some. absurd (omega (arith, some)) }

pub before_more : (e : Encoding) (from to p m : Position) (bytes : List ℕ) (k count : ℕ) → count ≡ min (k * 128) (length bytes) → m ≡ position_behind e first (take (k * 128) bytes)
    → p ≡ joined from m → is_behind p to ≡ false → IsBefore e from to bytes (reached count p)
before_more e from to p m bytes k count here moves both not =
    record {
      within = omega (arith, here);
      position =
          both ∙ joined_is e from from m [] (take (k * 128) bytes) refl moves
          ∙ ap (position_behind e from) (sym (take_min (k * 128) bytes) ∙ ap (λ (n : ℕ). take n bytes) (sym here));
      before = λ some. not;
    }

-- how great its position is
pub before_fits : (e : Encoding) (from m : Position) (bytes : List ℕ) (n : ℕ) → m ≡ position_behind e first (take n bytes)
    → from.line + length bytes < 2 ^ 64 → from.character + 2 * length bytes < 2 ^ 64 → (from.line + m.line < 2 ^ 64) × (from.character + m.character < 2 ^ 64)
before_fits e from m bytes n moves lines characters =
    joined_fits e from from m [] (take n bytes) (length bytes) refl moves (omega (arith, length-take n bytes)) lines characters

-- how great those behind it are
pub behind_fits : (e : Encoding) (from to : Position) (bytes : List ℕ) (r : Reached) → IsBefore e from to bytes r
    → from.line + length bytes < 2 ^ 64 → from.character + 2 * length bytes < 2 ^ 64
    → (r.position.line + length (take (length bytes - r.count) (drop r.count bytes)) < 2 ^ 64) × (r.position.character + 2 * length (take (length bytes - r.count) (drop r.count bytes)) < 2 ^ 64)
behind_fits e from to bytes r is lines characters =
    let front : List ℕ = take r.count bytes in
    let a : r.position.line ≤ from.line + length front = subst (λ (q : Position). q.line ≤ from.line + length front) (sym is.position) (behind_line e from front) in
    let b : r.position.character ≤ from.character + 2 * length front = subst (λ (q : Position). q.character ≤ from.character + 2 * length front) (sym is.position) (behind_character e from front) in
    let l : length front + length (take (length bytes - r.count) (drop r.count bytes)) ≤ length bytes =
    omega (arith, is.within, length-take r.count bytes, ap length (rest_is bytes r.count), length-drop r.count bytes) in
    (omega (arith, a, l, lines), omega (arith, b, l, characters))

-- the bytes, parted there
parted_at : (bytes : List ℕ) (n : ℕ) → take n bytes ++ take (length bytes - n) (drop n bytes) ≡ bytes
parted_at bytes n = ap (λ (t : List ℕ). take n bytes ++ t) (rest_is bytes n) ∙ take-append-drop n bytes

pub reach_on : (e : Encoding) (from to : Position) (bytes : List ℕ) (r : Reached) (n : ℕ) → IsBefore e from to bytes r
    → n ≡ reach e r.position to (take (length bytes - r.count) (drop r.count bytes)) → r.count + n ≡ reach e from to bytes
reach_on e from to bytes r n is there = elim (cases_lt 0 r.count) [
  | inl some ↦
      let over = reach_over e from to front rest (ap (λ (q : Position). is_behind q to) (sym is.position) ∙ is.before some) in
      omega (
        arith,
        is.within,
        length-take r.count bytes,
        there,
        ap (reach e from to) (parted_at bytes r.count),
        over,
        ap (λ (q : Position). reach e q to rest) is.position,
      )
  | inr more ↦
      let none : r.count ≡ 0 = omega (arith, more) in
      let all : rest ≡ bytes = sym (ap (λ (k : ℕ). take k bytes ++ rest) none) ∙ parted_at bytes r.count in
      let same : r.position ≡ from = is.position ∙ ap (λ (k : ℕ). position_behind e from (take k bytes)) none in
      omega (arith, none, there, ap (λ (q : Position). reach e q to rest) same, ap (reach e from to) all)
]
  where
    front : List ℕ
    front = take r.count bytes

    rest : List ℕ
    rest = take (length bytes - r.count) (drop r.count bytes)

pub reach_position : (e : Encoding) (from to q : Position) (bytes : List ℕ) (r : Reached) (n : ℕ) → IsBefore e from to bytes r
    → q ≡ position_behind e r.position (take n (take (length bytes - r.count) (drop r.count bytes))) → q ≡ position_behind e from (take (r.count + n) bytes)
reach_position e from to q bytes r n is there =
    let front : List ℕ = take r.count bytes in
    let rest : List ℕ = take (length bytes - r.count) (drop r.count bytes) in
    let here : length front + n ≡ r.count + n = omega (arith, is.within, length-take r.count bytes) in
    over_position e from r.position q front rest n is.position there
    ∙ ap (λ (k : ℕ). position_behind e from (take k (front ++ rest))) here
    ∙ ap (λ (t : List ℕ). position_behind e from (take (r.count + n) t)) (parted_at bytes r.count)
