-- What the words of a block say, bit by bit, and that its marks are what they list.
use Rattle.std.proofs.Common.{◌≡◌, ◌⊎◌, inl, inr, ℕ, zero, suc, ◌+◌, ◌-◌, ◌<◌, ◌≤◌, Bool, true, false, not, List, length, get_or, Option, Some, None, if◌then◌else◌, refl, ap, sym, subst, ◌∙◌, arith}
use Rattle.std.specs.Prelude.{◌==◌, ◌||◌, ◌&&◌}
use Rattle.std.proofs.lemmas.Bool.{cases_Bool, cases_lt}
use Rattle.std.proofs.lemmas.Bool.Decides.{nat_tests}
use Rattle.jx_lex.specs.declared.alphabet.mark.MarkKind.{MarkKind}
use Rattle.jx_lex.specs.declared.alphabet.mark.MarkKind.TheVariants.{String}
use Rattle.jx_lex.specs.declared.alphabet.state.LexState.{LexState}
use Rattle.jx_lex.specs.declared.alphabet.state.LexState.TheVariants as state
use Rattle.jx_lex.specs.declared.alphabet.state.Step.{Step}
use Rattle.jx_lex.specs.Moves.{move, go, begin, close}
use Rattle.jx_lex.specs.Uneventful.{is_plain, is_blank, is_escaped}
use Rattle.jx_lex.proofs.Bits.{differ}
use Rattle.jx_block.specs.inside.Planes.{is_structural, is_stop}
use Rattle.jx_block.specs.inside.Whole.{IsWhole}
use Rattle.jx_block.specs.inside.Words.{behind}
use Rattle.jx_block.specs.Listed.{is_set}
use Rattle.jx_block.proofs.Bytes.{structural_stays, blank_goes, quote_begins, quote_closes, backslash_goes, plain_goes, escaped_goes}
use Rattle.jx_block.proofs.Listing.{mark_at}
use Rattle.jx_block.proofs.Pieces.{Piece, piece-none, piece-then, piece-one}
use Rattle.jx_block.proofs.ScalarPieces.{piece-scalar}

-- a quotation mark that no backslash escapes
abbrev pub is_real : ℕ → Bool → Bool
is_real byte escaped = not escaped && (byte == 0x22)

-- a byte of a scalar: outside of strings, and nothing else that may stand there
abbrev pub is_other : ℕ → Bool → Bool
is_other byte before = not (((before || is_blank byte) || is_structural byte) || (byte == 0x22))

-- The words of a block before its place n: a byte is escaped (e), it stands in a string (p), and so does what follows it (i); it is of a scalar (x).
pub record Told (text : List ℕ) (at starts : ℕ) (e i p x stop : ℕ → Bool) (n : ℕ) : Type 0 where
  pub few : n < 64
  pub carried : (k : ℕ) → k < n → p (suc k) ≡ i k
  pub turned : (k : ℕ) → k < n → i k ≡ differ (p k) (is_real (get_or text (at + k) 0) (e k))
  pub escaped : (k : ℕ) → k < n → e (suc k) ≡ (not (e k) && (get_or text (at + k) 0 == 0x5c))
  pub letter : (k : ℕ) → k < n → e k ≡ true → (is_escaped (get_or text (at + k) 0) ≡ true) × (p k ≡ true)
  pub plain : (k : ℕ) → k < n → p k ≡ true → e k ≡ false → (get_or text (at + k) 0 == 0x22) ≡ false → (get_or text (at + k) 0 == 0x5c) ≡ false → is_plain (get_or text (at + k) 0) ≡ true
  pub other : (k : ℕ) → k < 64 → x k ≡ is_other (get_or text (at + k) 0) (p k)
  pub stops : (k : ℕ) → k < 64 → stop k ≡ is_stop (get_or text (at + k) 0)
  pub whole : (k : ℕ) → k < n → x k ≡ true → behind x k ≡ false → IsWhole text at x stop k
  pub starts_are : (k : ℕ) → k < n → is_set starts k ≡ (((not (p k) && is_structural (get_or text (at + k) 0)) || (is_real (get_or text (at + k) 0) (e k) && i k)) || (x k && not (behind x k)))
  pub boundary : behind x n ≡ false

-- ---- tests

blank_no_quote : (b : ℕ) → is_blank b ≡ true → (b == 0x22) ≡ false
blank_no_quote b h = grind (arith, nat_tests)

structural_no_quote : (b : ℕ) → is_structural b ≡ true → (b == 0x22) ≡ false
structural_no_quote b h = grind (arith, nat_tests)

stop_no_quote : (b : ℕ) → is_stop b ≡ true → (b == 0x22) ≡ false
stop_no_quote b h = grind (arith, nat_tests)

stop_is_blank : (b : ℕ) → is_stop b ≡ true → is_structural b ≡ false → is_blank b ≡ true
stop_is_blank b h k = grind (arith, nat_tests)

equal : (b n : ℕ) → (b == n) ≡ true → b ≡ n
equal b n h = grind (arith, nat_tests)

none_of : (a b c d : Bool) → not (((a || b) || c) || d) ≡ true → (a ≡ false) × (b ≡ false) × (c ≡ false) × (d ≡ false)
none_of true b c d h = absurd cc
none_of false true c d h = absurd cc
none_of false false true d h = absurd cc
none_of false false false true h = absurd cc
none_of false false false false h = (refl, refl, refl, refl)

-- where the bit is set, the mark is the byte's, and where the byte has none, there is none
set_mark : (starts k b : ℕ) → is_set starts k ≡ true → (move state.Gap b).begin ≡ mark_at starts k b
set_mark starts k b h = sym (ap (λ (t : Bool). if t then (move state.Gap b).begin else None) h)

clear_mark : (starts k b : ℕ) → is_set starts k ≡ false → None ≡ mark_at starts k b
clear_mark starts k b h = sym (ap (λ (t : Bool). if t then (move state.Gap b).begin else None) h)

no_mark : (starts k b : ℕ) → move state.Gap b ≡ go state.Gap → None ≡ mark_at starts k b
no_mark starts k b h = by_bit (is_set starts k) ∙ sym (ap (λ (m : Step). if is_set starts k then m.begin else None) h)
  where
    by_bit : (t : Bool) → (let o : Option MarkKind = None in o ≡ (if t then None else None))
    by_bit true = refl
    by_bit false = refl

module _ (text : List ℕ) (at starts : ℕ) (e i p x stop : ℕ → Bool) (n : ℕ) (fits : at + 64 ≤ length text) (told : Told text at starts e i p x stop n) where
  abbrev byte : ℕ → ℕ
  byte k = get_or text (at + k) 0

  -- where the machine stands before a byte
  abbrev pub stands : ℕ → LexState
  stands k = if p k then (if e k then state.Esc else state.Str) else state.Gap

  in_gap : (k : ℕ) → p k ≡ false → stands k ≡ state.Gap
  in_gap k h = ap (λ (t : Bool). if t then (if e k then state.Esc else state.Str) else state.Gap) h

  in_str : (k : ℕ) → p k ≡ true → e k ≡ false → stands k ≡ state.Str
  in_str k h f = (λ j. if h j then (if f j then state.Esc else state.Str) else state.Gap)

  in_esc : (k : ℕ) → p k ≡ true → e k ≡ true → stands k ≡ state.Esc
  in_esc k h f = (λ j. if h j then (if f j then state.Esc else state.Str) else state.Gap)

  -- one step: to a place behind which no scalar goes on
  abbrev Step_from : ℕ → Type 0
  Step_from q = (r : ℕ) × (q < r) × (r ≤ n) × (behind x r ≡ false) × Piece text at starts q r (stands q) (stands r)

  -- a step of one byte
  one : (q : ℕ) (s t : LexState) (m : Step) → q < n → x q ≡ false → stands q ≡ s → stands (suc q) ≡ t → move s (byte q) ≡ m → m.next ≡ Some t → m.begin ≡ mark_at starts q (byte q) → Step_from q
  one q s t m lt solid from to is next begun =
      let k : suc q ≡ q + 1 = omega arith in
      let few = told.few in (
        q + 1,
        omega arith,
        omega arith,
        ap (behind x) (sym k) ∙ solid,
        subst (λ s. Piece text at starts q (q + 1) s (stands (q + 1))) (sym from)
            (subst (λ t. Piece text at starts q (q + 1) s t) (sym to ∙ ap stands k) (piece-one text at starts q s t m (omega (arith, few)) is next begun)),
      )

  -- ---- what is known behind a byte, where it is known of it whether it stands in a string (a), and whether it is a quotation mark that counts (r)

  inside_next : (q : ℕ) (a r : Bool) → q < n → p q ≡ a → is_real (byte q) (e q) ≡ r → p (suc q) ≡ differ a r
  inside_next q a r lt h k = told.carried q lt ∙ told.turned q lt ∙ (λ j. differ (h j) (k j))

  escaped_next : (q : ℕ) (f b : Bool) → q < n → e q ≡ f → (byte q == 0x5c) ≡ b → e (suc q) ≡ (not f && b)
  escaped_next q f b lt h k = told.escaped q lt ∙ (λ j. not (h j) && k j)

  starts_at : (q : ℕ) (a r : Bool) → q < n → p q ≡ a → is_real (byte q) (e q) ≡ r → x q ≡ false → is_set starts q ≡ (((not a && is_structural (byte q)) || (r && differ a r)) || false)
  starts_at q a r lt h k solid =
      told.starts_are q lt
      ∙ (λ j. ((not (h j) && is_structural (byte q)) || (k j && (told.turned q lt ∙ (λ j. differ (h j) (k j))) j)) || (solid j && not (behind x q)))

  below : (q : ℕ) → q < n → q < 64
  below q lt = let few = told.few in omega arith

  -- ---- in a string

  escaped_step : (q : ℕ) → q < n → p q ≡ true → e q ≡ true → Step_from q
  escaped_step q lt h f =
      let b = byte q in
      let r : is_real b (e q) ≡ false = ap (is_real b) f in
      let solid : x q ≡ false = told.other q (below q lt) ∙ ap (is_other b) h in
      one q state.Esc state.Str (go state.Str) lt solid (in_esc q h f)
      (in_str (suc q) (inside_next q true false lt h r) (told.escaped q lt ∙ ap (λ t. not t && (b == 0x5c)) f))
      (escaped_goes b (told.letter q lt f).0) refl (clear_mark starts q b (starts_at q true false lt h r solid))

  string_step : (q : ℕ) → q < n → p q ≡ true → e q ≡ false → Step_from q
  string_step q lt h f = by_quote (cases_Bool (byte q == 0x22)) (cases_Bool (byte q == 0x5c))
    where
      solid : x q ≡ false
      solid = told.other q (below q lt) ∙ ap (is_other (byte q)) h

      real : (t : Bool) → (byte q == 0x22) ≡ t → is_real (byte q) (e q) ≡ t
      real t k = ap (is_real (byte q)) f ∙ k

      by_quote : ((byte q == 0x22) ≡ true) ⊎ ((byte q == 0x22) ≡ false) → ((byte q == 0x5c) ≡ true) ⊎ ((byte q == 0x5c) ≡ false) → Step_from q
      by_quote (inl quote) o =
          one q state.Str state.Gap close lt solid (in_str q h f) (in_gap (suc q) (inside_next q true true lt h (real true quote)))
          (ap (move state.Str) (equal (byte q) 0x22 quote) ∙ quote_closes) refl (clear_mark starts q (byte q) (starts_at q true true lt h (real true quote) solid))
      by_quote (inr none) (inl backslash) =
          one q state.Str state.Esc (go state.Esc) lt solid (in_str q h f)
          (in_esc (suc q) (inside_next q true false lt h (real false none)) (escaped_next q false true lt f backslash))
          (ap (move state.Str) (equal (byte q) 0x5c backslash) ∙ backslash_goes) refl (clear_mark starts q (byte q) (starts_at q true false lt h (real false none) solid))
      by_quote (inr none) (inr plain) =
          one q state.Str state.Str (go state.Str) lt solid (in_str q h f)
          (in_str (suc q) (inside_next q true false lt h (real false none)) (escaped_next q false false lt f plain))
          (plain_goes (byte q) (told.plain q lt h f none plain)) refl (clear_mark starts q (byte q) (starts_at q true false lt h (real false none) solid))

  -- ---- between tokens

  never_escaped : (q : ℕ) → q < n → p q ≡ false → e q ≡ false
  never_escaped q lt h = by_bit (cases_Bool (e q))
    where
      by_bit : (e q ≡ true) ⊎ (e q ≡ false) → e q ≡ false
      by_bit (inr f) = f
      by_bit (inl f) = let clash : true ≡ false = sym (told.letter q lt f).1 ∙ h in cc

  -- a byte that is no quotation mark, of no scalar, and has a step that keeps the machine between tokens
  alone_step : (q : ℕ) → q < n → p q ≡ false → (byte q == 0x22) ≡ false → x q ≡ false → (move state.Gap (byte q)).next ≡ Some state.Gap → (move state.Gap (byte q)).begin ≡ mark_at starts q (byte q) → Step_from q
  alone_step q lt h none solid stays begun =
      let f = never_escaped q lt h in
      let r : is_real (byte q) (e q) ≡ false = ap (is_real (byte q)) f ∙ none in
      one q state.Gap state.Gap (move state.Gap (byte q)) lt solid (in_gap q h) (in_gap (suc q) (inside_next q false false lt h r)) refl stays begun

  quote_step : (q : ℕ) → q < n → p q ≡ false → (byte q == 0x22) ≡ true → Step_from q
  quote_step q lt h quote =
      let b = byte q in
      let f = never_escaped q lt h in
      let is = equal b 0x22 quote in
      let r : is_real b (e q) ≡ true = ap (is_real b) f ∙ quote in
      let solid : x q ≡ false = told.other q (below q lt) ∙ (λ j. is_other (is j) (h j)) in
      let set = starts_at q false true lt h r solid ∙ ap (λ c. ((true && is_structural c) || true) || false) is in
      one q state.Gap state.Str (begin String state.Str) lt solid (in_gap q h)
      (in_str (suc q) (inside_next q false true lt h r) (escaped_next q false false lt f (ap (λ c. c == 0x5c) is)))
      (ap (move state.Gap) is ∙ quote_begins) refl (sym (ap (λ c. (move state.Gap c).begin) is ∙ ap (λ (m : Step). m.begin) quote_begins) ∙ set_mark starts q b set)

  blank_step : (q : ℕ) → q < n → p q ≡ false → is_blank (byte q) ≡ true → Step_from q
  blank_step q lt h blank =
      let goes = blank_goes (byte q) blank in
      alone_step q lt h (blank_no_quote (byte q) blank)
      (told.other q (below q lt) ∙ (λ j. not (((h j || blank j) || is_structural (byte q)) || (byte q == 0x22))))
      (ap (λ (m : Step). m.next) goes)
      (ap (λ (m : Step). m.begin) goes ∙ no_mark starts q (byte q) goes)

  structural_step : (q : ℕ) → q < n → p q ≡ false → is_blank (byte q) ≡ false → is_structural (byte q) ≡ true → Step_from q
  structural_step q lt h solid structural =
      let none = structural_no_quote (byte q) structural in
      let f = never_escaped q lt h in
      let r : is_real (byte q) (e q) ≡ false = ap (is_real (byte q)) f ∙ none in
      let x_none : x q ≡ false = told.other q (below q lt) ∙ (λ j. not (((h j || solid j) || structural j) || (byte q == 0x22))) in
      alone_step q lt h none x_none (structural_stays (byte q) structural)
      (set_mark starts q (byte q) (starts_at q false false lt h r x_none ∙ ap (λ t. ((true && t) || false) || false) structural))

  -- a byte that is no quotation mark, outside of strings
  no_real : (q : ℕ) → q < n → p q ≡ false → (byte q == 0x22) ≡ false → is_real (byte q) (e q) ≡ false
  no_real q lt h none = ap (is_real (byte q)) (never_escaped q lt h) ∙ none

  -- ---- a scalar

  module _ (q : ℕ) (lt : q < n) (h : p q ≡ false) (fresh : behind x q ≡ false) (begun : x q ≡ true) where
    w : IsWhole text at x stop q
    w = told.whole q lt begun fresh

    abbrev end : ℕ
    end = w.end

    -- nothing else stands in the run
    alike : (j : ℕ) → q ≤ j → j < end → (p j ≡ false) × (is_blank (byte j) ≡ false) × (is_structural (byte j) ≡ false) × ((byte j == 0x22) ≡ false)
    alike j from to = let high = w.high in none_of (p j) _ _ _ (sym (told.other j (omega arith)) ∙ w.run j from to)

    -- the run goes on from the byte before
    going : (j k : ℕ) → j ≡ suc k → q ≤ k → k < end → behind x j ≡ true
    going j k is from to = ap (behind x) is ∙ w.run k from to

    over : end < n
    over = by_order (cases_lt end n)
      where
        by_order : (end < n) ⊎ (n ≤ end) → end < n
        by_order (inl before) = before
        by_order (inr past) =
            let clash : true ≡ false = sym (going n (n - 1) (omega arith) (omega arith) (omega arith)) ∙ told.boundary in
            cc

    -- the last byte of the run
    abbrev final : ℕ
    final = end - 1

    end_is : suc final ≡ end
    end_is = let low = w.low in omega arith

    final_from : q ≤ final
    final_from = let low = w.low in omega arith

    final_to : final < end
    final_to = let low = w.low in omega arith

    outside : p end ≡ false
    outside =
        let a = alike final final_from final_to in
        ap p (sym end_is) ∙ inside_next final false false (let o = over in omega arith) a.0 (no_real final (let o = over in omega arith) a.0 a.3)

    stops_there : is_stop (byte end) ≡ true
    stops_there = sym (told.stops end w.high) ∙ w.stops

    end_plain : is_real (byte end) (e end) ≡ false
    end_plain = no_real end over outside (stop_no_quote (byte end) stops_there)

    starts_in : (j : ℕ) → q ≤ j → j < end → is_set starts j ≡ (x j && not (behind x j))
    starts_in j from to =
        let a = alike j from to in
        let o = over in
        told.starts_are j (omega arith) ∙ (λ t. ((not (a.0 t) && a.2 t) || (no_real j (omega arith) a.0 a.3 t && i j)) || (x j && not (behind x j)))

    starts_inside : (j : ℕ) → q < j → j < end → is_set starts j ≡ false
    starts_inside j from to = starts_in j (omega arith) to ∙ (λ t. w.run j (omega arith) to t && not (going j (j - 1) (omega arith) (omega arith) (omega arith) t))

    mark_there : mark_at starts end (byte end) ≡ (move state.Gap (byte end)).begin
    mark_there = by_kind (cases_Bool (is_structural (byte end)))
      where
        by_kind : (is_structural (byte end) ≡ true) ⊎ (is_structural (byte end) ≡ false) → mark_at starts end (byte end) ≡ (move state.Gap (byte end)).begin
        by_kind (inl structural) =
            sym (set_mark starts end (byte end) (starts_at end false false over outside end_plain w.over ∙ ap (λ t. ((true && t) || false) || false) structural))
        by_kind (inr none) =
            let goes = blank_goes (byte end) (stop_is_blank (byte end) stops_there none) in
            sym (ap (λ (m : Step). m.begin) goes ∙ no_mark starts end (byte end) goes)

    scalar_step : Step_from q
    scalar_step =
        let low = w.low in
        let o = over in
        let few = told.few in
        let k : suc end ≡ end + 1 = omega arith in
        let first = alike q (omega arith) low in (
          end + 1,
          omega arith,
          omega arith,
          ap (behind x) (sym k) ∙ w.over,
          subst (λ s. Piece text at starts q (end + 1) s (stands (end + 1))) (sym (in_gap q h))
              (subst (λ t. Piece text at starts q (end + 1) state.Gap t) (sym (in_gap (suc end) (inside_next end false false o outside end_plain)) ∙ ap stands k)
              (piece-scalar text at starts q end low (omega arith) first.1 stops_there w.is (starts_in q (omega arith) low ∙ (λ t. begun t && not (fresh t))) starts_inside mark_there)),
        )

  -- ---- the walk

  gap_step_from : (q : ℕ) → q < n → p q ≡ false → behind x q ≡ false → Step_from q
  gap_step_from q lt h fresh = by_kind (cases_Bool (is_blank (byte q))) (cases_Bool (is_structural (byte q))) (cases_Bool (byte q == 0x22))
    where
      by_kind : (is_blank (byte q) ≡ true) ⊎ (is_blank (byte q) ≡ false) → (is_structural (byte q) ≡ true) ⊎ (is_structural (byte q) ≡ false)
          → ((byte q == 0x22) ≡ true) ⊎ ((byte q == 0x22) ≡ false) → Step_from q
      by_kind (inl blank) s c = blank_step q lt h blank
      by_kind (inr solid) (inl structural) c = structural_step q lt h solid structural
      by_kind (inr solid) (inr other) (inl quote) = quote_step q lt h quote
      by_kind (inr solid) (inr other) (inr none) = scalar_step q lt h fresh (told.other q (below q lt) ∙ (λ t. not (((h t || solid t) || other t) || none t)))

  step : (q : ℕ) → q < n → behind x q ≡ false → Step_from q
  step q lt fresh = by_place (cases_Bool (p q)) (cases_Bool (e q))
    where
      by_place : (p q ≡ true) ⊎ (p q ≡ false) → (e q ≡ true) ⊎ (e q ≡ false) → Step_from q
      by_place (inl h) (inl f) = escaped_step q lt h f
      by_place (inl h) (inr f) = string_step q lt h f
      by_place (inr h) f = gap_step_from q lt h fresh

  walk : (fuel q : ℕ) → n ≤ q + fuel → q ≤ n → behind x q ≡ false → Piece text at starts q n (stands q) (stands n)
  walk zero q most le fresh =
      let same : q ≡ n = omega arith in
      subst (λ r. Piece text at starts q r (stands q) (stands r)) same (piece-none text at starts q (stands q))
  walk (suc fuel) q most le fresh = by_order (cases_lt q n) (walk fuel)
    where
      by_order : (q < n) ⊎ (n ≤ q) → ((r : ℕ) → n ≤ r + fuel → r ≤ n → behind x r ≡ false → Piece text at starts r n (stands r) (stands n)) → Piece text at starts q n (stands q) (stands n)
      by_order (inr ge) on =
          let same : q ≡ n = omega arith in
          subst (λ r. Piece text at starts q r (stands q) (stands r)) same (piece-none text at starts q (stands q))
      by_order (inl lt) on =
          let s = step q lt fresh in
          let up = s.1 in
          let few = told.few in
          piece-then text at starts q s.0 n (stands q) (stands s.0) (stands n) (omega (arith, up)) s.2 (omega arith) s.4 (on s.0 (omega (arith, up)) s.2 s.3)

  pub told_read : Piece text at starts 0 n (stands 0) (stands n)
  told_read = walk n 0 (omega arith) (omega arith) refl
