-- The marks of a block, read as its words say.
use Rattle.std.proofs.Common.{◌≡◌, ◌⊎◌, inl, inr, ℕ, zero, suc, ◌+◌, ◌<◌, ◌≤◌, ◌^◌, Bool, true, false, not, List, [], ◌∷◌, length, get_or, Option, Some, None, if◌then◌else◌, refl, ap, sym, ◌∙◌, arith}
use Rattle.std.specs.Prelude.{slice_range, ◌==◌, ◌&&◌, ◌||◌}
use Rattle.std.proofs.lemmas.Bool.{cases_Bool, or_cases}
use Rattle.std.proofs.lemmas.Bool.Decides.{nat_tests}
use Rattle.std.proofs.lemmas.Nat.Bits.{bit_at_above}
use Rattle.jx_lex.specs.declared.alphabet.class.Class.{Class}
use Rattle.jx_lex.specs.declared.alphabet.class.Class.TheVariants as class
use Rattle.jx_lex.specs.declared.alphabet.mark.Mark.{Mark}
use Rattle.jx_lex.specs.declared.alphabet.mark.MarkKind.{MarkKind}
use Rattle.jx_lex.specs.declared.alphabet.mark.MarkKind.TheVariants as mark
use Rattle.jx_lex.specs.declared.alphabet.state.LexState.TheVariants.{Gap}
use Rattle.jx_lex.specs.Classes.{class_at}
use Rattle.jx_lex.specs.Lex.{with_mark}
use Rattle.jx_lex.specs.Moves.{move, row}
use Rattle.jx_lex.proofs.ClassTable.{and_right}
use Rattle.jx_lex.proofs.Slices.{slice-more, slice-none, slice-length}
use Rattle.jx_block.specs.Kinds.{AreKinds, begins_scalar}
use Rattle.jx_block.specs.Listed.{is_set, marks_of}
use Rattle.jx_block.specs.declared.kinds.TokenKinds.{TokenKinds}
use Rattle.jx_block.proofs.Bytes.{of_set}
use Rattle.jx_block.proofs.Listing.{mark_at, marks_of-append, marks_of-one}
use Rattle.jx_block.proofs.Words.{and_true}
use Rattle.jx_reduce.specs.Read.{went, top, changed, read}
use Rattle.jx_reduce.specs.Table.{next_of, change_of, Change, same, added, removed, where_value}
use Rattle.jx_reduce.specs.inside.Blocks.{expect_at, container, LeadsBy, Turns, Steps, along, array_opens, array_closes, object_opens, object_closes, Walks}
use Rattle.jx_reduce.specs.declared.table.expect.Expect.{Expect}
use Rattle.jx_reduce.specs.declared.table.expect.Expect.TheVariants.{ArrayFirst, ObjectFirst, After}
use Rattle.jx_reduce.specs.declared.table.holder.Holder.{Holder}
use Rattle.jx_reduce.specs.declared.table.holder.Holder.TheVariants.{Array, Object}
use Rattle.jx_reduce.proofs.Passed.{moves, within_depth}
use Rattle.jx_reduce.proofs.Readings.{read-append}

-- ---- the moves, by bits

comma-moves : (o v n f : Bool) → not ((v || n) || f) ≡ true → next_of mark.Comma (expect_at v n f) (container o) ≡ Some (expect_at (not o) o false)
comma-moves true false false false h = refl
comma-moves false false false false h = refl
comma-moves o true n f h = absurd cc
comma-moves o false true f h = absurd cc
comma-moves o false false true h = absurd cc

colon-moves : (v n f : Bool) (s : Holder) → (not (v || n) && f) ≡ true → next_of mark.Colon (expect_at v n f) s ≡ Some (expect_at true false false)
colon-moves false false true s h = refl
colon-moves true n f s h = absurd cc
colon-moves false true f s h = absurd cc
colon-moves false false false s h = absurd cc

string-moves : (v n f : Bool) (s : Holder) → (v || n) ≡ true → next_of mark.String (expect_at v n f) s ≡ Some (expect_at false false (not v))
string-moves true n true s h = refl
string-moves true n false s h = refl
string-moves false true true s h = refl
string-moves false true false s h = refl
string-moves false false f s h = absurd cc

value-moves : (v n f : Bool) (next : Expect) → v ≡ true → where_value next (expect_at v n f) ≡ Some next
value-moves true n true next h = refl
value-moves true n false next h = refl
value-moves false n f next h = absurd cc

close_array-moves : (v n f : Bool) → ((v && f) || not ((v || n) || f)) ≡ true → next_of mark.CloseArray (expect_at v n f) Array ≡ Some After
close_array-moves true n true h = refl
close_array-moves false false false h = refl
close_array-moves true n false h = absurd cc
close_array-moves false true f h = absurd cc
close_array-moves false false true h = absurd cc

close_object-moves : (v n f : Bool) → ((not v && (n && f)) || not ((v || n) || f)) ≡ true → next_of mark.CloseObject (expect_at v n f) Object ≡ Some After
close_object-moves false true true h = refl
close_object-moves false false false h = refl
close_object-moves true n f h = absurd cc
close_object-moves false true false h = absurd cc
close_object-moves false false true h = absurd cc

-- ---- tests

-- what a token sets
taken : (a b : Bool) → (a || (b && false)) ≡ a
taken true b = refl
taken false true = refl
taken false false = refl

equal : (b n : ℕ) → (b == n) ≡ true → b ≡ n
equal b n h = grind (arith, nat_tests)

-- the first byte of a number or of a literal is none of the others
pub record IsOther (b : ℕ) : Type 0 where
  pub comma : (b == 0x2c) ≡ false
  pub colon : (b == 0x3a) ≡ false
  pub string : (b == 0x22) ≡ false
  pub open_array : (b == 0x5b) ≡ false
  pub close_array : (b == 0x5d) ≡ false
  pub open_object : (b == 0x7b) ≡ false
  pub close_object : (b == 0x7d) ≡ false

other : (b : ℕ) → begins_scalar b ≡ true → IsOther b
other b h = record {
  comma = grind (arith, nat_tests);
  colon = grind (arith, nat_tests);
  string = grind (arith, nat_tests);
  open_array = grind (arith, nat_tests);
  close_array = grind (arith, nat_tests);
  open_object = grind (arith, nat_tests);
  close_object = grind (arith, nat_tests);
}

small : (b : ℕ) → begins_scalar b ≡ true → b < 256
small b h = grind (arith, nat_tests)

-- a token of this class begins with the mark of a scalar
abbrev IsScalarClass : Class → Type 0
IsScalarClass c = (kind : MarkKind) × ((row Gap c).begin ≡ Some kind) × (change_of kind ≡ same) × ((e : Expect) (h : Holder) → next_of kind e h ≡ where_value After e)

scalar_kind : (b : ℕ) → begins_scalar b ≡ true → IsScalarClass (class_at b)
scalar_kind b h =
    of_set begins_scalar IsScalarClass (class.Minus ∷ class.Zero ∷ class.Digit ∷ class.LowT ∷ class.LowF ∷ class.LowN ∷ [])
    ((mark.Number, refl, refl, λ e h. refl), ((mark.Number, refl, refl, λ e h. refl), ((mark.Number, refl, refl, λ e h. refl), ((mark.True, refl, refl, λ e h. refl), ((mark.False, refl, refl, λ e h. refl), ((mark.Null, refl, refl, λ e h. refl), tt))))))
    refl b (small b h) h

-- The words of a block: which tokens begin at its bytes, whether the innermost container before a byte is an object (o), and what may stand next there.
module _ (most : ℕ) (text : List ℕ) (at starts : ℕ) (t : TokenKinds) (kinds : AreKinds text at starts t) (o v n f : ℕ → Bool) (turns : (k : ℕ) → k < 63 → Turns t starts o v n f k)
    (fits : at + 64 ≤ length text) where
  abbrev byte : ℕ → ℕ
  byte k = get_or text (at + k) 0

  abbrev expect : ℕ → Expect
  expect k = expect_at (v k) (n k) (f k)

  -- a byte, and the reading over it
  abbrev Reads_byte : ℕ → List Holder → List Holder → Type 0
  Reads_byte k s u = read most (with_mark (mark_at starts k (byte k)) (at + k) []) (went (expect k) s) ≡ went (expect (suc k)) u

  -- the bits of all kinds, where a token begins or does not, and at which byte
  pub record Class_at (k : ℕ) (set : Bool) (b : ℕ) : Type 0 where
    pub comma : is_set t.commas k ≡ (set && (b == 0x2c))
    pub colon : is_set t.colons k ≡ (set && (b == 0x3a))
    pub string : is_set t.strings k ≡ (set && (b == 0x22))
    pub scalar : is_set t.scalars k ≡ (set && begins_scalar b)
    pub open_array : is_set t.open_arrays k ≡ (set && (b == 0x5b))
    pub close_array : is_set t.close_arrays k ≡ (set && (b == 0x5d))
    pub open_object : is_set t.open_objects k ≡ (set && (b == 0x7b))
    pub close_object : is_set t.close_objects k ≡ (set && (b == 0x7d))

  class-at : (k : ℕ) → k < 64 → (set : Bool) (b : ℕ) → is_set starts k ≡ set → byte k ≡ b → Class_at k set b
  class-at k lt set b h is = record {
    comma = kinds.commas k lt ∙ (λ i. h i && (is i == 0x2c));
    colon = kinds.colons k lt ∙ (λ i. h i && (is i == 0x3a));
    string = kinds.strings k lt ∙ (λ i. h i && (is i == 0x22));
    scalar = kinds.scalars k lt ∙ (λ i. h i && begins_scalar (is i));
    open_array = kinds.open_arrays k lt ∙ (λ i. h i && (is i == 0x5b));
    close_array = kinds.close_arrays k lt ∙ (λ i. h i && (is i == 0x5d));
    open_object = kinds.open_objects k lt ∙ (λ i. h i && (is i == 0x7b));
    close_object = kinds.close_objects k lt ∙ (λ i. h i && (is i == 0x7d));
  }

  -- no bracket: the same containers
  quiet : (k : ℕ) (s u : List Holder) → is_set t.open_arrays k ≡ false → is_set t.close_arrays k ≡ false → is_set t.open_objects k ≡ false → is_set t.close_objects k ≡ false
      → Steps t o most k s u → (top s ≡ container (o k)) × (u ≡ s)
  quiet k s u a b c d (along a' b' c' d' h new) = (h, new)
  quiet k s u a b c d (array_opens h low new) = let clash : true ≡ false = sym h ∙ a in cc
  quiet k s u a b c d (array_closes h low new) = let clash : true ≡ false = sym h ∙ b in cc
  quiet k s u a b c d (object_opens h low new) = let clash : true ≡ false = sym h ∙ c in cc
  quiet k s u a b c d (object_closes h low new) = let clash : true ≡ false = sym h ∙ d in cc

  -- the reading of one mark
  finish : (k : ℕ) (s u : List Holder) (kind : MarkKind) (c : Change) (next : Expect) → mark_at starts k (byte k) ≡ Some kind → change_of kind ≡ c → next_of kind (expect k) (top s) ≡ Some next
      → expect (suc k) ≡ next → changed most (at + k) c next s ≡ went next u → Reads_byte k s u
  finish k s u kind c after m h table e last =
      ap (λ (x : Option MarkKind). read most (with_mark x (at + k) []) (went (expect k) s)) m
      ∙ moves most (record { kind = kind; at = at + k }) c (expect k) after s h table
      ∙ last
      ∙ ap (λ (e : Expect). went e u) (sym e)

  -- what may stand behind byte k
  next_is : (k : ℕ) (v' n' f' : Bool) → v (suc k) ≡ v' → n (suc k) ≡ n' → f (suc k) ≡ f' → expect (suc k) ≡ expect_at v' n' f'
  next_is k v' n' f' a b c = λ i. expect_at (a i) (b i) (c i)

  -- where no token begins, nothing changes
  none_begins : (k : ℕ) → k < 63 → is_set starts k ≡ false → (s u : List Holder) → Steps t o most k s u → Reads_byte k s u
  none_begins k lt h s u step =
      let b = class-at k (omega arith) false (byte k) h refl in
      let turn = turns k lt in
      let kept = quiet k s u b.open_array b.close_array b.open_object b.close_object step in
      let vs : v (suc k) ≡ v k = turn.value_next ∙ (λ i. ((b.open_array i || b.colon i) || (b.comma i && not (o k))) || (v k && not (h i))) ∙ and_true (v k) in
      let ns : n (suc k) ≡ n k = turn.name_next ∙ (λ i. (b.open_object i || (b.comma i && o k)) || (n k && not (h i))) ∙ and_true (n k) in
      let fs : f (suc k) ≡ f k = turn.first_next ∙ (λ i. ((b.open_array i || b.open_object i) || (b.string i && not (v k))) || (f k && not (h i))) ∙ and_true (f k) in
      ap (λ (set : Bool). read most (with_mark (if set then (move Gap (byte k)).begin else None) (at + k) []) (went (expect k) s)) h
      ∙ (λ i. went (sym (next_is k (v k) (n k) (f k) vs ns fs) i) (sym kept.1 i))

  -- what the bits are behind a token
  module _ (k : ℕ) (lt : k < 63) (h : is_set starts k ≡ true) (b : ℕ) (is : byte k ≡ b) (s u : List Holder) (step : Steps t o most k s u) where
    c : Class_at k true b
    c = class-at k (omega arith) true b h is

    turn : Turns t starts o v n f k
    turn = turns k lt

    vs : v (suc k) ≡ (((b == 0x5b) || (b == 0x3a)) || ((b == 0x2c) && not (o k)))
    vs = turn.value_next ∙ (λ i. ((c.open_array i || c.colon i) || (c.comma i && not (o k))) || (v k && not (h i))) ∙ taken (((b == 0x5b) || (b == 0x3a)) || ((b == 0x2c) && not (o k))) (v k)

    ns : n (suc k) ≡ ((b == 0x7b) || ((b == 0x2c) && o k))
    ns = turn.name_next ∙ (λ i. (c.open_object i || (c.comma i && o k)) || (n k && not (h i))) ∙ taken ((b == 0x7b) || ((b == 0x2c) && o k)) (n k)

    fs : f (suc k) ≡ (((b == 0x5b) || (b == 0x7b)) || ((b == 0x22) && not (v k)))
    fs = turn.first_next ∙ (λ i. ((c.open_array i || c.open_object i) || (c.string i && not (v k))) || (f k && not (h i))) ∙ taken (((b == 0x5b) || (b == 0x7b)) || ((b == 0x22) && not (v k))) (f k)

    begun : mark_at starts k (byte k) ≡ (move Gap b).begin
    begun = λ i. if h i then (move Gap (is i)).begin else None

  comma_begins : (k : ℕ) → k < 63 → is_set starts k ≡ true → byte k ≡ 0x2c → (s u : List Holder) → Steps t o most k s u → Reads_byte k s u
  unfolding class_at
  comma_begins k lt h is s u step =
      let b = class-at k (omega arith) true 0x2c h is in
      let kept = quiet k s u b.open_array b.close_array b.open_object b.close_object step in
      finish k s u mark.Comma same (expect_at (not (o k)) (o k) false) (begun k lt h 0x2c is s u step) refl
      (ap (next_of mark.Comma (expect k)) kept.0 ∙ comma-moves (o k) (v k) (n k) (f k) ((turns k lt).placed.comma b.comma))
      (next_is k _ _ _ (vs k lt h 0x2c is s u step) (ns k lt h 0x2c is s u step) (fs k lt h 0x2c is s u step))
      (ap (went (expect_at (not (o k)) (o k) false)) (sym kept.1))

  colon_begins : (k : ℕ) → k < 63 → is_set starts k ≡ true → byte k ≡ 0x3a → (s u : List Holder) → Steps t o most k s u → Reads_byte k s u
  unfolding class_at
  colon_begins k lt h is s u step =
      let b = class-at k (omega arith) true 0x3a h is in
      let kept = quiet k s u b.open_array b.close_array b.open_object b.close_object step in
      finish k s u mark.Colon same (expect_at true false false) (begun k lt h 0x3a is s u step) refl
      (colon-moves (v k) (n k) (f k) (top s) ((turns k lt).placed.colon b.colon))
      (next_is k _ _ _ (vs k lt h 0x3a is s u step) (ns k lt h 0x3a is s u step) (fs k lt h 0x3a is s u step))
      (ap (went (expect_at true false false)) (sym kept.1))

  string_begins : (k : ℕ) → k < 63 → is_set starts k ≡ true → byte k ≡ 0x22 → (s u : List Holder) → Steps t o most k s u → Reads_byte k s u
  unfolding class_at
  string_begins k lt h is s u step =
      let b = class-at k (omega arith) true 0x22 h is in
      let kept = quiet k s u b.open_array b.close_array b.open_object b.close_object step in
      finish k s u mark.String same (expect_at false false (not (v k))) (begun k lt h 0x22 is s u step) refl
      (string-moves (v k) (n k) (f k) (top s) ((turns k lt).placed.string b.string))
      (next_is k _ _ _ (vs k lt h 0x22 is s u step) (ns k lt h 0x22 is s u step) (fs k lt h 0x22 is s u step))
      (ap (went (expect_at false false (not (v k)))) (sym kept.1))

  scalar_begins : (k : ℕ) → k < 63 → is_set starts k ≡ true → begins_scalar (byte k) ≡ true → (s u : List Holder) → Steps t o most k s u → Reads_byte k s u
  scalar_begins k lt h is s u step =
      let b = class-at k (omega arith) true (byte k) h refl in
      let x = other (byte k) is in
      let m = scalar_kind (byte k) is in
      let kept = quiet k s u (b.open_array ∙ x.open_array) (b.close_array ∙ x.close_array) (b.open_object ∙ x.open_object) (b.close_object ∙ x.close_object) step in
      let a = vs k lt h (byte k) refl s u step ∙ (λ i. ((x.open_array i || x.colon i) || (x.comma i && not (o k)))) in
      let c = ns k lt h (byte k) refl s u step ∙ (λ i. (x.open_object i || (x.comma i && o k))) in
      let d = fs k lt h (byte k) refl s u step ∙ (λ i. ((x.open_array i || x.open_object i) || (x.string i && not (v k)))) in
      finish k s u m.0 same After (begun k lt h (byte k) refl s u step ∙ m.1) m.2
      (m.3 (expect k) (top s) ∙ value-moves (v k) (n k) (f k) After ((turns k lt).placed.scalar (b.scalar ∙ is)))
      (next_is k false false false a c d)
      (ap (went After) (sym kept.1))

  open_array_begins : (k : ℕ) → k < 63 → is_set starts k ≡ true → byte k ≡ 0x5b → (s u : List Holder) → Steps t o most k s u → Reads_byte k s u
  unfolding class_at
  open_array_begins k lt h is s u step = by_step step
    where
      b : Class_at k true 0x5b
      b = class-at k (omega arith) true 0x5b h is

      by_step : Steps t o most k s u → Reads_byte k s u
      by_step (array_opens set low new) =
          finish k s u mark.OpenArray (added Array) ArrayFirst (begun k lt h 0x5b is s u step) refl
          (value-moves (v k) (n k) (f k) ArrayFirst ((turns k lt).placed.open_array b.open_array))
          (next_is k _ _ _ (vs k lt h 0x5b is s u step) (ns k lt h 0x5b is s u step) (fs k lt h 0x5b is s u step))
          (within_depth most (at + k) Array ArrayFirst s low ∙ ap (went ArrayFirst) (sym new))
      by_step (along a' b' c' d' inner new) = let clash : true ≡ false = sym b.open_array ∙ a' in cc
      by_step (array_closes set low new) = let clash : true ≡ false = sym set ∙ b.close_array in cc
      by_step (object_opens set low new) = let clash : true ≡ false = sym set ∙ b.open_object in cc
      by_step (object_closes set low new) = let clash : true ≡ false = sym set ∙ b.close_object in cc

  open_object_begins : (k : ℕ) → k < 63 → is_set starts k ≡ true → byte k ≡ 0x7b → (s u : List Holder) → Steps t o most k s u → Reads_byte k s u
  unfolding class_at
  open_object_begins k lt h is s u step = by_step step
    where
      b : Class_at k true 0x7b
      b = class-at k (omega arith) true 0x7b h is

      by_step : Steps t o most k s u → Reads_byte k s u
      by_step (object_opens set low new) =
          finish k s u mark.OpenObject (added Object) ObjectFirst (begun k lt h 0x7b is s u step) refl
          (value-moves (v k) (n k) (f k) ObjectFirst ((turns k lt).placed.open_object b.open_object))
          (next_is k _ _ _ (vs k lt h 0x7b is s u step) (ns k lt h 0x7b is s u step) (fs k lt h 0x7b is s u step))
          (within_depth most (at + k) Object ObjectFirst s low ∙ ap (went ObjectFirst) (sym new))
      by_step (along a' b' c' d' inner new) = let clash : true ≡ false = sym b.open_object ∙ c' in cc
      by_step (array_opens set low new) = let clash : true ≡ false = sym set ∙ b.open_array in cc
      by_step (array_closes set low new) = let clash : true ≡ false = sym set ∙ b.close_array in cc
      by_step (object_closes set low new) = let clash : true ≡ false = sym set ∙ b.close_object in cc

  close_array_begins : (k : ℕ) → k < 63 → is_set starts k ≡ true → byte k ≡ 0x5d → (s u : List Holder) → Steps t o most k s u → Reads_byte k s u
  unfolding class_at
  close_array_begins k lt h is s u step = by_step step
    where
      b : Class_at k true 0x5d
      b = class-at k (omega arith) true 0x5d h is

      by_step : Steps t o most k s u → Reads_byte k s u
      by_step (array_closes set low new) =
          finish k s u mark.CloseArray (removed) After (begun k lt h 0x5d is s u step) refl
          (ap (next_of mark.CloseArray (expect k)) low ∙ close_array-moves (v k) (n k) (f k) ((turns k lt).placed.close_array b.close_array))
          (next_is k _ _ _ (vs k lt h 0x5d is s u step) (ns k lt h 0x5d is s u step) (fs k lt h 0x5d is s u step))
          (ap (went After) (sym new))
      by_step (along a' b' c' d' inner new) = let clash : true ≡ false = sym b.close_array ∙ b' in cc
      by_step (array_opens set low new) = let clash : true ≡ false = sym set ∙ b.open_array in cc
      by_step (object_opens set low new) = let clash : true ≡ false = sym set ∙ b.open_object in cc
      by_step (object_closes set low new) = let clash : true ≡ false = sym set ∙ b.close_object in cc

  close_object_begins : (k : ℕ) → k < 63 → is_set starts k ≡ true → byte k ≡ 0x7d → (s u : List Holder) → Steps t o most k s u → Reads_byte k s u
  unfolding class_at
  close_object_begins k lt h is s u step = by_step step
    where
      b : Class_at k true 0x7d
      b = class-at k (omega arith) true 0x7d h is

      by_step : Steps t o most k s u → Reads_byte k s u
      by_step (object_closes set low new) =
          finish k s u mark.CloseObject (removed) After (begun k lt h 0x7d is s u step) refl
          (ap (next_of mark.CloseObject (expect k)) low ∙ close_object-moves (v k) (n k) (f k) ((turns k lt).placed.close_object b.close_object))
          (next_is k _ _ _ (vs k lt h 0x7d is s u step) (ns k lt h 0x7d is s u step) (fs k lt h 0x7d is s u step))
          (ap (went After) (sym new))
      by_step (along a' b' c' d' inner new) = let clash : true ≡ false = sym b.close_object ∙ d' in cc
      by_step (array_opens set low new) = let clash : true ≡ false = sym set ∙ b.open_array in cc
      by_step (array_closes set low new) = let clash : true ≡ false = sym set ∙ b.close_array in cc
      by_step (object_opens set low new) = let clash : true ≡ false = sym set ∙ b.open_object in cc

  -- ---- one byte, and all

  is_byte : (k c : ℕ) → (w : ℕ) → is_set w k ≡ (is_set starts k && (byte k == c)) → is_set w k ≡ true → byte k ≡ c
  is_byte k c w among set = equal (byte k) c (and_right (is_set starts k) (byte k == c) (sym among ∙ set))

  byte_read : (k : ℕ) → k < 63 → (s u : List Holder) → Steps t o most k s u → Reads_byte k s u
  byte_read k lt s u step = by_bit (cases_Bool (is_set starts k))
    where
      low : k < 64
      low = omega arith

      of_2 : is_set starts k ≡ true → (is_set t.commas k ≡ true) ⊎ (is_set t.colons k ≡ true) → Reads_byte k s u
      of_2 h (inr set) = colon_begins k lt h (is_byte k 0x3a t.colons (kinds.colons k low) set) s u step
      of_2 h (inl set) = comma_begins k lt h (is_byte k 0x2c t.commas (kinds.commas k low) set) s u step

      of_3 : is_set starts k ≡ true → ((is_set t.commas k || is_set t.colons k) ≡ true) ⊎ (is_set t.strings k ≡ true) → Reads_byte k s u
      of_3 h (inr set) = string_begins k lt h (is_byte k 0x22 t.strings (kinds.strings k low) set) s u step
      of_3 h (inl more) = of_2 h (or_cases _ _ more)

      of_4 : is_set starts k ≡ true → (((is_set t.commas k || is_set t.colons k) || is_set t.strings k) ≡ true) ⊎ (is_set t.scalars k ≡ true) → Reads_byte k s u
      of_4 h (inr set) = scalar_begins k lt h (and_right (is_set starts k) (begins_scalar (byte k)) (sym (kinds.scalars k low) ∙ set)) s u step
      of_4 h (inl more) = of_3 h (or_cases _ _ more)

      of_5 : is_set starts k ≡ true → ((((is_set t.commas k || is_set t.colons k) || is_set t.strings k) || is_set t.scalars k) ≡ true) ⊎ (is_set t.open_arrays k ≡ true) → Reads_byte k s u
      of_5 h (inr set) = open_array_begins k lt h (is_byte k 0x5b t.open_arrays (kinds.open_arrays k low) set) s u step
      of_5 h (inl more) = of_4 h (or_cases _ _ more)

      of_6 : is_set starts k ≡ true → (((((is_set t.commas k || is_set t.colons k) || is_set t.strings k) || is_set t.scalars k) || is_set t.open_arrays k) ≡ true) ⊎ (is_set t.close_arrays k ≡ true) → Reads_byte k s u
      of_6 h (inr set) = close_array_begins k lt h (is_byte k 0x5d t.close_arrays (kinds.close_arrays k low) set) s u step
      of_6 h (inl more) = of_5 h (or_cases _ _ more)

      of_7 : is_set starts k ≡ true → ((((((is_set t.commas k || is_set t.colons k) || is_set t.strings k) || is_set t.scalars k) || is_set t.open_arrays k) || is_set t.close_arrays k) ≡ true) ⊎ (is_set t.open_objects k ≡ true) → Reads_byte k s u
      of_7 h (inr set) = open_object_begins k lt h (is_byte k 0x7b t.open_objects (kinds.open_objects k low) set) s u step
      of_7 h (inl more) = of_6 h (or_cases _ _ more)

      of_8 : is_set starts k ≡ true → (((((((is_set t.commas k || is_set t.colons k) || is_set t.strings k) || is_set t.scalars k) || is_set t.open_arrays k) || is_set t.close_arrays k) || is_set t.open_objects k) ≡ true) ⊎ (is_set t.close_objects k ≡ true) → Reads_byte k s u
      of_8 h (inr set) = close_object_begins k lt h (is_byte k 0x7d t.close_objects (kinds.close_objects k low) set) s u step
      of_8 h (inl more) = of_7 h (or_cases _ _ more)

      by_bit : (is_set starts k ≡ true) ⊎ (is_set starts k ≡ false) → Reads_byte k s u
      by_bit (inr h) = none_begins k lt h s u step
      by_bit (inl h) = of_8 h (or_cases _ _ (kinds.all k low h))

  -- the bytes before byte k are read as the words say
  pub block_read : (k : ℕ) → k ≤ 63 → (s u : List Holder) → Walks t o most s k u
      → read most (marks_of starts 0 at (slice_range text at (at + k))) (went (expect 0) s) ≡ went (expect k) u
  unfolding marks_of
  block_read zero le s u walks =
      let e : at + 0 ≡ at = omega arith in
      ap (λ (bytes : List ℕ). read most (marks_of starts 0 at bytes) (went (expect 0) s)) (ap (slice_range text at) e ∙ slice-none text at) ∙ ap (went (expect 0)) (sym walks)
  block_read (suc k) le s u walks =
      let bytes = slice_range text at (at + k) in
      let long = slice-length text at (at + k) (omega arith) (omega arith) in
      let e : at + suc k ≡ at + k + 1 = omega arith in
      let m : 0 + length bytes ≡ k = omega (arith, long) in
      let a : at + length bytes ≡ at + k = omega (arith, long) in
      ap (λ (bytes : List ℕ). read most (marks_of starts 0 at bytes) (went (expect 0) s)) (ap (slice_range text at) e ∙ slice-more text at (at + k) 0 (omega arith) (omega arith))
      ∙ ap (λ (ms : List Mark). read most ms (went (expect 0) s)) (marks_of-append starts 0 at bytes (byte k ∷ []))
      ∙ read-append most (marks_of starts 0 at bytes) (marks_of starts (0 + length bytes) (at + length bytes) (byte k ∷ [])) (went (expect 0) s)
      ∙ (λ i. read most (marks_of starts (m i) (a i) (byte k ∷ [])) (block_read k (omega arith) s walks.0 walks.1 i))
      ∙ ap (λ (ms : List Mark). read most ms (went (expect k) walks.0)) (marks_of-one starts k (at + k) (byte k))
      ∙ byte_read k (omega arith) walks.0 u walks.2

-- the first bytes of a block are read as words say that lead through it
pub block-followed : (most : ℕ) (text : List ℕ) (at starts len : ℕ) (expect next : Expect) (t : TokenKinds) (o : ℕ → Bool) (s u : List Holder) → AreKinds text at starts t → at + 64 ≤ length text → len ≤ 63
    → LeadsBy t starts o len expect next → Walks t o most s len u → read most (marks_of starts 0 at (slice_range text at (at + len))) (went expect s) ≡ went next u
block-followed most text at starts len expect next t o s u kinds fits few leads walks =
    ap (λ (e : Expect). read most (marks_of starts 0 at (slice_range text at (at + len))) (went e s)) (sym leads.begun)
    ∙ block_read most text at starts t kinds o leads.value leads.name leads.first leads.turns fits len few s u walks
    ∙ ap (λ (e : Expect). went e u) leads.ended

-- behind the last token no bracket stands
pub no_bracket_behind : (text : List ℕ) (at starts len : ℕ) (t : TokenKinds) → AreKinds text at starts t → starts < 2 ^ len → (k : ℕ) → len ≤ k → k < 64
    → (((is_set t.open_arrays k || is_set t.open_objects k) || is_set t.close_arrays k) || is_set t.close_objects k) ≡ false
no_bracket_behind text at starts len t kinds few k le lt =
    let none : is_set starts k ≡ false = ap (λ n. n == 1) (bit_at_above starts len k few le) in
    let b = λ (p : ℕ → Bool). ap (λ (s : Bool). s && p (get_or text (at + k) 0)) none in
    (λ i. (((kinds.open_arrays k lt ∙ b (λ x. x == 0x5b)) i || (kinds.open_objects k lt ∙ b (λ x. x == 0x7b)) i) || (kinds.close_arrays k lt ∙ b (λ x. x == 0x5d)) i) || (kinds.close_objects k lt ∙ b (λ x. x == 0x7d)) i)
