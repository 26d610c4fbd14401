-- Expectations before each byte of a block, as words of bits, and how the tokens of the block change them.
use Rattle.std.specs.Prelude.{◌≡◌, ◌<◌, ℕ, zero, suc, Bool, true, false, not, ◌&&◌, ◌||◌, List, ◌∷◌, length}
use Rattle.jx_block.specs.Listed.{is_set}
use Rattle.jx_block.specs.declared.kinds.TokenKinds.{TokenKinds}
use Rattle.jx_reduce.specs.Read.{top, without_top}
use Rattle.jx_reduce.specs.declared.table.expect.Expect.{Expect}
use Rattle.jx_reduce.specs.declared.table.expect.Expect.TheVariants.{Value, ArrayFirst, ObjectFirst, Name, Colon, After}
use Rattle.jx_reduce.specs.declared.table.holder.Holder.{Holder}
use Rattle.jx_reduce.specs.declared.table.holder.Holder.TheVariants.{Array, Object}

-- the tokens that may stand next, by three bits: a value, a name, and whether it is the first of its container; neither of both and the third: a
-- colon
abbrev pub expect_at : Bool → Bool → Bool → Expect
expect_at true n true = ArrayFirst
expect_at true n false = Value
expect_at false true true = ObjectFirst
expect_at false true false = Name
expect_at false false true = Colon
expect_at false false false = After

-- the innermost container, by a bit: whether it is an object
abbrev pub container : Bool → Holder
container true = Object
container false = Array

-- each token of byte k stands where it may
pub record Placed (kinds : TokenKinds) (value name first : ℕ → Bool) (k : ℕ) : Type 0 where
  pub comma : is_set kinds.commas k ≡ true → not ((value k || name k) || first k) ≡ true
  pub colon : is_set kinds.colons k ≡ true → (not (value k || name k) && first k) ≡ true
  pub string : is_set kinds.strings k ≡ true → (value k || name k) ≡ true
  pub scalar : is_set kinds.scalars k ≡ true → value k ≡ true
  pub open_array : is_set kinds.open_arrays k ≡ true → value k ≡ true
  pub open_object : is_set kinds.open_objects k ≡ true → value k ≡ true
  pub close_array : is_set kinds.close_arrays k ≡ true → ((value k && first k) || not ((value k || name k) || first k)) ≡ true
  pub close_object : is_set kinds.close_objects k ≡ true → ((not (value k) && (name k && first k)) || not ((value k || name k) || first k)) ≡ true

-- the words go on at byte k as its token says
pub record Turns (kinds : TokenKinds) (starts : ℕ) (object value name first : ℕ → Bool) (k : ℕ) : Type 0 where
  pub placed : Placed kinds value name first k
  pub value_next : value (suc k) ≡ (((is_set kinds.open_arrays k || is_set kinds.colons k) || (is_set kinds.commas k && not (object k))) || (value k && not (is_set starts k)))
  pub name_next : name (suc k) ≡ ((is_set kinds.open_objects k || (is_set kinds.commas k && object k)) || (name k && not (is_set starts k)))
  pub first_next : first (suc k) ≡ (((is_set kinds.open_arrays k || is_set kinds.open_objects k) || (is_set kinds.strings k && not (value k))) || (first k && not (is_set starts k)))

-- the change that byte k makes to the open containers; where it is no bracket, a bit says which one is the innermost
pub data Steps (kinds : TokenKinds) (object : ℕ → Bool) (most k : ℕ) (old new : List Holder) : Type 0 where
  along : is_set kinds.open_arrays k ≡ false → is_set kinds.close_arrays k ≡ false → is_set kinds.open_objects k ≡ false → is_set kinds.close_objects k ≡ false
      → top old ≡ container (object k) → new ≡ old → Steps kinds object most k old new
  array_opens : is_set kinds.open_arrays k ≡ true → length old < most → new ≡ Array ∷ old → Steps kinds object most k old new
  array_closes : is_set kinds.close_arrays k ≡ true → top old ≡ Array → new ≡ without_top old → Steps kinds object most k old new
  object_opens : is_set kinds.open_objects k ≡ true → length old < most → new ≡ Object ∷ old → Steps kinds object most k old new
  object_closes : is_set kinds.close_objects k ≡ true → top old ≡ Object → new ≡ without_top old → Steps kinds object most k old new

-- so the bytes before byte n do one after another
abbrev pub Walks : TokenKinds → (ℕ → Bool) → (most : ℕ) → (old : List Holder) → (n : ℕ) → (new : List Holder) → Type 0
Walks kinds object most old zero new = new ≡ old
Walks kinds object most old (suc k) new = (before : List Holder) × Walks kinds object most old k before × Steps kinds object most k before new

-- words for what may stand next lead through the first bytes of a block
pub record LeadsBy (kinds : TokenKinds) (starts : ℕ) (object : ℕ → Bool) (len : ℕ) (expect then : Expect) : Type 0 where
  pub value : ℕ → Bool
  pub name : ℕ → Bool
  pub first : ℕ → Bool
  pub turns : (k : ℕ) → k < 63 → Turns kinds starts object value name first k
  pub begun : expect_at (value 0) (name 0) (first 0) ≡ expect
  pub ended : expect_at (value len) (name len) (first len) ≡ then
