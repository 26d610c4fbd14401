-- The brackets of a block, walked one by one.
use Rattle.std.proofs.Common.{◌≡◌, ◌⊎◌, inl, inr, ℕ, zero, suc, ◌+◌, ◌-◌, ◌<◌, ◌≤◌, Bool, true, false, List, ◌∷◌, ◌++◌, length, Option, Some, None, refl, ap, sym, subst, ◌∙◌, arith, bit_or}
use Rattle.std.specs.Prelude.{◌==◌, ◌||◌, IfSome}
use Rattle.std.proofs.lemmas.Bool.{or_cases, or_parts}
use Rattle.std.proofs.lemmas.List.{length-append}
use Rattle.jx_lex.specs.inside.Bits.{bit}
use Rattle.jx_lex.proofs.Bits.{bit-or}
use Rattle.jx_block.specs.Listed.{is_set}
use Rattle.jx_block.specs.declared.kinds.TokenKinds.{TokenKinds}
use Rattle.jx_reduce.specs.Bits.{holder_of, in_word}
use Rattle.jx_reduce.specs.Read.{top, without_top}
use Rattle.jx_reduce.specs.inside.Blocks.{container, Steps, along, array_opens, array_closes, object_opens, object_closes, Walks}
use Rattle.jx_reduce.specs.declared.stack.containers.Innermost.{Innermost}
use Rattle.jx_reduce.specs.declared.table.holder.Holder.{Holder}
use Rattle.jx_reduce.proofs.KnownWords.{length-in_word}

pub contained : (x : ℕ) → x < 2 → holder_of x ≡ container (x == 1)
contained zero lt = refl
contained (suc zero) lt = refl
contained (suc (suc x)) lt = absurd (omega arith)

-- ---- one bracket

module _ (t : TokenKinds) (k : ℕ) (inner : Innermost) (room : ℕ) where
  -- what the bracket does, over whatever is around the word
  abbrev pub DoesStep : Innermost → Type 0
  DoesStep r = (rest : List Holder) (most : ℕ) (object : ℕ → Bool) → length rest + room ≤ most → Steps t object most k (in_word inner.count inner.bits ++ rest) (in_word r.count r.bits ++ rest)

  short : (rest : List Holder) (most : ℕ) → length rest + room ≤ most → inner.count < room → length (in_word inner.count inner.bits ++ rest) < most
  short rest most le lt = omega (arith, le, lt, length-append (in_word inner.count inner.bits) rest, length-in_word inner.count inner.bits)

  pub opens_one : (o : Option Innermost) (object : Bool) → is_set t.open_objects k ≡ object → (is_set t.open_arrays k || is_set t.open_objects k) ≡ true → IfSome o (λ r. inner.count < room)
      → IfSome o (λ r. (rest : List Holder) → in_word r.count r.bits ++ rest ≡ container object ∷ (in_word inner.count inner.bits ++ rest)) → IfSome o DoesStep
  opens_one None object e opens low more = tt
  opens_one (Some r) true e opens low more = λ rest most o le. object_opens e (short rest most le low) (more rest)
  opens_one (Some r) false e opens low more = λ rest most o le. by_kind (or_cases _ _ opens) rest most o le
    where
      by_kind : (is_set t.open_arrays k ≡ true) ⊎ (is_set t.open_objects k ≡ true) → DoesStep r
      by_kind (inl set) = λ rest most o le. array_opens set (short rest most le low) (more rest)
      by_kind (inr set) = let clash : true ≡ false = sym set ∙ e in absurd cc

  pub closes_one : (o : Option Innermost) (object : Bool) → is_set t.close_objects k ≡ object → (is_set t.close_arrays k || is_set t.close_objects k) ≡ true
      → IfSome o (λ r. (rest : List Holder) → top (in_word inner.count inner.bits ++ rest) ≡ container object)
      → IfSome o (λ r. (rest : List Holder) → in_word r.count r.bits ++ rest ≡ without_top (in_word inner.count inner.bits ++ rest)) → IfSome o DoesStep
  closes_one None object e closes is less = tt
  closes_one (Some r) true e closes is less = λ rest most o le. object_closes e (is rest) (less rest)
  closes_one (Some r) false e closes is less = λ rest most o le. by_kind (or_cases _ _ closes) rest most o le
    where
      by_kind : (is_set t.close_arrays k ≡ true) ⊎ (is_set t.close_objects k ≡ true) → DoesStep r
      by_kind (inl set) = λ rest most o le. array_closes set (is rest) (less rest)
      by_kind (inr set) = let clash : true ≡ false = sym set ∙ e in absurd cc

-- of four bits of which one is set, one of the last two is, where none of the first two is
pub last_two : (a b c d : Bool) → (((a || b) || c) || d) ≡ true → (a || b) ≡ false → (c || d) ≡ true
last_two true b c d h none = absurd cc
last_two false true c d h none = absurd cc
last_two false false c d h none = h

-- ---- all brackets

-- the brackets of a block
abbrev pub any_bracket : TokenKinds → ℕ → Bool
any_bracket t k = ((is_set t.open_arrays k || is_set t.open_objects k) || is_set t.close_arrays k) || is_set t.close_objects k

pub bracket-bit : (t : TokenKinds) (k : ℕ) → bit (bit_or (bit_or (bit_or t.open_arrays t.open_objects) t.close_arrays) t.close_objects) k ≡ any_bracket t k
unfolding bit
bracket-bit t k =
    bit-or _ _ k ∙ ap (λ b. b || bit t.close_objects k) (bit-or _ _ k ∙ ap (λ b. b || bit t.close_arrays k) (bit-or t.open_arrays t.open_objects k))

no_bracket : (t : TokenKinds) (o : ℕ → Bool) (most k : ℕ) (s : List Holder) → any_bracket t k ≡ false → top s ≡ container (o k) → Steps t o most k s s
no_bracket t o most k s none inner =
    let p = or_parts _ (is_set t.close_objects k) none in
    let q = or_parts _ (is_set t.close_arrays k) p.0 in
    let r = or_parts (is_set t.open_arrays k) (is_set t.open_objects k) q.0 in
    along r.0 q.1 r.1 p.1 inner refl

-- on to a place before which no other bracket stands
pub walks-on : (t : TokenKinds) (o : ℕ → Bool) (most : ℕ) (s u : List Holder) (a d : ℕ) → Walks t o most s a u → ((j : ℕ) → a ≤ j → j < a + d → any_bracket t j ≡ false)
    → ((j : ℕ) → a ≤ j → j < a + d → top u ≡ container (o j)) → Walks t o most s (a + d) u
walks-on t o most s u a zero w none inner = let e : a ≡ a + 0 = omega arith in subst (λ n. Walks t o most s n u) e w
walks-on t o most s u a (suc d) w none inner =
    let e : suc (a + d) ≡ a + suc d = omega arith in
    let before = walks-on t o most s u a d w (λ j le lt. none j le (omega arith)) (λ j le lt. inner j le (omega arith)) in
    subst (λ n. Walks t o most s n u) e (u, before, no_bracket t o most (a + d) u (none (a + d) (omega arith) (omega arith)) (inner (a + d) (omega arith) (omega arith)))

-- the bits of later bytes do not matter
steps-same : (t : TokenKinds) (o p : ℕ → Bool) (most k : ℕ) (s u : List Holder) → p k ≡ o k → Steps t o most k s u → Steps t p most k s u
steps-same t o p most k s u e (along a b c d inner new) = along a b c d (inner ∙ ap container (sym e)) new
steps-same t o p most k s u e (array_opens h low new) = array_opens h low new
steps-same t o p most k s u e (array_closes h low new) = array_closes h low new
steps-same t o p most k s u e (object_opens h low new) = object_opens h low new
steps-same t o p most k s u e (object_closes h low new) = object_closes h low new

pub walks-same : (t : TokenKinds) (o p : ℕ → Bool) (most n : ℕ) (s u : List Holder) → ((j : ℕ) → j < n → p j ≡ o j) → Walks t o most s n u → Walks t p most s n u
walks-same t o p most zero s u e w = w
walks-same t o p most (suc n) s u e w = (w.0, walks-same t o p most n s w.0 (λ j lt. e j (omega arith)) w.1, steps-same t o p most n w.0 u (e n (omega arith)) w.2)

-- on to the next bracket, and over it
pub walks-over : (t : TokenKinds) (o p : ℕ → Bool) (most : ℕ) (s u w : List Holder) (from k : ℕ) → from ≤ k → k < 64 → Walks t o most s from u
    → ((j : ℕ) → from ≤ j → j < k → any_bracket t j ≡ false) → ((j : ℕ) → from ≤ j → j < 64 → top u ≡ container (o j)) → ((j : ℕ) → j ≤ k → p j ≡ o j)
    → Steps t p most k u w → Walks t p most s (k + 1) w
walks-over t o p most s u w from k le lt walks none inner same step =
    let e : suc k ≡ k + 1 = omega arith in
    let d : from + (k - from) ≡ k = omega arith in
    let on = walks-on t o most s u from (k - from) walks (λ j low high. none j low (omega arith)) (λ j low high. inner j low (omega arith)) in
    subst (λ n. Walks t p most s n w) e (u, walks-same t o p most k s u (λ j lt. same j (omega arith)) (subst (λ n. Walks t o most s n u) d on), step)
