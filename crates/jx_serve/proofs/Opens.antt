-- Lists in each other that grow.
use Rattle.std.proofs.Common.{◌≡◌, ℕ, zero, suc, ◌+◌, ◌*◌, ◌-◌, ◌<◌, ◌≤◌, arith, Bool, true, false, ◌&&◌, List, [], ◌∷◌, ◌++◌, append_assoc, append-nil, length, length-append, take, refl, sym, ap, subst, ◌∙◌, inl, inr}
use Rattle.std.proofs.lemmas.List.{length-take-le}
use Rattle.jx_serve.specs.inside.Sound.{AreItems, IsValue, GoesOn, IsList, IsWhole, IsHead, closing, closings, back, comma, IsBegun, IsOpen, AreOpen, AddsHead}
use Rattle.jx_serve.proofs.Sounds.{items_end, items_on}

on : (limit : ℕ) (v more rest : List ℕ) → IsWhole limit v → GoesOn limit more rest → AreItems limit (v ++ more) rest
on limit v more rest w (inl e) = subst (λ m. AreItems limit (v ++ m) rest) (sym e) (items_end limit (v ++ rest) rest (w rest))
on limit v more rest w (inr x) =
    subst (λ m. AreItems limit (v ++ m) rest) (sym x.1.0) (items_on limit (v ++ (0x2c ∷ x.0)) x.0 rest (w (0x2c ∷ x.0)) x.1.1)

pub one_item : (limit : ℕ) (v : List ℕ) → IsWhole limit v → IsList limit v
one_item limit v w more rest g = on limit v more rest w g

pub more_items : (limit : ℕ) (xs v : List ℕ) → IsList limit xs → IsWhole limit v → IsList limit ((xs ++ (0x2c ∷ [])) ++ v)
more_items limit xs v l w more rest g =
    let e : xs ++ (0x2c ∷ (v ++ more)) ≡ ((xs ++ (0x2c ∷ [])) ++ v) ++ more = sym (append_assoc (xs ++ (0x2c ∷ [])) v more ∙ append_assoc xs (0x2c ∷ []) (v ++ more)) in
    subst (λ b. AreItems limit b rest) e (l (0x2c ∷ (v ++ more)) rest (inr (v ++ more, (refl, on limit v more rest w g))))

-- an element more in the innermost list
pub one_more : (head : List ℕ) (n limit : ℕ) (none : Bool) (bytes v : List ℕ) → IsOpen head n limit none bytes → IsWhole limit v → IsOpen head n limit false ((bytes ++ comma none) ++ v)
one_more head zero limit true bytes v o w =
    (v, (ap (λ b. b ++ v) (append-nil bytes ∙ o), one_item limit v w))
one_more head zero limit false bytes v o w = (
  (o.0 ++ (0x2c ∷ [])) ++ v,
  (
    ap (λ b. (b ++ (0x2c ∷ [])) ++ v) o.1.0 ∙ ap (λ b. b ++ v) (append_assoc head o.0 (0x2c ∷ [])) ∙ append_assoc head (o.0 ++ (0x2c ∷ [])) v,
    more_items limit o.0 v o.1.1 w,
  ),
)
one_more head (suc n) limit none bytes v o w = (
  (λ list l.
      subst (λ b. IsOpen head n (suc (suc limit)) false (b ++ closing))
      (sym (append_assoc (bytes ++ comma none) (v ++ (0x2c ∷ [])) list) ∙ ap (λ b. b ++ list) (sym (append_assoc (bytes ++ comma none) v (0x2c ∷ []))))
      (o.0 ((v ++ (0x2c ∷ [])) ++ list) (before v list w l))),
  o.0 v (one_item limit v w),
)
  where
    before : (v list : List ℕ) → IsWhole limit v → IsList limit list → IsList limit ((v ++ (0x2c ∷ [])) ++ list)
    before v list w l more rest g =
        let e : v ++ (0x2c ∷ (list ++ more)) ≡ ((v ++ (0x2c ∷ [])) ++ list) ++ more = sym (append_assoc (v ++ (0x2c ∷ [])) list more ∙ append_assoc v (0x2c ∷ []) (list ++ more)) in
        subst (λ b. AreItems limit b rest) e (items_on limit (v ++ (0x2c ∷ (list ++ more))) (list ++ more) rest (w (0x2c ∷ (list ++ more))) (l more rest g))

-- one that is open
whole_of : (limit : ℕ) (h list : List ℕ) → IsHead limit h → IsList limit list → IsWhole (suc (suc limit)) ((h ++ list) ++ closing)
whole_of limit h list head l rest =
    let e : h ++ (list ++ (0x5d ∷ 0x7d ∷ rest)) ≡ ((h ++ list) ++ closing) ++ rest = sym (append_assoc (h ++ list) closing rest ∙ append_assoc h list (0x5d ∷ 0x7d ∷ rest)) in
    subst (λ b. IsValue (suc (suc limit)) b rest) e (head (list ++ (0x5d ∷ 0x7d ∷ rest)) rest (inr (l (0x5d ∷ 0x7d ∷ rest) (0x5d ∷ 0x7d ∷ rest) (inl refl))))

empty_of : (limit : ℕ) (h : List ℕ) → IsHead limit h → IsWhole (suc (suc limit)) (h ++ closing)
empty_of limit h head rest = subst (λ b. IsValue (suc (suc limit)) b rest) (sym (append_assoc h closing rest)) (head (0x5d ∷ 0x7d ∷ rest) rest (inl refl))

pub opened : (head : List ℕ) (n limit : ℕ) (none : Bool) (bytes h : List ℕ) → IsOpen head n (suc (suc limit)) none bytes → IsHead limit h → IsOpen head (suc n) limit true ((bytes ++ comma none) ++ h)
opened head n limit none bytes h o is =
    let b : List ℕ = bytes ++ comma none in (
      (λ list l.
          subst (λ x. IsOpen head n (suc (suc limit)) false x)
          (sym (append_assoc b (h ++ list) closing) ∙ ap (λ x. x ++ closing) (sym (append_assoc b h list) ∙ ap (λ x. x ++ list) (sym (append-nil (b ++ h)))))
          (one_more head n (suc (suc limit)) none bytes ((h ++ list) ++ closing) o (whole_of limit h list is l))),
      subst (λ x. IsOpen head n (suc (suc limit)) false x) (sym (append_assoc b h closing)) (one_more head n (suc (suc limit)) none bytes (h ++ closing) o (empty_of limit h is)),
    )

pub closed : (head : List ℕ) (n limit : ℕ) (none : Bool) (bytes : List ℕ) → IsOpen head (suc n) limit none bytes → IsOpen head n (suc (suc limit)) false (bytes ++ closing)
closed head n limit none bytes o = o.1

-- ---- so many end

closing_first : (n : ℕ) → closings n ++ closing ≡ closing ++ closings n
closing_first zero = refl
closing_first (suc n) = append_assoc closing (closings n) closing ∙ ap (λ b. closing ++ b) (closing_first n)

pub closings_more : (o : List ℕ) (n : ℕ) → (o ++ closings n) ++ closing ≡ o ++ closings (n + 1)
closings_more o n =
    let e : suc n ≡ n + 1 = omega arith in
    append_assoc o (closings n) closing ∙ ap (λ b. o ++ b) (closing_first n) ∙ ap (λ k. o ++ closings k) e

pub record Ended (head : List ℕ) (n limit : ℕ) (bytes : List ℕ) : Type 0 where
  pub limit_now : ℕ
  pub deep : limit_now ≡ limit
  pub is_open : IsOpen head n limit_now false bytes

pub closed_by : (head : List ℕ) (k n count limit : ℕ) (none : Bool) (bytes : List ℕ) → n ≡ suc k + count → IsOpen head n limit none bytes
    → Ended head count (limit + 2 * suc k) (bytes ++ closings (suc k))
closed_by head k zero count limit none bytes e o = absurd (omega (arith, e))
closed_by head zero (suc m) count limit none bytes e o =
    let same : m ≡ count = omega (arith, e) in
    record {
      limit_now = suc (suc limit);
      deep = omega arith;
      is_open = subst (λ (b : List ℕ). IsOpen head count (suc (suc limit)) false (bytes ++ b)) (sym (append-nil closing))
          (subst (λ (i : ℕ). IsOpen head i (suc (suc limit)) false (bytes ++ closing)) same (closed head m limit none bytes o));
    }
closed_by head (suc j) (suc m) count limit none bytes e o =
    let x = closed_by head j m count (suc (suc limit)) false (bytes ++ closing) (omega (arith, e)) (closed head m limit none bytes o) in
    record {
      limit_now = x.limit_now;
      deep = x.deep ∙ omega arith;
      is_open = subst (λ (b : List ℕ). IsOpen head count x.limit_now false b) (append_assoc bytes closing (closings (suc j))) x.is_open;
    }

-- ---- and another begins

deeper : (n limit : ℕ) → n < 100 → limit + 2 * n ≡ 201 → (less : ℕ) × (limit ≡ suc (suc (suc less)))
deeper n zero h e = absurd (omega (arith, h, e))
deeper n (suc zero) h e = absurd (omega (arith, h, e))
deeper n (suc (suc zero)) h e = absurd (omega (arith, h, e))
deeper n (suc (suc (suc less))) h e = (less, refl)

begun : (head : List ℕ) (n limit : ℕ) (none : Bool) (bytes after : List ℕ) → n < 100 → limit + 2 * n ≡ 201 → IsOpen head n limit none bytes → AddsHead (bytes ++ comma none) after
    → AreOpen head (suc n) true after
begun head n limit none bytes after few deep o a =
    let d = deeper n limit few deep in
    record {
      limit = suc d.0;
      deep = omega (arith, deep, d.1);
      is_open = subst (λ (b : List ℕ). IsOpen head (suc n) (suc d.0) true b) (sym a.whole)
          (opened head n (suc d.0) none bytes a.head (subst (λ (l : ℕ). IsOpen head n l none bytes) d.1 o) (a.is_head d.0));
    }

pub one_deeper : (head : List ℕ) (n count : ℕ) (bytes after : List ℕ) → AreOpen head n true bytes → count ≤ n → count < 100 → AddsHead (bytes ++ back (n - count)) after
    → AreOpen head (suc count) true after
one_deeper head n count bytes after o le few a = pick (n - count) refl
  where
    pick : (k : ℕ) → n - count ≡ k → AreOpen head (suc count) true after
    pick zero e =
        let same : n ≡ count = omega (arith, le, e) in
        subst (λ (i : ℕ). AreOpen head (suc i) true after) same
        (begun head n o.limit true bytes after (omega (arith, few, same)) o.deep o.is_open (subst (λ (k : ℕ). AddsHead (bytes ++ back k) after) e a))
    pick (suc j) e =
        let x = closed_by head j n count o.limit true bytes (omega (arith, le, e)) o.is_open in
        begun head count x.limit_now false (bytes ++ closings (suc j)) after few (omega (arith, x.deep, o.deep, le, e)) x.is_open
        (subst (λ (b : List ℕ). AddsHead b after) (sym (append_assoc bytes (closings (suc j)) (0x2c ∷ []))) (subst (λ (k : ℕ). AddsHead (bytes ++ back k) after) e a))

-- all end
pub all_closed : (head : List ℕ) (n : ℕ) (bytes : List ℕ) → AreOpen head n true bytes → (none : Bool) × IsBegun head 201 none (bytes ++ closings n)
all_closed head zero bytes o =
    (true, append-nil bytes ∙ o.is_open)
all_closed head (suc k) bytes o =
    let x = closed_by head k (suc k) 0 o.limit true bytes (omega arith) o.is_open in
    (false, subst (λ (l : ℕ). IsOpen head 0 l false (bytes ++ closings (suc k))) (x.deep ∙ omega (arith, o.deep)) x.is_open)

pub open_first : (head bytes : List ℕ) (n : ℕ) → n ≡ 0 → bytes ≡ head → AreOpen head n true bytes
open_first head bytes n e f = subst (λ (k : ℕ). AreOpen head k true bytes) (sym e) (record { limit = 201; deep = refl; is_open = f })

pub stepped : (head : List ℕ) (count : ℕ) (stack kept grown : List ℕ) (number : ℕ) (before mid after : List ℕ) → count ≤ length stack → count < 100 → kept ≡ take count stack → grown ≡ kept ++ number ∷ []
    → mid ≡ before ++ back (length stack - count) → AddsHead mid after → AreOpen head (length stack) true before → AreOpen head (length grown) true after
stepped head count stack kept grown number before mid after le few k g m a o =
    let long : length grown ≡ suc count = ap length g ∙ length-append kept (number ∷ []) ∙ omega (arith, ap length k, length-take-le count stack le) in
    subst (λ (n : ℕ). AreOpen head n true after) (sym long) (one_deeper head (length stack) count before after o le few (subst (λ (b : List ℕ). AddsHead b after) m a))

pub no_back : (o : List ℕ) (n count : ℕ) → n ≤ count → o ≡ o ++ back (n - count)
no_back o n count h = let e : 0 ≡ n - count = omega (arith, h) in sym (append-nil o) ∙ ap (λ k. o ++ back k) e

back_some : (n : ℕ) → 0 < n → closings n ++ (0x2c ∷ []) ≡ back n
back_some zero h = absurd (omega (arith, h))
back_some (suc n) h = refl

pub gone_back : (o mid after : List ℕ) (n count : ℕ) → count < n → mid ≡ o ++ closings (n - count) → after ≡ mid ++ (0x2c ∷ []) → after ≡ o ++ back (n - count)
gone_back o mid after n count h m a =
    a ∙ ap (λ b. b ++ (0x2c ∷ [])) m ∙ append_assoc o (closings (n - count)) (0x2c ∷ []) ∙ ap (λ b. o ++ b) (back_some (n - count) (omega (arith, h)))

pub both_true : (a b : Bool) → a && b ≡ true → (a ≡ true) × (b ≡ true)
both_true true b h = (refl, h)
both_true false b h = absurd cc
