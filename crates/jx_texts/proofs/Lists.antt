-- Lists of bytes: blanks in front, and what two lists have in common.
use Rattle.std.proofs.Common.{◌≡◌, ℕ, zero, suc, ◌+◌, ◌<◌, List, [], ◌∷◌, ◌++◌, length, take, get_or, Bool, true, false, refl, sym, ap, subst, ◌∙◌, inl, inr, ◌⊎◌, arith}
use Rattle.std.specs.Prelude.{◌&&◌, ◌==◌, not}
use Rattle.std.specs.List.{list_all}
use Rattle.jx_lex.specs.Uneventful.{is_blank}
use Rattle.jx_texts.specs.Texts.{AreBlanks}
use Rattle.jx_texts.specs.inside.Steps.{IsUpTo, lacks, present}

pub clash : {A : Type 0} {b : Bool} → b ≡ true → b ≡ false → A
clash p q = absurd (cc)

pub and_left : (p q : Bool) → (p && q) ≡ true → p ≡ true
and_left true q h = refl
and_left false q h = absurd (cc)

pub and_right : (p q : Bool) → (p && q) ≡ true → q ≡ true
and_right true q h = h
and_right false q h = absurd (cc)

-- one gap stands in front of what is no blank
pub one_gap : (g h : List ℕ) (b c : ℕ) (x y : List ℕ) → AreBlanks g → AreBlanks h → is_blank b ≡ false → is_blank c ≡ false → g ++ (b ∷ x) ≡ h ++ (c ∷ y) → (g ≡ h) × (b ∷ x ≡ c ∷ y)
one_gap [] [] b c x y p q m n e = (refl, e)
one_gap [] (k ∷ h) b c x y p q m n e =
    let same : b ≡ k = cc in clash (and_left (is_blank k) (list_all is_blank h) q) (subst (λ (z : ℕ). is_blank z ≡ false) same m)
one_gap (k ∷ g) [] b c x y p q m n e =
    let same : c ≡ k = cc in clash (and_left (is_blank k) (list_all is_blank g) p) (subst (λ (z : ℕ). is_blank z ≡ false) same n)
one_gap (k ∷ g) (l ∷ h) b c x y p q m n e =
    let head : k ≡ l = cc in
    let tail : g ++ (b ∷ x) ≡ h ++ (c ∷ y) = cc in
    let more = one_gap g h b c x y (and_right (is_blank k) (list_all is_blank g) p) (and_right (is_blank l) (list_all is_blank h) q) m n tail in
    let all : k ∷ g ≡ l ∷ h = ap (λ (z : ℕ). z ∷ g) head ∙ ap (λ (zs : List ℕ). l ∷ zs) more.0 in
    (all, more.1)

-- blanks alone have no other byte
pub no_other : (rest g : List ℕ) (c : ℕ) (y : List ℕ) → AreBlanks rest → is_blank c ≡ false → rest ≡ g ++ (c ∷ y) → ⊥
no_other [] [] c y p n e = absurd (cc)
no_other [] (k ∷ g) c y p n e = absurd (cc)
no_other (r ∷ rest) [] c y p n e =
    let same : c ≡ r = cc in clash (and_left (is_blank r) (list_all is_blank rest) p) (subst (λ (z : ℕ). is_blank z ≡ false) same n)
no_other (r ∷ rest) (k ∷ g) c y p n e =
    let tail : rest ≡ g ++ (c ∷ y) = cc in no_other rest g c y (and_right (is_blank r) (list_all is_blank rest) p) n tail

-- of two lists with one beginning, one is the other and more
pub record IsLonger (x y u v : List ℕ) : Type 0 where
  pub more : List ℕ
  pub first : x ≡ y ++ more
  pub rest : v ≡ more ++ u

pub record IsShorter (x y u v : List ℕ) : Type 0 where
  pub next : ℕ
  pub more : List ℕ
  pub first : y ≡ x ++ (next ∷ more)
  pub rest : u ≡ next ∷ (more ++ v)

pub either : (x y u v : List ℕ) → x ++ u ≡ y ++ v → IsLonger x y u v ⊎ IsShorter x y u v
either x [] u v e = inl (record { more = x; first = refl; rest = sym e })
either [] (b ∷ y) u v e = inr (record { next = b; more = y; first = refl; rest = e })
either (a ∷ x) (b ∷ y) u v e =
    let head : a ≡ b = cc in
    let tail : x ++ u ≡ y ++ v = cc in
    pick head (either x y u v tail)
  where
    pick : a ≡ b → IsLonger x y u v ⊎ IsShorter x y u v → IsLonger (a ∷ x) (b ∷ y) u v ⊎ IsShorter (a ∷ x) (b ∷ y) u v
    pick h (inl l) = inl (record { more = l.more; first = ap (λ (z : ℕ). z ∷ x) h ∙ ap (λ (zs : List ℕ). b ∷ zs) l.first; rest = l.rest })
    pick h (inr s) = inr (record { next = s.next; more = s.more; first = ap (λ (zs : List ℕ). b ∷ zs) s.first ∙ ap (λ (z : ℕ). z ∷ (x ++ (s.next ∷ s.more))) (sym h); rest = s.rest })

-- the last byte of a list is that of its end
pub last_part : (x : List ℕ) (k : ℕ) (z v : List ℕ) (c : ℕ) → x ++ (k ∷ z) ≡ v ++ c ∷ [] → (w : List ℕ) × (k ∷ z ≡ w ++ c ∷ [])
last_part [] k z v c e = (v, e)
last_part (a ∷ x) k z [] c e = absurd (none x (let t : x ++ (k ∷ z) ≡ [] = cc in t))
  where
    none : (y : List ℕ) → y ++ (k ∷ z) ≡ [] → ⊥
    none [] h = absurd (cc)
    none (b ∷ y) h = absurd (cc)
last_part (a ∷ x) k z (b ∷ v) c e = last_part x k z v c (let t : x ++ (k ∷ z) ≡ v ++ c ∷ [] = cc in t)

-- ---- the place of a byte

same_byte : (b : ℕ) → (b == b) ≡ true
same_byte b = grind arith

pub lacks_no : (byte : ℕ) (p z u : List ℕ) → lacks byte p ≡ true → p ≡ z ++ byte ∷ u → ⊥
lacks_no byte [] [] u h e = absurd (cc)
lacks_no byte [] (k ∷ z) u h e = absurd (cc)
lacks_no byte (a ∷ p) [] u h e =
    let same : a ≡ byte = cc in
    let is : not (a == byte) ≡ true = and_left (not (a == byte)) (lacks byte p) h in
    let no : not (byte == byte) ≡ true = subst (λ (z : ℕ). not (z == byte) ≡ true) same is in
    clash no (ap not (same_byte byte))
lacks_no byte (a ∷ p) (k ∷ z) u h e = let tail : p ≡ z ++ byte ∷ u = cc in lacks_no byte p z u (and_right (not (a == byte)) (lacks byte p) h) tail

-- up to and with the first such byte, nothing stands behind it
pub ends_there : (byte : ℕ) (q z behind : List ℕ) → lacks byte q ≡ true → q ++ byte ∷ [] ≡ (z ++ byte ∷ []) ++ behind → behind ≡ []
ends_there byte [] [] behind h e = let t : [] ≡ behind = cc in sym t
ends_there byte [] (k ∷ z) behind h e = absurd (none z (let t : [] ≡ (z ++ byte ∷ []) ++ behind = cc in t))
  where
    none : (y : List ℕ) → [] ≡ (y ++ byte ∷ []) ++ behind → ⊥
    none [] t = absurd (cc)
    none (b ∷ y) t = absurd (cc)
ends_there byte (a ∷ q) [] behind h e =
    let same : a ≡ byte = cc in
    let is : not (a == byte) ≡ true = and_left (not (a == byte)) (lacks byte q) h in
    let no : not (byte == byte) ≡ true = subst (λ (z : ℕ). not (z == byte) ≡ true) same is in
    clash no (ap not (same_byte byte))
ends_there byte (a ∷ q) (k ∷ z) behind h e =
    let tail : q ++ byte ∷ [] ≡ (z ++ byte ∷ []) ++ behind = cc in ends_there byte q z behind (and_right (not (a == byte)) (lacks byte q) h) tail

pub take_first : (slice : List ℕ) → 0 < length slice → take 1 slice ≡ get_or slice 0 0 ∷ []
take_first [] h = absurd (omega (arith, h))
take_first (b ∷ slice) h = refl

take_next : (xs : List ℕ) (k : ℕ) → k < length xs → take (suc k) xs ≡ take k xs ++ get_or xs k 0 ∷ []
take_next [] k h = absurd (omega (arith, h))
take_next (b ∷ xs) zero h = refl
take_next (b ∷ xs) (suc k) h = ap (λ (ys : List ℕ). b ∷ ys) (take_next xs k (omega (arith, h)))

pub lacks_before : (byte : ℕ) (xs : List ℕ) (k : ℕ) → ((j : ℕ) → j < k → (get_or xs j 0 == byte) ≡ true → ⊥) → lacks byte (take k xs) ≡ true
lacks_before byte xs zero h = refl
lacks_before byte [] (suc k) h = refl
lacks_before byte (b ∷ xs) (suc k) h = pick (b == byte) (h 0 (omega arith)) (lacks_before byte xs k (λ j low. h (suc j) (omega (arith, low))))
  where
    pick : (m : Bool) → (m ≡ true → ⊥) → lacks byte (take k xs) ≡ true → (not m && lacks byte (take k xs)) ≡ true
    pick true away more = absurd (away refl)
    pick false away more = more

is_same : (a b : ℕ) → (a == b) ≡ true → a ≡ b
is_same a b h = grind arith

pub up_to : (byte : ℕ) (xs : List ℕ) (at : ℕ) → at < length xs → ((j : ℕ) → j < at → (get_or xs j 0 == byte) ≡ true → ⊥) → (get_or xs at 0 == byte) ≡ true → IsUpTo byte (take (at + 1) xs) true
up_to byte xs at h before hit =
    let one : suc at ≡ at + 1 = omega arith in
    present (take at xs) (ap (λ (n : ℕ). take n xs) (sym one) ∙ take_next xs at h ∙ ap (λ (c : ℕ). take at xs ++ c ∷ []) (is_same (get_or xs at 0) byte hit)) (lacks_before byte xs at before)
