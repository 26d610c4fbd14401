-- The parts between the separators of one list of bytes and then another.
use Rattle.std.proofs.Common.{◌≡◌, ℕ, zero, suc, ◌+◌, ◌<◌, ◌≤◌, List, [], ◌∷◌, ◌++◌, length, take, get_or, Bool, true, false, cond, refl, sym, ap, ◌∙◌, arith}
use Rattle.jx_run.specs.Elements.{Part, part, is_separator, before_separator, after_separators, parts}
use Rattle.jx_ndjson.specs.Parts.{before_first, behind_each, parts_by}

-- a part, and more bytes behind it
abbrev pub longer : Part → List ℕ → Part
longer p more = part p.at (p.bytes ++ more)

further : (at : ℕ) (b : ℕ) (xs : List ℕ) → suc at + length xs ≡ at + length (b ∷ xs)
further at b xs = omega arith

module _ (separates : ℕ → Bool) where
  abbrev before : List ℕ → List ℕ
  before = before_first separates

  abbrev behind : ℕ → List ℕ → List Part
  behind = behind_each separates

  -- ---- no separator

  none-before : (xs : List ℕ) (at : ℕ) → behind at xs ≡ [] → before xs ≡ xs
  none-before [] at h = refl
  none-before (b ∷ xs) at h = pick (separates b) h (none-before xs (suc at))
    where
      pick : (m : Bool) → cond m (part (suc at) (before xs) ∷ behind (suc at) xs) (behind (suc at) xs) ≡ [] → (behind (suc at) xs ≡ [] → before xs ≡ xs) → cond m [] (b ∷ before xs) ≡ b ∷ xs
      pick true h more = absurd cc
      pick false h more = ap (λ t. b ∷ t) (more h)

  none-before-append : (xs ys : List ℕ) (at : ℕ) → behind at xs ≡ [] → before (xs ++ ys) ≡ xs ++ before ys
  none-before-append [] ys at h = refl
  none-before-append (b ∷ xs) ys at h = pick (separates b) h (none-before-append xs ys (suc at))
    where
      pick : (m : Bool) → cond m (part (suc at) (before xs) ∷ behind (suc at) xs) (behind (suc at) xs) ≡ [] → (behind (suc at) xs ≡ [] → before (xs ++ ys) ≡ xs ++ before ys)
          → cond m [] (b ∷ before (xs ++ ys)) ≡ b ∷ (xs ++ before ys)
      pick true h more = absurd cc
      pick false h more = ap (λ t. b ∷ t) (more h)

  none-behind-append : (xs ys : List ℕ) (at : ℕ) → behind at xs ≡ [] → behind at (xs ++ ys) ≡ behind (at + length xs) ys
  none-behind-append [] ys at h = let e : at ≡ at + 0 = omega arith in ap (λ n. behind n ys) e
  none-behind-append (b ∷ xs) ys at h = pick (separates b) h (none-behind-append xs ys (suc at)) ∙ ap (λ n. behind n ys) (further at b xs)
    where
      pick : (m : Bool) → cond m (part (suc at) (before xs) ∷ behind (suc at) xs) (behind (suc at) xs) ≡ [] → (behind (suc at) xs ≡ [] → behind (suc at) (xs ++ ys) ≡ behind (suc at + length xs) ys)
          → cond m (part (suc at) (before (xs ++ ys)) ∷ behind (suc at) (xs ++ ys)) (behind (suc at) (xs ++ ys)) ≡ behind (suc at + length xs) ys
      pick true h more = absurd cc
      pick false h more = more h

  -- bytes without a separator, as the first of them shows
  none-in-rest : (b : ℕ) (xs : List ℕ) → before (b ∷ xs) ≡ b ∷ xs → (separates b ≡ false) × (before xs ≡ xs)
  none-in-rest b xs h = pick (separates b) h
    where
      pick : (m : Bool) → cond m [] (b ∷ before xs) ≡ b ∷ xs → (m ≡ false) × (before xs ≡ xs)
      pick true h = absurd cc
      pick false h = (refl, cc)

  pub none-behind : (xs : List ℕ) (at : ℕ) → before xs ≡ xs → behind at xs ≡ []
  none-behind [] at h = refl
  none-behind (b ∷ xs) at h =
      let r = none-in-rest b xs h in
      ap (λ (m : Bool). cond m (part (suc at) (before xs) ∷ behind (suc at) xs) (behind (suc at) xs)) r.0 ∙ none-behind xs (suc at) r.1

  -- ---- a separator

  -- what stands before the first stays
  some-before-append : (xs ys : List ℕ) (at : ℕ) (p : Part) (ps : List Part) → behind at xs ≡ p ∷ ps → before (xs ++ ys) ≡ before xs
  some-before-append [] ys at p ps h = absurd cc
  some-before-append (b ∷ xs) ys at p ps h = pick (separates b) h (some-before-append xs ys (suc at) p ps)
    where
      pick : (m : Bool) → cond m (part (suc at) (before xs) ∷ behind (suc at) xs) (behind (suc at) xs) ≡ p ∷ ps → (behind (suc at) xs ≡ p ∷ ps → before (xs ++ ys) ≡ before xs)
          → cond m [] (b ∷ before (xs ++ ys)) ≡ cond m [] (b ∷ before xs)
      pick true h more = refl
      pick false h more = ap (λ t. b ∷ t) (more h)

  last-before-append : (xs ys : List ℕ) (at : ℕ) (ps : List Part) (p : Part) → behind at xs ≡ ps ++ p ∷ [] → before (xs ++ ys) ≡ before xs
  last-before-append xs ys at [] p h = some-before-append xs ys at p [] h
  last-before-append xs ys at (q ∷ ps) p h = some-before-append xs ys at q (ps ++ p ∷ []) h

  -- the last part goes on with what stands before the first separator of what follows
  only : (xs ys : List ℕ) (at : ℕ) (l : Part) → part at (before xs) ≡ l → behind at xs ≡ [] → parts_by separates at (xs ++ ys) ≡ longer l (before ys) ∷ behind (at + length xs) ys
  only xs ys at l e h =
      let here : part at (before (xs ++ ys)) ≡ part at (before xs ++ before ys) = ap (part at) (none-before-append xs ys at h ∙ ap (λ t. t ++ before ys) (sym (none-before xs at h))) in
      let goes : part at (before xs ++ before ys) ≡ longer l (before ys) = ap (λ p. longer p (before ys)) e in
      let rest : behind at (xs ++ ys) ≡ behind (at + length xs) ys = none-behind-append xs ys at h in
      cc

  first : (xs ys : List ℕ) (at : ℕ) (p : Part) (ps : List Part) (l : Part) → parts_by separates at xs ≡ p ∷ (ps ++ l ∷ []) → behind at (xs ++ ys) ≡ ps ++ longer l (before ys) ∷ behind (at + length xs) ys
      → parts_by separates at (xs ++ ys) ≡ p ∷ (ps ++ longer l (before ys) ∷ behind (at + length xs) ys)
  first xs ys at p ps l h more =
      let same : part at (before xs) ≡ p = cc in
      let rest : behind at xs ≡ ps ++ l ∷ [] = cc in
      let here : part at (before (xs ++ ys)) ≡ part at (before xs) = ap (part at) (last-before-append xs ys at ps l rest) in
      cc

  behind-append : (xs ys : List ℕ) (at : ℕ) (between : List Part) (last : Part) → behind at xs ≡ between ++ last ∷ [] → behind at (xs ++ ys) ≡ between ++ longer last (before ys) ∷ behind (at + length xs) ys
  behind-append [] ys at [] last h = absurd cc
  behind-append [] ys at (p ∷ ps) last h = absurd cc
  behind-append (b ∷ xs) ys at between last h =
      pick (separates b) between h (λ ps. behind-append xs ys (suc at) ps last) ∙ ap (λ n. between ++ longer last (before ys) ∷ behind n ys) (further at b xs)
    where
      pick : (m : Bool) (between : List Part) → cond m (part (suc at) (before xs) ∷ behind (suc at) xs) (behind (suc at) xs) ≡ between ++ last ∷ []
          → ((ps : List Part) → behind (suc at) xs ≡ ps ++ last ∷ [] → behind (suc at) (xs ++ ys) ≡ ps ++ longer last (before ys) ∷ behind (suc at + length xs) ys)
          → cond m (part (suc at) (before (xs ++ ys)) ∷ behind (suc at) (xs ++ ys)) (behind (suc at) (xs ++ ys)) ≡ between ++ longer last (before ys) ∷ behind (suc at + length xs) ys
      pick true [] h more = only xs ys (suc at) last (cc) (cc)
      pick true (p ∷ ps) h more = first xs ys (suc at) p ps last h (more ps (cc))
      pick false between h more = more between h

  pub parts-append : (xs ys : List ℕ) (at : ℕ) (between : List Part) (last : Part) → parts_by separates at xs ≡ between ++ last ∷ []
      → parts_by separates at (xs ++ ys) ≡ between ++ longer last (before ys) ∷ behind (at + length xs) ys
  parts-append xs ys at [] last h = only xs ys at last (cc) (cc)
  parts-append xs ys at (p ∷ ps) last h = first xs ys at p ps last h (behind-append xs ys at ps last (cc))

  -- ---- offsets

  behind-ends : (xs : List ℕ) (at : ℕ) (between : List Part) (last : Part) → behind at xs ≡ between ++ last ∷ [] → last.at + length last.bytes ≡ at + length xs
  behind-ends [] at [] last h = absurd cc
  behind-ends [] at (p ∷ ps) last h = absurd cc
  behind-ends (b ∷ xs) at between last h = pick (separates b) between h (λ ps. behind-ends xs (suc at) ps last) ∙ further at b xs
    where
      pick : (m : Bool) (between : List Part) → cond m (part (suc at) (before xs) ∷ behind (suc at) xs) (behind (suc at) xs) ≡ between ++ last ∷ []
          → ((ps : List Part) → behind (suc at) xs ≡ ps ++ last ∷ [] → last.at + length last.bytes ≡ suc at + length xs)
          → last.at + length last.bytes ≡ suc at + length xs
      pick true [] h more =
          let rest : behind (suc at) xs ≡ [] = cc in
          let same : part (suc at) (before xs) ≡ last = cc in
          sym (ap (λ (p : Part). p.at + length p.bytes) same) ∙ ap (λ t. suc at + length t) (none-before xs (suc at) rest)
      pick true (p ∷ ps) h more = more ps (cc)
      pick false between h more = more between h

  -- the last part ends where the bytes end
  pub last-ends : (xs : List ℕ) (at : ℕ) (between : List Part) (last : Part) → parts_by separates at xs ≡ between ++ last ∷ [] → last.at + length last.bytes ≡ at + length xs
  last-ends xs at [] last h =
      let same : part at (before xs) ≡ last = cc in
      let rest : behind at xs ≡ [] = cc in
      sym (ap (λ (p : Part). p.at + length p.bytes) same) ∙ ap (λ (t : List ℕ). at + length t) (none-before xs at rest)
  last-ends xs at (p ∷ ps) last h = behind-ends xs at ps last (cc)

  -- ---- the first separator

  pub none-found : (xs : List ℕ) → ((k : ℕ) → k < length xs → separates (get_or xs k 0) ≡ true → ⊥) → before xs ≡ xs
  none-found [] h = refl
  none-found (b ∷ xs) h = pick (separates b) (h 0 (omega arith)) (none-found xs (λ k low. h (suc k) (omega (arith, low))))
    where
      pick : (m : Bool) → (m ≡ true → ⊥) → before xs ≡ xs → cond m [] (b ∷ before xs) ≡ b ∷ xs
      pick true away more = absurd (away refl)
      pick false away more = ap (λ ys. b ∷ ys) more

  pub none-found-before : (xs : List ℕ) (k : ℕ) → k ≤ length xs → ((j : ℕ) → j < k → separates (get_or xs j 0) ≡ true → ⊥) → before (take k xs) ≡ take k xs
  none-found-before xs zero within h = refl
  none-found-before [] (suc k) within h = refl
  none-found-before (b ∷ xs) (suc k) within h = pick (separates b) (h 0 (omega arith)) (none-found-before xs k (omega (arith, within)) (λ j low. h (suc j) (omega (arith, low))))
    where
      pick : (m : Bool) → (m ≡ true → ⊥) → before (take k xs) ≡ take k xs → cond m [] (b ∷ before (take k xs)) ≡ b ∷ take k xs
      pick true away more = absurd (away refl)
      pick false away more = ap (λ ys. b ∷ ys) more

-- ---- text sequences

pub before-alike : (xs : List ℕ) → before_first is_separator xs ≡ before_separator xs
before-alike [] = refl
before-alike (b ∷ xs) = ap (λ (t : List ℕ). cond (is_separator b) [] (b ∷ t)) (before-alike xs)

behind-alike : (xs : List ℕ) (at : ℕ) → behind_each is_separator at xs ≡ after_separators at xs
behind-alike [] at = refl
behind-alike (b ∷ xs) at =
    ap (λ (t : List ℕ). cond (is_separator b) (part (suc at) t ∷ behind_each is_separator (suc at) xs) (behind_each is_separator (suc at) xs)) (before-alike xs)
    ∙ ap (λ (ps : List Part). cond (is_separator b) (part (suc at) (before_separator xs) ∷ ps) ps) (behind-alike xs (suc at))

pub parts-alike : (at : ℕ) (xs : List ℕ) → parts_by is_separator at xs ≡ parts at xs
parts-alike at xs = ap (λ (t : List ℕ). part at t ∷ behind_each is_separator at xs) (before-alike xs) ∙ ap (λ (ps : List Part). part at (before_separator xs) ∷ ps) (behind-alike xs at)

pub take-snoc : (xs : List ℕ) (n : ℕ) → n < length xs → take (suc n) xs ≡ take n xs ++ get_or xs n 0 ∷ []
take-snoc [] n h = absurd (omega (arith, h))
take-snoc (x ∷ xs) zero h = refl
take-snoc (x ∷ xs) (suc n) h = ap (λ ys. x ∷ ys) (take-snoc xs n (omega (arith, h)))
