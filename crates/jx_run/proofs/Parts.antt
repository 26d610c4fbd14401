-- The parts between the record separators of one list of bytes and then another.
use Rattle.std.proofs.Common.{◌≡◌, ℕ, suc, ◌+◌, List, [], ◌∷◌, ◌++◌, length, Bool, true, false, cond, refl, sym, ap, ◌∙◌, arith}
use Rattle.jx_run.specs.Elements.{Part, part, is_separator, before_separator, after_separators}

-- no separator: all stands before
pub unmarked-before : (xs : List ℕ) (at : ℕ) → after_separators at xs ≡ [] → before_separator xs ≡ xs
unmarked-before [] at h = refl
unmarked-before (b ∷ xs) at h = pick (is_separator b) h (unmarked-before xs (suc at))
  where
    pick : (m : Bool) → cond m (part (suc at) (before_separator xs) ∷ after_separators (suc at) xs) (after_separators (suc at) xs) ≡ []
        → (after_separators (suc at) xs ≡ [] → before_separator xs ≡ xs) → cond m [] (b ∷ before_separator xs) ≡ b ∷ xs
    pick true h more = absurd cc
    pick false h more = ap (λ t. b ∷ t) (more h)

pub unmarked-before-append : (xs ys : List ℕ) (at : ℕ) → after_separators at xs ≡ [] → before_separator (xs ++ ys) ≡ xs ++ before_separator ys
unmarked-before-append [] ys at h = refl
unmarked-before-append (b ∷ xs) ys at h = pick (is_separator b) h (unmarked-before-append xs ys (suc at))
  where
    pick : (m : Bool) → cond m (part (suc at) (before_separator xs) ∷ after_separators (suc at) xs) (after_separators (suc at) xs) ≡ []
        → (after_separators (suc at) xs ≡ [] → before_separator (xs ++ ys) ≡ xs ++ before_separator ys)
        → cond m [] (b ∷ before_separator (xs ++ ys)) ≡ b ∷ (xs ++ before_separator ys)
    pick true h more = absurd cc
    pick false h more = ap (λ t. b ∷ t) (more h)

further : (at : ℕ) (b : ℕ) (xs : List ℕ) → suc at + length xs ≡ at + length (b ∷ xs)
further at b xs = omega arith

pub unmarked-after-append : (xs ys : List ℕ) (at : ℕ) → after_separators at xs ≡ [] → after_separators at (xs ++ ys) ≡ after_separators (at + length xs) ys
unmarked-after-append [] ys at h = let e : at ≡ at + 0 = omega arith in ap (λ n. after_separators n ys) e
unmarked-after-append (b ∷ xs) ys at h =
    pick (is_separator b) h (unmarked-after-append xs ys (suc at)) ∙ ap (λ n. after_separators n ys) (further at b xs)
  where
    pick : (m : Bool) → cond m (part (suc at) (before_separator xs) ∷ after_separators (suc at) xs) (after_separators (suc at) xs) ≡ []
        → (after_separators (suc at) xs ≡ [] → after_separators (suc at) (xs ++ ys) ≡ after_separators (suc at + length xs) ys)
        → cond m (part (suc at) (before_separator (xs ++ ys)) ∷ after_separators (suc at) (xs ++ ys)) (after_separators (suc at) (xs ++ ys)) ≡ after_separators (suc at + length xs) ys
    pick true h more = absurd cc
    pick false h more = more h

-- a separator: what stands before the first stays
pub marked-before-append : (xs ys : List ℕ) (at : ℕ) (p : Part) (ps : List Part) → after_separators at xs ≡ p ∷ ps → before_separator (xs ++ ys) ≡ before_separator xs
marked-before-append [] ys at p ps h = absurd cc
marked-before-append (b ∷ xs) ys at p ps h = pick (is_separator b) h (marked-before-append xs ys (suc at) p ps)
  where
    pick : (m : Bool) → cond m (part (suc at) (before_separator xs) ∷ after_separators (suc at) xs) (after_separators (suc at) xs) ≡ p ∷ ps
        → (after_separators (suc at) xs ≡ p ∷ ps → before_separator (xs ++ ys) ≡ before_separator xs)
        → cond m [] (b ∷ before_separator (xs ++ ys)) ≡ cond m [] (b ∷ before_separator xs)
    pick true h more = refl
    pick false h more = ap (λ t. b ∷ t) (more h)

pub last-before-append : (xs ys : List ℕ) (at : ℕ) (ps : List Part) (p : Part) → after_separators at xs ≡ ps ++ p ∷ [] → before_separator (xs ++ ys) ≡ before_separator xs
last-before-append xs ys at [] p h = marked-before-append xs ys at p [] h
last-before-append xs ys at (q ∷ ps) p h = marked-before-append xs ys at q (ps ++ p ∷ []) h

-- a part, and more bytes behind it
abbrev pub longer : Part → List ℕ → Part
longer p more = part p.at (p.bytes ++ more)

only : (xs ys : List ℕ) (at : ℕ) (l : Part) → part at (before_separator xs) ≡ l → after_separators at xs ≡ []
    → part at (before_separator (xs ++ ys)) ∷ after_separators at (xs ++ ys) ≡ longer l (before_separator ys) ∷ after_separators (at + length xs) ys
only xs ys at l e h =
    let here : part at (before_separator (xs ++ ys)) ≡ part at (before_separator xs ++ before_separator ys) =
    ap (part at) (unmarked-before-append xs ys at h ∙ ap (λ t. t ++ before_separator ys) (sym (unmarked-before xs at h))) in
    let goes : part at (before_separator xs ++ before_separator ys) ≡ longer l (before_separator ys) = ap (λ p. longer p (before_separator ys)) e in
    let rest : after_separators at (xs ++ ys) ≡ after_separators (at + length xs) ys = unmarked-after-append xs ys at h in
    cc

first : (xs ys : List ℕ) (at : ℕ) (p : Part) (ps : List Part) (l : Part) → part at (before_separator xs) ∷ after_separators at xs ≡ p ∷ (ps ++ l ∷ [])
    → after_separators at (xs ++ ys) ≡ ps ++ longer l (before_separator ys) ∷ after_separators (at + length xs) ys
    → part at (before_separator (xs ++ ys)) ∷ after_separators at (xs ++ ys) ≡ p ∷ (ps ++ longer l (before_separator ys) ∷ after_separators (at + length xs) ys)
first xs ys at p ps l h more =
    let same : part at (before_separator xs) ≡ p = cc in
    let rest : after_separators at xs ≡ ps ++ l ∷ [] = cc in
    let here : part at (before_separator (xs ++ ys)) ≡ part at (before_separator xs) = ap (part at) (last-before-append xs ys at ps l rest) in
    cc

-- the last part of the left goes on with what stands before the first separator of the right
pub marked-after-append : (xs ys : List ℕ) (at : ℕ) (between : List Part) (last : Part) → after_separators at xs ≡ between ++ last ∷ []
    → after_separators at (xs ++ ys) ≡ between ++ longer last (before_separator ys) ∷ after_separators (at + length xs) ys
marked-after-append [] ys at [] last h = absurd cc
marked-after-append [] ys at (p ∷ ps) last h = absurd cc
marked-after-append (b ∷ xs) ys at between last h =
    pick (is_separator b) between h (λ ps. marked-after-append xs ys (suc at) ps last) ∙ ap (λ n. between ++ longer last (before_separator ys) ∷ after_separators n ys) (further at b xs)
  where
    pick : (m : Bool) (between : List Part) → cond m (part (suc at) (before_separator xs) ∷ after_separators (suc at) xs) (after_separators (suc at) xs) ≡ between ++ last ∷ []
        → ((ps : List Part) → after_separators (suc at) xs ≡ ps ++ last ∷ [] → after_separators (suc at) (xs ++ ys) ≡ ps ++ longer last (before_separator ys) ∷ after_separators (suc at + length xs) ys)
        → cond m (part (suc at) (before_separator (xs ++ ys)) ∷ after_separators (suc at) (xs ++ ys)) (after_separators (suc at) (xs ++ ys))
        ≡ between ++ longer last (before_separator ys) ∷ after_separators (suc at + length xs) ys
    pick true [] h more = only xs ys (suc at) last (cc) (cc)
    pick true (p ∷ ps) h more = first xs ys (suc at) p ps last h (more ps (cc))
    pick false between h more = more between h

-- so it is where all parts are looked at
pub parts-append : (xs ys : List ℕ) (at : ℕ) (between : List Part) (last : Part) → part at (before_separator xs) ∷ after_separators at xs ≡ between ++ last ∷ []
    → part at (before_separator (xs ++ ys)) ∷ after_separators at (xs ++ ys) ≡ between ++ longer last (before_separator ys) ∷ after_separators (at + length xs) ys
parts-append xs ys at [] last h = only xs ys at last (cc) (cc)
parts-append xs ys at (p ∷ ps) last h = first xs ys at p ps last h (marked-after-append xs ys at ps last (cc))

-- the last part ends where the bytes end
pub last-ends : (xs : List ℕ) (at : ℕ) (between : List Part) (last : Part) → after_separators at xs ≡ between ++ last ∷ [] → last.at + length last.bytes ≡ at + length xs
last-ends [] at [] last h = absurd cc
last-ends [] at (p ∷ ps) last h = absurd cc
last-ends (b ∷ xs) at between last h = pick (is_separator b) between h (λ ps. last-ends xs (suc at) ps last) ∙ further at b xs
  where
    pick : (m : Bool) (between : List Part) → cond m (part (suc at) (before_separator xs) ∷ after_separators (suc at) xs) (after_separators (suc at) xs) ≡ between ++ last ∷ []
        → ((ps : List Part) → after_separators (suc at) xs ≡ ps ++ last ∷ [] → last.at + length last.bytes ≡ suc at + length xs)
        → last.at + length last.bytes ≡ suc at + length xs
    pick true [] h more =
        let rest : after_separators (suc at) xs ≡ [] = cc in
        let same : part (suc at) (before_separator xs) ≡ last = cc in
        sym (ap (λ (p : Part). p.at + length p.bytes) same) ∙ ap (λ t. suc at + length t) (unmarked-before xs (suc at) rest)
    pick true (p ∷ ps) h more = more ps (cc)
    pick false between h more = more between h
