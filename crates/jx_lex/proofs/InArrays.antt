-- Tokens of which none is a bracket of an object, where arrays are open around them.
use Rattle.std.proofs.Common.{◌≡◌, ◌⊎◌, inl, inr, ℕ, zero, suc, ◌+◌, ◌-◌, ◌<◌, ◌≤◌, List, [], ◌∷◌, ◌++◌, length, take, replicate, reverse, Bool, true, false, cond, refl, sym, ap, subst, ◌∙◌, append-nil, append_assoc, arith}
use Rattle.std.specs.List.{All}
use Rattle.std.proofs.lemmas.Bool.{cases_lt}
use Rattle.std.proofs.lemmas.List.{length-append, length-replicate, replicate-append-replicate, reverse-append, take-replicate, take_all}
use Rattle.std.proofs.Math.Seq.{take-append-add}
use Rattle.jx_lex.specs.declared.alphabet.mark.Mark.{Mark}
use Rattle.jx_lex.specs.declared.alphabet.mark.MarkKind.{MarkKind}
use Rattle.jx_lex.specs.declared.alphabet.mark.MarkKind.TheVariants as mark
use Rattle.jx_lex.specs.declared.scanner.counts.TokenCounts.{TokenCounts}
use Rattle.jx_lex.specs.Counts.{HasCounts, Levels, at_start, closes, is_brace, number_of, on_level, opens}
use Rattle.jx_lex.specs.Seen.{has_end}
use Rattle.jx_lex.proofs.Counts.{number_of-has_end, number_of-more}
use Rattle.jx_lex.proofs.Levels.{levels-go, levels_from, one_goes}

abbrev one_if : Bool → ℕ
one_if b = cond b 1 0

no_one : (b : Bool) → one_if b ≡ 0 → b ≡ false
no_one true none = absurd (omega (arith, none))
no_one false none = refl

-- ---- one token start

-- how many arrays are open after it, where n and one more are before it
abbrev pub after : MarkKind → ℕ → ℕ
after mark.OpenArray n = suc (suc n)
after mark.CloseArray n = n
after _ n = suc n

after_counts : (k : MarkKind) (n : ℕ) → is_brace k ≡ false → after k n + one_if (closes k) ≡ suc n + one_if (opens k)
after_counts mark.OpenArray n b = omega arith
after_counts mark.CloseArray n b = omega arith
after_counts mark.OpenObject n b = absurd cc
after_counts mark.CloseObject n b = absurd cc
after_counts mark.Colon n b = refl
after_counts mark.Comma n b = refl
after_counts mark.String n b = refl
after_counts mark.Number n b = refl
after_counts mark.True n b = refl
after_counts mark.False n b = refl
after_counts mark.Null n b = refl

-- one with an end is no bracket
after_whole : (k : MarkKind) (n : ℕ) → has_end k ≡ true → after k n ≡ suc n
after_whole mark.OpenArray n h = absurd cc
after_whole mark.CloseArray n h = absurd cc
after_whole mark.OpenObject n h = absurd cc
after_whole mark.CloseObject n h = absurd cc
after_whole mark.Colon n h = absurd cc
after_whole mark.Comma n h = absurd cc
after_whole mark.String n h = refl
after_whole mark.Number n h = refl
after_whole mark.True n h = refl
after_whole mark.False n h = refl
after_whole mark.Null n h = refl

-- ---- many token starts

-- tokens that have these counts close no more containers than they fall by and open
pub levels_fit : (counts : TokenCounts) (ms : List Mark) (es : List ℕ) → HasCounts ms es counts → counts.closing ≤ counts.lowest + counts.opening
levels_fit counts ms es h =
    let go = levels-go at_start ms in
    let moves = go.moves in
    let low = h.lowest in
    let o = h.opening in
    let c = h.closing in
    omega (arith, moves, low, o, c)

-- what has been seen with so many arrays open, and what a token start or a whole token makes of it
module _ (Has : ℕ → List Mark → List ℕ → Type 0)
    (plain : (n : ℕ) (m : Mark) (marks : List Mark) (ends : List ℕ) → is_brace m.kind ≡ false → has_end m.kind ≡ false → Has (suc n) marks ends → Has (after m.kind n) (marks ++ m ∷ []) ends)
    (whole : (n : ℕ) (m : Mark) (to : ℕ) (marks : List Mark) (ends : List ℕ) → has_end m.kind ≡ true → Has (suc n) marks ends → Has (suc n) (marks ++ m ∷ []) (ends ++ to ∷ [])) where
  one_more : (last n : ℕ) (m : Mark) → is_brace m.kind ≡ false → (t : Bool) → has_end m.kind ≡ t → (marks ms : List Mark) (ends es : List ℕ)
      → length es ≡ one_if (has_end m.kind) + number_of has_end ms → Has (suc n) marks ends
      → ((ends es : List ℕ) → length es ≡ number_of has_end ms → Has (after m.kind n) (marks ++ m ∷ []) ends → Has last ((marks ++ m ∷ []) ++ ms) (ends ++ es))
      → Has last (marks ++ m ∷ ms) (ends ++ es)
  one_more last n m b true h marks ms ends [] e s rest = let t : one_if (has_end m.kind) ≡ 1 = ap one_if h in absurd (omega (arith, e, t))
  one_more last n m b true h marks ms ends (x ∷ es) e s rest =
      let t : one_if (has_end m.kind) ≡ 1 = ap one_if h in
      subst (λ (xs : List Mark). Has last xs (ends ++ x ∷ es)) (append_assoc marks (m ∷ []) ms)
      (subst (Has last ((marks ++ m ∷ []) ++ ms)) (append_assoc ends (x ∷ []) es)
      (rest (ends ++ x ∷ []) es (omega (arith, e, t))
      (subst (λ (i : ℕ). Has i (marks ++ m ∷ []) (ends ++ x ∷ [])) (sym (after_whole m.kind n h)) (whole n m x marks ends h s))))
  one_more last n m b false h marks ms ends es e s rest =
      let t : one_if (has_end m.kind) ≡ 0 = ap one_if h in
      subst (λ (xs : List Mark). Has last xs (ends ++ es)) (append_assoc marks (m ∷ []) ms)
      (rest ends es (omega (arith, e, t)) (plain n m marks ends b h s))

  -- they stay in the arrays
  all_more : (count last n : ℕ) (l : Levels) (marks ms : List Mark) (ends es : List ℕ) → number_of is_brace ms ≡ 0 → n + l.lowest ≡ count + l.above
      → (levels_from l ms).lowest < count → last + (levels_from l ms).lowest ≡ count + (levels_from l ms).above → length es ≡ number_of has_end ms
      → Has n marks ends → Has last (marks ++ ms) (ends ++ es)
  all_more count last n l marks [] ends [] b is low end e s =
      let same : n ≡ last = omega (arith, is, end) in
      subst (λ (xs : List Mark). Has last xs (ends ++ [])) (sym (append-nil marks)) (subst (Has last marks) (sym (append-nil ends)) (subst (λ (i : ℕ). Has i marks ends) same s))
  all_more count last n l marks [] ends (x ∷ es) b is low end e s = absurd (omega (arith, e))
  all_more count last zero l marks (m ∷ ms) ends es b is low end e s =
      let go = levels-go l (m ∷ ms) in
      let falls = go.falls in
      absurd (omega (arith, is, low, falls))
  all_more count last (suc n) l marks (m ∷ ms) ends es b is low end e s =
      let more = number_of-more is_brace m ms in
      let here : is_brace m.kind ≡ false = no_one (is_brace m.kind) (omega (arith, more, b)) in
      let go = one_goes m.kind l in
      let moves = go.moves in
      let counted = after_counts m.kind n here in
      one_more last n m here (has_end m.kind) refl marks ms ends es (e ∙ number_of-more has_end m ms) s
      (λ ends es e s.
      all_more count last (after m.kind n) (on_level m.kind l) (marks ++ m ∷ []) ms ends es (omega (arith, more, b)) (omega (arith, is, moves, counted)) low end e s)

  -- tokens that have these counts
  pub counted_in_arrays : (counts : TokenCounts) (last : ℕ) (ms : List Mark) (es : List ℕ) → HasCounts ms es counts → counts.braces ≡ 0
      → last + counts.closing ≡ counts.lowest + 1 + counts.opening → Has (counts.lowest + 1) [] [] → Has last ms es
  counted_in_arrays counts last ms es h b end s =
      let go = levels-go at_start ms in
      let moves = go.moves in
      let low = h.lowest in
      let o = h.opening in
      let c = h.closing in
      let strings = h.strings in
      let scalars = h.scalars in
      let both = number_of-has_end ms in
      let ended = h.ended in
      all_more (counts.lowest + 1) last (counts.lowest + 1) at_start [] ms [] es (h.braces ∙ b) (omega arith) (omega (arith, low)) (omega (arith, moves, low, o, c, end))
      (omega (arith, strings, scalars, both, ended)) s

-- ---- ones that are repeated at a list's end

repeated_more : {A : Type 0} (a : A) (n : ℕ) → replicate n a ++ a ∷ [] ≡ a ∷ replicate n a
repeated_more a n = let e : n + 1 ≡ suc n = omega arith in replicate-append-replicate n 1 a ∙ ap (λ (i : ℕ). replicate i a) e

reverse_repeated : {A : Type 0} (a : A) (n : ℕ) → reverse (replicate n a) ≡ replicate n a
reverse_repeated a zero = refl
reverse_repeated {A} a (suc n) = reverse-append (a ∷ []) (replicate n a) ∙ ap (λ (xs : List A). xs ++ a ∷ []) (reverse_repeated a n) ∙ repeated_more a n

-- innermost first
pub reverse_end : {A : Type 0} (a : A) (xs : List A) (n : ℕ) → reverse (xs ++ replicate n a) ≡ replicate n a ++ reverse xs
reverse_end {A} a xs n = reverse-append xs (replicate n a) ∙ ap (λ (ys : List A). ys ++ reverse xs) (reverse_repeated a n)

-- fewer of them, or more
resized_all : {A : Type 0} (a : A) (n m : ℕ) → take m (replicate n a) ++ replicate (m - n) a ≡ replicate m a
resized_all {A} a n m = by_order (cases_lt m n)
  where
    by_order : (m < n) ⊎ (n ≤ m) → take m (replicate n a) ++ replicate (m - n) a ≡ replicate m a
    by_order (inl fewer) =
        let none : m - n ≡ 0 = omega (arith, fewer) in
        ap (λ (xs : List A). xs ++ replicate (m - n) a) (take-replicate m n a (omega (arith, fewer)))
        ∙ ap (λ (i : ℕ). replicate m a ++ replicate i a) none
        ∙ append-nil (replicate m a)
    by_order (inr more) =
        let long = length-replicate n a in
        let e : n + (m - n) ≡ m = omega (arith, more) in
        ap (λ (xs : List A). xs ++ replicate (m - n) a) (take_all m (replicate n a) (omega (arith, long, more)))
        ∙ replicate-append-replicate n (m - n) a
        ∙ ap (λ (i : ℕ). replicate i a) e

pub resized_end : {A : Type 0} (a : A) (xs : List A) (n m : ℕ) → take (length xs + m) (xs ++ replicate n a) ++ replicate (length xs + m - length (xs ++ replicate n a)) a ≡ xs ++ replicate m a
resized_end {A} a xs n m =
    let all = length-append xs (replicate n a) in
    let long = length-replicate n a in
    let e : length xs + m - length (xs ++ replicate n a) ≡ m - n = omega (arith, all, long) in
    ap (λ (i : ℕ). take (length xs + m) (xs ++ replicate n a) ++ replicate i a) e
    ∙ ap (λ (ys : List A). ys ++ replicate (m - n) a) (take-append-add xs (replicate n a) m)
    ∙ append_assoc xs (take m (replicate n a)) (replicate (m - n) a)
    ∙ ap (λ (ys : List A). xs ++ ys) (resized_all a n m)

-- ones that are all the same
pub all_repeated : {A : Type 0} (a : A) (xs : List A) → All (λ x. x ≡ a) xs → xs ≡ replicate (length xs) a
all_repeated a [] same = refl
all_repeated {A} a (x ∷ xs) same =
    ap (λ (y : A). y ∷ xs) (same 0 x (omega arith)) ∙ ap (λ (ys : List A). a ∷ ys) (all_repeated a xs (λ k d lt. same (suc k) d (omega (arith, lt))))
