-- Sums of marks that stand one behind another.
use Rattle.std.proofs.Common.{◌≡◌, ℕ, suc, ◌+◌, ◌-◌, List, [], ◌∷◌, ◌++◌, refl, sym, ◌∙◌, ap, arith, Bool, true, false, cond}
use Rattle.std.specs.Prelude.{◌==◌, nat_lt, fold}
use Rattle.std.proofs.lemmas.Bool.Decides.{nat_tests}
use Rattle.std.proofs.lemmas.List.Sums.{fold-append}
use Rattle.jx_lex.specs.declared.alphabet.mark.Mark.{Mark}
use Rattle.jx_lex.specs.declared.alphabet.mark.MarkKind.{MarkKind}
use Rattle.jx_lex.specs.declared.alphabet.mark.MarkKind.TheVariants as kind
use Rattle.jx_file_index.specs.declared.sum.Sum.{Sum}
use Rattle.jx_file_index.specs.Sums.{at_comma, closing, joined, noted, nothing, opening, sum_of}

abbrev made : ℕ → ℕ → ℕ → Sum
made c o m = record { closed = c; opened = o; commas = m }

same : (c d o p m n : ℕ) → c ≡ d → o ≡ p → m ≡ n → made c o m ≡ made d p n
same c d o p m n e f g = cc

-- the right one closes fewer than the left one opened, as many, or more
data Case (l r : Sum) : Type 0 where
  fewer : nat_lt r.closed l.opened ≡ true → joined l r ≡ made l.closed ((l.opened - r.closed) + r.opened) l.commas → Case l r
  equal : r.closed ≡ l.opened → joined l r ≡ made l.closed r.opened (l.commas + r.commas) → Case l r
  more : nat_lt l.opened r.closed ≡ true → joined l r ≡ made (l.closed + (r.closed - l.opened)) r.opened r.commas → Case l r

cases : (l r : Sum) → Case l r
cases l r = pick (nat_lt r.closed l.opened) (r.closed == l.opened) refl refl
  where
    pick : (x y : Bool) → nat_lt r.closed l.opened ≡ x → (r.closed == l.opened) ≡ y → Case l r
    pick true y e f = fewer e (ap (λ (b : Bool). cond b (made l.closed ((l.opened - r.closed) + r.opened) l.commas) (made (l.closed + (r.closed - l.opened)) r.opened (cond (r.closed == l.opened) (l.commas + r.commas) r.commas))) e)
    pick false true e f =
        let is : r.closed ≡ l.opened = grind (arith, nat_tests) in
        equal is
        (ap (λ (b : Bool). cond b (made l.closed ((l.opened - r.closed) + r.opened) l.commas) (made (l.closed + (r.closed - l.opened)) r.opened (cond (r.closed == l.opened) (l.commas + r.commas) r.commas))) e
        ∙ ap (λ (b : Bool). made (l.closed + (r.closed - l.opened)) r.opened (cond b (l.commas + r.commas) r.commas)) f
        ∙ same _ _ _ _ _ _ (omega (arith, is)) refl refl)
    pick false false e f =
        let is : nat_lt l.opened r.closed ≡ true = grind (arith, nat_tests) in
        more is
        (ap (λ (b : Bool). cond b (made l.closed ((l.opened - r.closed) + r.opened) l.commas) (made (l.closed + (r.closed - l.opened)) r.opened (cond (r.closed == l.opened) (l.commas + r.commas) r.commas))) e
        ∙ ap (λ (b : Bool). made (l.closed + (r.closed - l.opened)) r.opened (cond b (l.commas + r.commas) r.commas)) f)

-- a join by which of the three it is
module _ (l r : Sum) where
  by_fewer : nat_lt r.closed l.opened ≡ true → joined l r ≡ made l.closed ((l.opened - r.closed) + r.opened) l.commas
  by_fewer e = go (cases l r)
    where
      go : Case l r → joined l r ≡ made l.closed ((l.opened - r.closed) + r.opened) l.commas
      go (fewer f is) = is
      go (equal f is) = absurd (grind (arith, nat_tests))
      go (more f is) = absurd (grind (arith, nat_tests))

  by_equal : r.closed ≡ l.opened → joined l r ≡ made l.closed r.opened (l.commas + r.commas)
  by_equal e = go (cases l r)
    where
      go : Case l r → joined l r ≡ made l.closed r.opened (l.commas + r.commas)
      go (fewer f is) = absurd (grind (arith, nat_tests))
      go (equal f is) = is
      go (more f is) = absurd (grind (arith, nat_tests))

  by_more : nat_lt l.opened r.closed ≡ true → joined l r ≡ made (l.closed + (r.closed - l.opened)) r.opened r.commas
  by_more e = go (cases l r)
    where
      go : Case l r → joined l r ≡ made (l.closed + (r.closed - l.opened)) r.opened r.commas
      go (fewer f is) = absurd (grind (arith, nat_tests))
      go (equal f is) = absurd (grind (arith, nat_tests))
      go (more f is) = is

-- what one mark does, where something is open that was opened, and where nothing is
pub close_none : (s : Sum) → s.opened ≡ 0 → closing s ≡ made (suc s.closed) 0 0
close_none s e = let b : (s.opened == 0) ≡ true = grind (arith, nat_tests) in ap (λ (x : Bool). cond x (made (suc s.closed) 0 0) (record s { opened = s.opened - 1 })) b

close_some : (s : Sum) → nat_lt 0 s.opened ≡ true → closing s ≡ made s.closed (s.opened - 1) s.commas
close_some s e = let b : (s.opened == 0) ≡ false = grind (arith, nat_tests) in ap (λ (x : Bool). cond x (made (suc s.closed) 0 0) (record s { opened = s.opened - 1 })) b

pub comma_none : (s : Sum) → s.opened ≡ 0 → at_comma s ≡ made s.closed s.opened (suc s.commas)
comma_none s e = let b : (s.opened == 0) ≡ true = grind (arith, nat_tests) in ap (λ (x : Bool). cond x (record s { commas = suc s.commas }) s) b

comma_some : (s : Sum) → nat_lt 0 s.opened ≡ true → at_comma s ≡ s
comma_some s e = let b : (s.opened == 0) ≡ false = grind (arith, nat_tests) in ap (λ (x : Bool). cond x (record s { commas = suc s.commas }) s) b

-- nothing is open, or something
data Open (n : ℕ) : Type 0 where
  none : n ≡ 0 → Open n
  some : nat_lt 0 n ≡ true → Open n

open_or : (n : ℕ) → Open n
open_or n = pick (nat_lt 0 n) refl
  where
    pick : (x : Bool) → nat_lt 0 n ≡ x → Open n
    pick true e = some e
    pick false e = none (grind (arith, nat_tests))

-- a mark behind both is one behind the right one
open_behind : (l r : Sum) → joined l (opening r) ≡ opening (joined l r)
open_behind l r = go (cases l r)
  where
    go : Case l r → joined l (opening r) ≡ opening (joined l r)
    go (fewer f is) = by_fewer l (opening r) f ∙ same _ _ _ _ _ _ refl (omega arith) refl ∙ ap opening (sym is)
    go (equal f is) = by_equal l (opening r) f ∙ ap opening (sym is)
    go (more f is) = by_more l (opening r) f ∙ ap opening (sym is)

comma_behind : (l r : Sum) → joined l (at_comma r) ≡ at_comma (joined l r)
comma_behind l r = go (open_or r.opened) (cases l r)
  where
    go : Open r.opened → Case l r → joined l (at_comma r) ≡ at_comma (joined l r)
    go (some o) (fewer f is) = ap (joined l) (comma_some r o) ∙ is ∙ sym (comma_some _ (grind (arith, nat_tests))) ∙ ap at_comma (sym is)
    go (some o) (equal f is) = ap (joined l) (comma_some r o) ∙ is ∙ sym (comma_some _ o) ∙ ap at_comma (sym is)
    go (some o) (more f is) = ap (joined l) (comma_some r o) ∙ is ∙ sym (comma_some _ o) ∙ ap at_comma (sym is)
    go (none o) (fewer f is) =
        ap (joined l) (comma_none r o) ∙ by_fewer l (made r.closed r.opened (suc r.commas)) f
        ∙ sym (comma_some (made l.closed ((l.opened - r.closed) + r.opened) l.commas) (grind (arith, nat_tests))) ∙ ap at_comma (sym is)
    go (none o) (equal f is) =
        ap (joined l) (comma_none r o) ∙ by_equal l (made r.closed r.opened (suc r.commas)) f ∙ same _ _ _ _ _ _ refl refl (omega arith)
        ∙ sym (comma_none (made l.closed r.opened (l.commas + r.commas)) o) ∙ ap at_comma (sym is)
    go (none o) (more f is) =
        ap (joined l) (comma_none r o) ∙ by_more l (made r.closed r.opened (suc r.commas)) f
        ∙ sym (comma_none (made (l.closed + (r.closed - l.opened)) r.opened r.commas) o) ∙ ap at_comma (sym is)

close_behind : (l r : Sum) → joined l (closing r) ≡ closing (joined l r)
close_behind l r = go (open_or r.opened) (cases l r)
  where
    -- one container less was opened and stands open still, or was opened on the left
    last : nat_lt r.closed l.opened ≡ true → r.opened ≡ 0 → (x : Bool) → nat_lt (suc r.closed) l.opened ≡ x → joined l (made (suc r.closed) 0 0) ≡ made l.closed ((l.opened - suc r.closed) + 0) l.commas
    last f o true e = by_fewer l (made (suc r.closed) 0 0) e
    last f o false e =
        let is : suc r.closed ≡ l.opened = grind (arith, nat_tests) in
        by_equal l (made (suc r.closed) 0 0) is ∙ same _ _ _ _ _ _ refl (omega (arith, is)) (omega arith)

    go : Open r.opened → Case l r → joined l (closing r) ≡ closing (joined l r)
    go (some o) (fewer f is) =
        let less : ((l.opened - r.closed) + (r.opened - 1)) ≡ ((l.opened - r.closed) + r.opened) - 1 = grind (arith, nat_tests) in
        ap (joined l) (close_some r o) ∙ by_fewer l (made r.closed (r.opened - 1) r.commas) f ∙ same _ _ _ _ _ _ refl less refl
        ∙ sym (close_some (made l.closed ((l.opened - r.closed) + r.opened) l.commas) (grind (arith, nat_tests))) ∙ ap closing (sym is)
    go (some o) (equal f is) = ap (joined l) (close_some r o) ∙ by_equal l (made r.closed (r.opened - 1) r.commas) f ∙ sym (close_some (made l.closed r.opened (l.commas + r.commas)) o) ∙ ap closing (sym is)
    go (some o) (more f is) = ap (joined l) (close_some r o) ∙ by_more l (made r.closed (r.opened - 1) r.commas) f ∙ sym (close_some (made (l.closed + (r.closed - l.opened)) r.opened r.commas) o) ∙ ap closing (sym is)
    go (none o) (fewer f is) =
        let less : (l.opened - suc r.closed) + 0 ≡ ((l.opened - r.closed) + r.opened) - 1 = grind (arith, nat_tests) in
        ap (joined l) (close_none r o) ∙ last f o (nat_lt (suc r.closed) l.opened) refl ∙ same _ _ _ _ _ _ refl less refl
        ∙ sym (close_some (made l.closed ((l.opened - r.closed) + r.opened) l.commas) (grind (arith, nat_tests))) ∙ ap closing (sym is)
    go (none o) (equal f is) =
        let past : nat_lt l.opened (suc r.closed) ≡ true = grind (arith, nat_tests) in
        ap (joined l) (close_none r o) ∙ by_more l (made (suc r.closed) 0 0) past ∙ same _ _ _ _ _ _ (omega (arith, f)) refl refl
        ∙ sym (close_none (made l.closed r.opened (l.commas + r.commas)) o) ∙ ap closing (sym is)
    go (none o) (more f is) =
        let past : nat_lt l.opened (suc r.closed) ≡ true = grind (arith, nat_tests) in
        let far : l.closed + (suc r.closed - l.opened) ≡ suc (l.closed + (r.closed - l.opened)) = grind (arith, nat_tests) in
        ap (joined l) (close_none r o) ∙ by_more l (made (suc r.closed) 0 0) past ∙ same _ _ _ _ _ _ far refl refl
        ∙ sym (close_none (made (l.closed + (r.closed - l.opened)) r.opened r.commas) o) ∙ ap closing (sym is)

noted_behind : (k : MarkKind) (l r : Sum) → joined l (noted k r) ≡ noted k (joined l r)
noted_behind kind.OpenArray l r = open_behind l r
noted_behind kind.OpenObject l r = open_behind l r
noted_behind kind.CloseArray l r = close_behind l r
noted_behind kind.CloseObject l r = close_behind l r
noted_behind kind.Comma l r = comma_behind l r
noted_behind kind.Colon l r = refl
noted_behind kind.String l r = refl
noted_behind kind.Number l r = refl
noted_behind kind.True l r = refl
noted_behind kind.False l r = refl
noted_behind kind.Null l r = refl

abbrev pub on_from : Sum → List Mark → Sum
on_from s marks = fold (λ s mark. noted mark.kind s) s marks

all_behind : (l r : Sum) (ys : List Mark) → joined l (on_from r ys) ≡ on_from (joined l r) ys
all_behind l r [] = refl
all_behind l r (y ∷ ys) = all_behind l (noted y.kind r) ys ∙ ap (λ (s : Sum). on_from s ys) (noted_behind y.kind l r)

-- no mark changes nothing
nothing_behind : (l : Sum) → joined l nothing ≡ l
nothing_behind l = go (cases l nothing)
  where
    go : Case l nothing → joined l nothing ≡ l
    go (fewer f is) = is ∙ same _ _ _ _ _ _ refl (omega arith) refl
    go (equal f is) = is ∙ same _ _ _ _ _ _ refl f (omega arith)
    go (more f is) = absurd (grind (arith, nat_tests))

-- a sum joined behind another is that of its marks from there on
pub joins : (l : Sum) (ys : List Mark) → joined l (sum_of ys) ≡ on_from l ys
joins l ys = all_behind l nothing ys ∙ ap (λ (s : Sum). on_from s ys) (nothing_behind l)

pub sums_join : (xs ys : List Mark) → sum_of (xs ++ ys) ≡ joined (sum_of xs) (sum_of ys)
sums_join xs ys =
    fold-append (λ s mark. noted mark.kind s) nothing xs ys
    ∙ sym (joins (sum_of xs) ys)
