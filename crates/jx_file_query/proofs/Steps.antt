-- What one mark comes to for the parts of a container.
use Rattle.std.proofs.Common.{◌≡◌, ℕ, zero, suc, ◌≤◌, ◌<◌, List, [], ◌∷◌, ◌++◌, Bool, true, false, refl, sym, ap, ◌∙◌, arith}
use Rattle.std.specs.Prelude.{◌==◌, ◌&&◌, nat_lt, if◌then◌else◌}
use Rattle.std.specs.List.{AllByRecursion}
use Rattle.std.proofs.lemmas.Bool.Decides.{nat_tests}
use Rattle.std.proofs.lemmas.List.Sums.{fold-append}
use Rattle.jx_lex.specs.declared.alphabet.mark.Mark.{Mark}
use Rattle.jx_lex.specs.declared.alphabet.mark.MarkKind.{MarkKind}
use Rattle.jx_file_query.specs.declared.cutting.Aim.{Aim}
use Rattle.jx_file_query.specs.Cuts.{Cuts, at_depth, cut, cut_all, is_within}

module _ (aim : Aim) where
  pub all_append : (xs ys : List Mark) (c : Cuts) → cut_all aim (xs ++ ys) c ≡ cut_all aim ys (cut_all aim xs c)
  all_append xs ys c = fold-append (λ c mark. cut aim mark c) c xs ys

  decided : (m : Mark) (c : Cuts) (b : Bool) → is_within aim m.at c ≡ b → cut aim m c ≡ (if b then at_depth c.sum.opened aim m.kind m.at c else c)
  decided m c b e = ap (λ (x : Bool). if x then at_depth c.sum.opened aim m.kind m.at c else c) e

  -- ---- marks of no account

  pub outside : (m : Mark) (c : Cuts) → m.at ≤ aim.whole.start → cut aim m c ≡ c
  outside m c low =
      let e : nat_lt aim.whole.start m.at ≡ false = grind (arith, nat_tests) in
      decided m c false (ap (λ (x : Bool). x && (c.sum.closed == 0)) e)

  pub over : (m : Mark) (c : Cuts) → (c.sum.closed == 0) ≡ false → cut aim m c ≡ c
  over m c e = decided m c false (ap (λ (x : Bool). nat_lt aim.whole.start m.at && x) e ∙ none (nat_lt aim.whole.start m.at))
    where
      none : (b : Bool) → (b && false) ≡ false
      none true = refl
      none false = refl

  pub all_over : (ms : List Mark) (c : Cuts) → (c.sum.closed == 0) ≡ false → cut_all aim ms c ≡ c
  all_over [] c e = refl
  all_over (m ∷ ms) c e = ap (cut_all aim ms) (over m c e) ∙ all_over ms c e

  abbrev pub Front : Mark → Type 0
  Front m = m.at ≤ aim.whole.start

  pub all_outside : (ms : List Mark) (c : Cuts) → AllByRecursion Front ms → cut_all aim ms c ≡ c
  all_outside [] c h = refl
  all_outside (m ∷ ms) c h = ap (cut_all aim ms) (outside m c h.0) ∙ all_outside ms c h.1

  -- ---- marks of the container

  pub within : (m : Mark) (c : Cuts) → aim.whole.start < m.at → c.sum.closed ≡ 0 → cut aim m c ≡ at_depth c.sum.opened aim m.kind m.at c
  within m c far e =
      let a : nat_lt aim.whole.start m.at ≡ true = grind (arith, nat_tests) in
      let b : (c.sum.closed == 0) ≡ true = grind (arith, nat_tests) in
      decided m c true (ap (λ (x : Bool). x && (c.sum.closed == 0)) a ∙ b)
