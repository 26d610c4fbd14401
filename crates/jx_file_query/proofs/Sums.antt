-- How one mark changes a sum, beside how it changes the count of what is skipped.
use Rattle.std.proofs.Common.{◌≡◌, ℕ, zero, suc, ◌+◌, ◌-◌, ◌≤◌, List, [], ◌∷◌, refl, sym, ◌∙◌, ap, subst, arith, Bool, true, false, cond}
use Rattle.std.specs.Prelude.{◌==◌}
use Rattle.std.proofs.lemmas.Bool.Decides.{nat_tests}
use Rattle.jx_lex.specs.declared.alphabet.mark.Mark.{Mark}
use Rattle.jx_lex.specs.declared.alphabet.mark.MarkKind.{MarkKind}
use Rattle.jx_lex.specs.declared.alphabet.mark.MarkKind.TheVariants as mark
use Rattle.jx_file_index.specs.declared.sum.Sum.{Sum}
use Rattle.jx_file_index.specs.Sums.{at_comma, closing, noted}
use Rattle.jx_file_index.proofs.Sums.{close_none, comma_none, on_from}
use Rattle.jx_index.specs.inside.Building.{is_token}
use Rattle.jx_index.specs.inside.Finding.{skip_over}

abbrev pub made : ℕ → ℕ → ℕ → Sum
made c o m = record { closed = c; opened = o; commas = m }

-- nothing stands open that was opened, or something
pub data Open (n : ℕ) : Type 0 where
  none : n ≡ 0 → Open n
  some : (o : ℕ) → n ≡ suc o → Open n

pub open_or : (n : ℕ) → Open n
open_or zero = none refl
open_or (suc o) = some o refl

pub close_some : (s : Sum) (o : ℕ) → s.opened ≡ suc o → closing s ≡ made s.closed o s.commas
close_some s o e =
    let b : (s.opened == 0) ≡ false = grind (arith, nat_tests) in
    let l : s.opened - 1 ≡ o = omega (arith, e) in
    ap (λ (x : Bool). cond x (made (suc s.closed) 0 0) (record s { opened = s.opened - 1 })) b ∙ ap (λ (n : ℕ). made s.closed n s.commas) l

pub comma_some : (s : Sum) (o : ℕ) → s.opened ≡ suc o → at_comma s ≡ s
comma_some s o e = let b : (s.opened == 0) ≡ false = grind (arith, nat_tests) in ap (λ (x : Bool). cond x (record s { commas = suc s.commas }) s) b

-- ---- what was closed stays so

grows_shut : (s : Sum) → s.closed ≤ (closing s).closed
grows_shut s = go (open_or s.opened)
  where
    go : Open s.opened → s.closed ≤ (closing s).closed
    go (none e) = subst (λ (x : Sum). s.closed ≤ x.closed) (sym (close_none s e)) (omega arith)
    go (some o e) = subst (λ (x : Sum). s.closed ≤ x.closed) (sym (close_some s o e)) (omega arith)

grows_comma : (s : Sum) → s.closed ≤ (at_comma s).closed
grows_comma s = go (open_or s.opened)
  where
    go : Open s.opened → s.closed ≤ (at_comma s).closed
    go (none e) = subst (λ (x : Sum). s.closed ≤ x.closed) (sym (comma_none s e)) (omega arith)
    go (some o e) = subst (λ (x : Sum). s.closed ≤ x.closed) (sym (comma_some s o e)) (omega arith)

pub grows : (k : MarkKind) (s : Sum) → s.closed ≤ (noted k s).closed
grows mark.OpenArray s = omega arith
grows mark.OpenObject s = omega arith
grows mark.CloseArray s = grows_shut s
grows mark.CloseObject s = grows_shut s
grows mark.Comma s = grows_comma s
grows mark.Colon s = omega arith
grows mark.String s = omega arith
grows mark.Number s = omega arith
grows mark.True s = omega arith
grows mark.False s = omega arith
grows mark.Null s = omega arith

pub all_grow : (ms : List Mark) (s : Sum) → s.closed ≤ (on_from s ms).closed
all_grow [] s = omega arith
all_grow (m ∷ ms) s = let a = grows m.kind s in let b = all_grow ms (noted m.kind s) in omega (arith, a, b)

-- ---- a token changes nothing

pub token_noted : (k : MarkKind) (s : Sum) → is_token k ≡ true → noted k s ≡ s
token_noted mark.OpenArray s h = absurd cc
token_noted mark.OpenObject s h = absurd cc
token_noted mark.CloseArray s h = absurd cc
token_noted mark.CloseObject s h = absurd cc
token_noted mark.Colon s h = absurd cc
token_noted mark.Comma s h = absurd cc
token_noted mark.String s h = refl
token_noted mark.Number s h = refl
token_noted mark.True s h = refl
token_noted mark.False s h = refl
token_noted mark.Null s h = refl

pub token_skips : (k : MarkKind) (j : ℕ) → is_token k ≡ true → skip_over k j ≡ suc j
token_skips mark.OpenArray j h = absurd cc
token_skips mark.OpenObject j h = absurd cc
token_skips mark.CloseArray j h = absurd cc
token_skips mark.CloseObject j h = absurd cc
token_skips mark.Colon j h = absurd cc
token_skips mark.Comma j h = absurd cc
token_skips mark.String j h = refl
token_skips mark.Number j h = refl
token_skips mark.True j h = refl
token_skips mark.False j h = refl
token_skips mark.Null j h = refl

-- ---- what is skipped, by the sum: as many are open as at the start, less those closed, and those that were opened

shut_rel : (n j : ℕ) (s : Sum) → suc j + s.closed ≡ n + s.opened → j + (closing s).closed ≡ n + (closing s).opened
shut_rel n j s e = go (open_or s.opened)
  where
    go : Open s.opened → j + (closing s).closed ≡ n + (closing s).opened
    go (none o) = subst (λ (x : Sum). j + x.closed ≡ n + x.opened) (sym (close_none s o)) (omega (arith, e, o))
    go (some i o) = subst (λ (x : Sum). j + x.closed ≡ n + x.opened) (sym (close_some s i o)) (omega (arith, e, o))

comma_rel : (n j : ℕ) (s : Sum) → suc j + s.closed ≡ n + s.opened → suc j + (at_comma s).closed ≡ n + (at_comma s).opened
comma_rel n j s e = go (open_or s.opened)
  where
    go : Open s.opened → suc j + (at_comma s).closed ≡ n + (at_comma s).opened
    go (none o) = subst (λ (x : Sum). suc j + x.closed ≡ n + x.opened) (sym (comma_none s o)) e
    go (some i o) = subst (λ (x : Sum). suc j + x.closed ≡ n + x.opened) (sym (comma_some s i o)) e

pub rel_step : (k : MarkKind) (n j : ℕ) (s : Sum) → suc j + s.closed ≡ n + s.opened → skip_over k j + (noted k s).closed ≡ n + (noted k s).opened
rel_step mark.OpenArray n j s e = omega (arith, e)
rel_step mark.OpenObject n j s e = omega (arith, e)
rel_step mark.CloseArray n j s e = shut_rel n j s e
rel_step mark.CloseObject n j s e = shut_rel n j s e
rel_step mark.Comma n j s e = comma_rel n j s e
rel_step mark.Colon n j s e = e
rel_step mark.String n j s e = e
rel_step mark.Number n j s e = e
rel_step mark.True n j s e = e
rel_step mark.False n j s e = e
rel_step mark.Null n j s e = e
