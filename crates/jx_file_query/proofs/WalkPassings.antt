-- A part of a text that stands in a value which nobody wants.
use Rattle.std.proofs.Common.{◌≡◌, ℕ, suc, ◌+◌, ◌-◌, ◌<◌, List, ◌∷◌, ◌++◌, drop, refl, sym, ◌∙◌, ap, subst, arith, Bool, true, false, cond, Option}
use Rattle.jx_lex.specs.declared.alphabet.mark.Mark.{Mark}
use Rattle.jx_lex.specs.declared.alphabet.mark.MarkKind.{MarkKind}
use Rattle.jx_index.specs.declared.trie.Edge.{Edge}
use Rattle.jx_index.specs.inside.Building.{is_token, next_end, ends_after}
use Rattle.jx_index.specs.inside.Finding.{Finding, skip_over}
use Rattle.jx_index.specs.inside.InOrder.{behind}
use Rattle.jx_index.specs.inside.Trie.{seek_all, sought, sought_in}
use Rattle.jx_file_index.specs.declared.sum.Sum.{Sum}
use Rattle.jx_file_index.specs.Sums.{noted}
use Rattle.jx_file_index.proofs.Sums.{on_from}
use Rattle.jx_file_query.proofs.Paired.{Paired, none, plain, token, ended}
use Rattle.jx_file_query.specs.Passed.{Waits, waits_none, waits_some, some_token, waiting}
use Rattle.jx_file_query.proofs.Sums.{all_grow, grows, rel_step, token_noted, token_skips}

-- ---- one mark

pub seek_one : (text : List ℕ) (edges : List Edge) (last : ℕ) (m : Mark) (more : List Mark) (ends : List ℕ) (f : Finding)
    → seek_all text edges last (m ∷ more) ends f ≡ seek_all text edges last more (ends_after m.kind ends) (sought text edges m.kind m.at (next_end last ends) f)
unfolding seek_all
seek_one text edges last m more ends f = refl

pub plain_ends : (k : MarkKind) (ends : List ℕ) → is_token k ≡ false → ends_after k ends ≡ ends
plain_ends k ends h = ap (λ (b : Bool). cond b (drop 1 ends) ends) h

pub token_ends : (k : MarkKind) (ends : List ℕ) → is_token k ≡ true → ends_after k ends ≡ drop 1 ends
token_ends k ends h = ap (λ (b : Bool). cond b (drop 1 ends) ends) h

pub same_skipped : (f : Finding) (i : ℕ) → f.skipped ≡ i → f ≡ record f { skipped = i }
same_skipped f i e = ap (λ (n : ℕ). record f { skipped = n }) e

pub over : (text : List ℕ) (edges : List Edge) (k : MarkKind) (at end j : ℕ) (f : Finding) → f.skipped ≡ suc j → sought text edges k at end f ≡ record f { skipped = skip_over k j }
over text edges k at end j f e = ap (λ (i : ℕ). sought_in i text edges k at end f) e

pub over_token : (text : List ℕ) (edges : List Edge) (k : MarkKind) (at end j : ℕ) (f : Finding) → f.skipped ≡ suc j → is_token k ≡ true → sought text edges k at end f ≡ f
over_token text edges k at end j f e h =
    over text edges k at end j f e ∙ ap (λ (i : ℕ). record f { skipped = i }) (token_skips k j h) ∙ sym (same_skipped f (suc j) e)

module _ (text : List ℕ) (edges : List Edge) (last : ℕ) where
  pub plain_over : (m : Mark) (more : List Mark) (ends : List ℕ) (j : ℕ) (f : Finding) → f.skipped ≡ suc j → is_token m.kind ≡ false
      → seek_all text edges last (m ∷ more) ends f ≡ seek_all text edges last more ends (record f { skipped = skip_over m.kind j })
  plain_over m more ends j f e h =
      seek_one text edges last m more ends f
      ∙ ap (λ (es : List ℕ). seek_all text edges last more es (sought text edges m.kind m.at (next_end last ends) f)) (plain_ends m.kind ends h)
      ∙ ap (seek_all text edges last more ends) (over text edges m.kind m.at (next_end last ends) j f e)

  pub token_over : (m : Mark) (more : List Mark) (ends : List ℕ) (j : ℕ) (f : Finding) → f.skipped ≡ suc j → is_token m.kind ≡ true
      → seek_all text edges last (m ∷ more) ends f ≡ seek_all text edges last more (drop 1 ends) f
  token_over m more ends j f e h =
      seek_one text edges last m more ends f
      ∙ ap (λ (es : List ℕ). seek_all text edges last more es (sought text edges m.kind m.at (next_end last ends) f)) (token_ends m.kind ends h)
      ∙ ap (seek_all text edges last more (drop 1 ends)) (over_token text edges m.kind m.at (next_end last ends) j f e h)

  -- ---- all marks of a part, while more is skipped than it closes

  pub inside_passed : (n : ℕ) {b c : Bool} {ms : List Mark} {es : List ℕ} → Paired b ms es c → {begun : Option Mark} → Waits b begun → (s : Sum) (f : Finding)
      → f.skipped + s.closed ≡ n + s.opened → (on_from s ms).closed < n → (more : List Mark) (others : List ℕ)
      → seek_all text edges last (behind begun (ms ++ more)) (es ++ others) f
      ≡ seek_all text edges last (behind (waiting c) more) others (record f { skipped = (n + (on_from s ms).opened) - (on_from s ms).closed })
  inside_passed n none waits_none s f rel low more others =
      let most : s.closed < n = low in
      ap (seek_all text edges last more others) (same_skipped f ((n + s.opened) - s.closed) (omega (arith, rel, most)))
  inside_passed n none (waits_some m is) s f rel low more others =
      let most : s.closed < n = low in
      let j = f.skipped - 1 in
      let e : f.skipped ≡ suc j = omega (arith, rel, most) in
      token_over m more others j f e is
      ∙ sym (token_over some_token more others j f e refl)
      ∙ ap (seek_all text edges last (some_token ∷ more) others) (same_skipped f ((n + s.opened) - s.closed) (omega (arith, rel, most)))
  inside_passed n (plain {m = m} {ms = ms} {es = es} is rest) waits_none s f rel low more others =
      let j = f.skipped - 1 in
      let up = all_grow ms (noted m.kind s) in
      let most : (on_from (noted m.kind s) ms).closed < n = low in
      let here = grows m.kind s in
      let e : f.skipped ≡ suc j = omega (arith, rel, most, up, here) in
      let relates : suc j + s.closed ≡ n + s.opened = omega (arith, rel, e) in
      plain_over m (ms ++ more) (es ++ others) j f e is
      ∙ inside_passed n rest waits_none (noted m.kind s) (record f { skipped = skip_over m.kind j }) (rel_step m.kind n j s relates) low more others
  inside_passed n (token {m = m} {ms = ms} is rest) waits_none s f rel low more others =
      let same : noted m.kind s ≡ s = token_noted m.kind s is in
      inside_passed n rest (waits_some m is) (noted m.kind s) f (subst (λ (x : Sum). f.skipped + x.closed ≡ n + x.opened) (sym same) rel) low more others
  inside_passed n (ended {e = end} {ms = ms} {es = es} rest) (waits_some m is) s f rel low more others =
      let j = f.skipped - 1 in
      let up = all_grow ms s in
      let e : f.skipped ≡ suc j = omega (arith, rel, low, up) in
      token_over m (ms ++ more) (end ∷ (es ++ others)) j f e is
      ∙ inside_passed n rest waits_none s f rel low more others
