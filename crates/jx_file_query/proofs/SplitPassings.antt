-- A chunk in which no part begins or ends changes the sum alone.
use Rattle.std.proofs.Common.{◌≡◌, ℕ, zero, suc, ◌+◌, ◌-◌, ◌<◌, ◌≤◌, List, [], ◌∷◌, ◌++◌, refl, sym, ap, subst, ◌∙◌, arith, Bool, true, false}
use Rattle.std.specs.Prelude.{◌==◌, if◌then◌else◌, fold, nat_lt, Option, None, Some, IfSome, SomeIff}
use Rattle.std.specs.List.{AllByRecursion}
use Rattle.std.proofs.lemmas.Bool.Decides.{nat_tests}
use Rattle.std.proofs.lemmas.List.Sums.{fold-append}
use Rattle.jx_lex.specs.declared.alphabet.mark.Mark.{Mark}
use Rattle.jx_lex.specs.declared.alphabet.mark.MarkKind.{MarkKind}
use Rattle.jx_lex.specs.declared.alphabet.mark.MarkKind.TheVariants as mark
use Rattle.jx_summary.specs.declared.span.Span.{Span}
use Rattle.jx_index.specs.inside.Finding.{skip_over}
use Rattle.jx_file_index.specs.declared.sum.Sum.{Sum}
use Rattle.jx_file_index.specs.Sums.{Fits, joined, noted, nothing, sum_of}
use Rattle.jx_file_index.proofs.Sums.{sums_join, close_none, on_from}
use Rattle.jx_file_query.proofs.Sums.{all_grow, close_some, comma_some, grows, made, rel_step}
use Rattle.jx_file_query.specs.declared.cutting.Aim.{Aim}
use Rattle.jx_file_query.specs.Cuts.{Cuts, at_depth, at_level, cut_all, with_mark}
use Rattle.jx_file_query.specs.Parts.{part_of}
use Rattle.jx_file_query.specs.inside.PassedChunks.{AllInPart, IsMarkIn, IsPassed}
use Rattle.jx_file_query.proofs.Steps.{within}

-- ---- sums

commas : ℕ → List Mark
commas zero = []
commas (suc m) = record { kind = mark.Comma; at = 0 } ∷ commas m

opens : ℕ → List Mark
opens zero = []
opens (suc o) = record { kind = mark.OpenArray; at = 0 } ∷ opens o

commas_sum : (m n : ℕ) → on_from (made 0 0 n) (commas m) ≡ made 0 0 (n + m)
unfolding commas
commas_sum zero n = let e : n ≡ n + 0 = omega arith in ap (made 0 0) e
commas_sum (suc m) n = commas_sum m (suc n) ∙ (let e : suc n + m ≡ n + suc m = omega arith in ap (made 0 0) e)

opens_sum : (o m n : ℕ) → on_from (made 0 n m) (opens o) ≡ made 0 (n + o) m
unfolding opens
opens_sum zero m n = let e : n ≡ n + 0 = omega arith in ap (λ (k : ℕ). made 0 k m) e
opens_sum (suc o) m n = opens_sum o m (suc n) ∙ (let e : suc n + o ≡ n + suc o = omega arith in ap (λ (k : ℕ). made 0 k m) e)

-- each sum that closes nothing is one of some marks
some_marks : ℕ → ℕ → List Mark
some_marks o m = commas m ++ opens o

their_sum : (o m : ℕ) → sum_of (some_marks o m) ≡ made 0 o m
unfolding some_marks
their_sum o m =
    fold-append (λ s mark. noted mark.kind s) nothing (commas m) (opens o)
    ∙ ap (λ (s : Sum). on_from s (opens o)) (commas_sum m 0 ∙ (let e : 0 + m ≡ m = omega arith in ap (made 0 0) e))
    ∙ opens_sum o m 0 ∙ (let e : 0 + o ≡ o = omega arith in ap (λ (k : ℕ). made 0 k m) e)

-- marks behind such a sum
pub behind_sum : (o m : ℕ) (ms : List Mark) → on_from (made 0 o m) ms ≡ joined (made 0 o m) (sum_of ms)
behind_sum o m ms =
    ap (λ (s : Sum). on_from s ms) (sym (their_sum o m))
    ∙ sym (fold-append (λ s mark. noted mark.kind s) nothing (some_marks o m) ms)
    ∙ sums_join (some_marks o m) ms
    ∙ ap (λ (s : Sum). joined s (sum_of ms)) (their_sum o m)

-- ---- one mark

record Keeps (k : MarkKind) (x : Sum) (j : ℕ) : Type 0 where
  opened : (noted k x).opened ≡ skip_over k j
  closed : (noted k x).closed ≡ x.closed

-- where a container is open
deep_step : (k : MarkKind) (x : Sum) (j : ℕ) → x.opened ≡ suc j → Keeps k x j
deep_step mark.OpenArray x j e = record { opened = ap suc e; closed = refl }
deep_step mark.OpenObject x j e = record { opened = ap suc e; closed = refl }
deep_step mark.CloseArray x j e = record { opened = ap (λ (s : Sum). s.opened) (close_some x j e); closed = ap (λ (s : Sum). s.closed) (close_some x j e) }
deep_step mark.CloseObject x j e = record { opened = ap (λ (s : Sum). s.opened) (close_some x j e); closed = ap (λ (s : Sum). s.closed) (close_some x j e) }
deep_step mark.Comma x j e = record { opened = ap (λ (s : Sum). s.opened) (comma_some x j e) ∙ e; closed = ap (λ (s : Sum). s.closed) (comma_some x j e) }
deep_step mark.Colon x j e = record { opened = e; closed = refl }
deep_step mark.String x j e = record { opened = e; closed = refl }
deep_step mark.Number x j e = record { opened = e; closed = refl }
deep_step mark.True x j e = record { opened = e; closed = refl }
deep_step mark.False x j e = record { opened = e; closed = refl }
deep_step mark.Null x j e = record { opened = e; closed = refl }

module _ (aim : Aim) where
  abbrev to_sum : Cuts → Sum → Cuts
  to_sum c s = record c { sum = s }

  marked : (k : MarkKind) (c : Cuts) → c.some ≡ true → with_mark k c ≡ to_sum c (noted k c.sum)
  marked k c e = ap (λ (b : Bool). record { sum = noted k c.sum; some = b; ended = c.ended; number = c.number; start = c.start; first = c.first }) (sym e)

  shut : (c : Cuts) → c.sum.opened ≡ 0 → (noted mark.CloseArray c.sum).closed ≡ 0 → ⊥
  shut c o e = let x : (noted mark.CloseArray c.sum).closed ≡ suc c.sum.closed = ap (λ (s : Sum). s.closed) (close_none c.sum o) in omega (arith, x, e)

  level_step : (k : MarkKind) (at : ℕ) (c : Cuts) → c.some ≡ true → c.sum.opened ≡ 0 → part_of aim.parts aim.whole at ≡ c.number → (noted k c.sum).closed ≡ 0 → at_level aim k at c ≡ to_sum c (noted k c.sum)
  level_step mark.OpenArray at c e o in_part h = marked mark.OpenArray c e
  level_step mark.OpenObject at c e o in_part h = marked mark.OpenObject c e
  level_step mark.CloseArray at c e o in_part h = absurd (shut c o h)
  level_step mark.CloseObject at c e o in_part h = absurd (shut c o h)
  level_step mark.Comma at c e o in_part h =
      let same : (part_of aim.parts aim.whole at == c.number) ≡ true = grind (arith, nat_tests) in
      let d = with_mark mark.Comma c in
      ap (λ (b : Bool). if b then d else record d { ended = d.ended ++ record { number = d.number; span = record { start = suc d.start; end = at }; first = d.first; end = d.sum.commas } ∷ []; number = part_of aim.parts aim.whole at; start = at; first = d.sum.commas }) same
      ∙ marked mark.Comma c e
  level_step mark.Colon at c e o in_part h = marked mark.Colon c e
  level_step mark.String at c e o in_part h = marked mark.String c e
  level_step mark.Number at c e o in_part h = marked mark.Number c e
  level_step mark.True at c e o in_part h = marked mark.True c e
  level_step mark.False at c e o in_part h = marked mark.False c e
  level_step mark.Null at c e o in_part h = marked mark.Null c e

  any_step : (o : ℕ) (k : MarkKind) (at : ℕ) (c : Cuts) → c.sum.opened ≡ o → c.some ≡ true → part_of aim.parts aim.whole at ≡ c.number → (noted k c.sum).closed ≡ 0 → at_depth o aim k at c ≡ to_sum c (noted k c.sum)
  any_step zero k at c o e in_part h = level_step k at c e o in_part h
  any_step (suc n) k at c o e in_part h = marked k c e

  -- ---- all marks of a chunk

  module _ (s : Span) (far : aim.whole.start < s.start) where
    in_one_part : (ms : List Mark) (c : Cuts) → c.some ≡ true → c.sum.closed ≡ 0 → AllInPart aim c.number s → AllByRecursion (IsMarkIn s) ms → (on_from c.sum ms).closed ≡ 0 → cut_all aim ms c ≡ to_sum c (on_from c.sum ms)
    in_one_part [] c e z parts within_span h = refl
    in_one_part (m ∷ ms) c e z parts within_span h =
        let from = within_span.0.from in
        let to = within_span.0.to in
        let grown = all_grow ms (noted m.kind c.sum) in
        let low : (noted m.kind c.sum).closed ≡ 0 = omega (arith, grown, h) in
        ap (cut_all aim ms) (within aim m c (omega (arith, far, from)) z ∙ any_step c.sum.opened m.kind m.at c refl e (parts m.at from to) low)
        ∙ in_one_part ms (to_sum c (noted m.kind c.sum)) e low parts within_span.1 h

    in_children : (ms : List Mark) (c : Cuts) (n : ℕ) (x : Sum) → c.some ≡ true → c.sum.closed ≡ 0 → c.sum.opened + x.closed ≡ n + x.opened → (on_from x ms).closed < n → AllByRecursion (IsMarkIn s) ms → cut_all aim ms c ≡ to_sum c (on_from c.sum ms)
    in_children [] c n x e z rel low within_span = refl
    in_children (m ∷ ms) c n x e z rel low within_span =
        let from = within_span.0.from in
        let grown = all_grow ms (noted m.kind x) in
        let more = grows m.kind x in
        let j : ℕ = c.sum.opened - 1 in
        let deep : c.sum.opened ≡ suc j = omega (arith, rel, low, grown, more) in
        let keeps = deep_step m.kind c.sum j deep in
        let step : at_depth c.sum.opened aim m.kind m.at c ≡ to_sum c (noted m.kind c.sum) = ap (λ (o : ℕ). at_depth o aim m.kind m.at c) deep ∙ marked m.kind c e in
        let same : suc j + x.closed ≡ n + x.opened = omega (arith, rel, deep) in
        let next = rel_step m.kind n j x same in
        let here = keeps.opened in
        ap (cut_all aim ms) (within aim m c (omega (arith, far, from)) z ∙ step)
        ∙ in_children ms (to_sum c (noted m.kind c.sum)) n (noted m.kind x) e (keeps.closed ∙ z) (omega (arith, here, next)) low within_span.1

    module _ (c : Cuts) (sum : Sum) (e : c.some ≡ true) (z : c.sum.closed ≡ 0) where
      summed : (ms : List Mark) → sum_of ms ≡ sum → on_from c.sum ms ≡ joined c.sum sum
      summed ms is =
          let same : c.sum ≡ made 0 c.sum.opened c.sum.commas = ap (λ (k : ℕ). made k c.sum.opened c.sum.commas) z in
          ap (λ (x : Sum). on_from x ms) same ∙ behind_sum c.sum.opened c.sum.commas ms ∙ ap (λ (x : Sum). joined x (sum_of ms)) (sym same) ∙ ap (joined c.sum) is

      -- inside children that it does not end
      pub passed_inside : sum.closed < c.sum.opened → IsPassed aim s sum c (joined c.sum sum)
      passed_inside low = λ ms within_span is.
          let closed : (on_from nothing ms).closed ≡ sum.closed = ap (λ (x : Sum). x.closed) is in
          in_children ms c c.sum.opened nothing e z (omega arith) (omega (arith, closed, low)) within_span ∙ ap (to_sum c) (summed ms is)

      -- in the part that is open
      pub passed_in_part : sum.closed ≡ c.sum.opened → (joined c.sum sum).closed ≡ 0 → AllInPart aim c.number s → IsPassed aim s sum c (joined c.sum sum)
      passed_in_part level low parts = λ ms within_span is.
          let all = summed ms is in
          let closed : (on_from c.sum ms).closed ≡ 0 = ap (λ (x : Sum). x.closed) all ∙ low in
          in_one_part ms c e z parts within_span closed ∙ ap (to_sum c) all

-- ---- what is joined

pub joined_low : (l r : Sum) → l.closed ≡ 0 → r.closed ≤ l.opened → (joined l r).closed ≡ 0
joined_low l r z low = pick (nat_lt r.closed l.opened)
  where
    pick : (b : Bool) → (if b then made l.closed ((l.opened - r.closed) + r.opened) l.commas else made (l.closed + (r.closed - l.opened)) r.opened (if r.closed == l.opened then l.commas + r.commas else r.commas)).closed ≡ 0
    pick true = z
    pick false = omega (arith, z, low)

pub some_joined : (aim : Aim) (s : Span) (c : Cuts) (sum : Sum) (o : Option Sum) → SomeIff o (Fits (joined c.sum sum)) (joined c.sum sum) → IsPassed aim s sum c (joined c.sum sum) → IfSome o (IsPassed aim s sum c)
some_joined aim s c sum None is h = tt
some_joined aim s c sum (Some x) is h = subst (IsPassed aim s sum c) (sym is.1) h
