use Rattle.std.proofs.Common.{◌≡◌, ℕ, zero, suc, ◌<◌, List, ◌∷◌, ◌++◌, refl, sym, ◌∙◌, ap, subst, arith, Bool, None, Option}
use Rattle.std.specs.Prelude.{is_some}
use Rattle.jx_lex.specs.Lex.{lex}
use Rattle.jx_lex.specs.TokenStates.{in_token}
use Rattle.jx_reduce.specs.declared.table.expect.Expect.{Expect}
use Rattle.jx_index.specs.declared.finder.Cursor.{Cursor}
use Rattle.jx_index.specs.inside.Finding.{Finding}
use Rattle.jx_index.specs.inside.InOrder.{behind}
use Rattle.jx_index.specs.inside.Trie.{seek_all}
use Rattle.jx_file_index.specs.Sums.{nothing, sum_of}
use Rattle.jx_file_query.specs.Passing.{slot}
use Rattle.jx_file_query.specs.Holding.{Holds}
use Rattle.jx_file_query.specs.Passed.{waiting}
use Rattle.jx_file_query.specs.Members.{lacks, unwanted_name}
use Rattle.jx_file_query.proofs.Elements.{passes}
use Rattle.jx_file_query.proofs.Holdings.{all_hold}
use Rattle.jx_file_query.proofs.Unwanted.{passes as all_passed}
use Rattle.jx_file_query.proofs.Pairings.{lex_paired}
use Rattle.jx_file_query.proofs.WalkPassings.{inside_passed}
use Rattle.jx_file_query.proofs.laws.skipped_parts.Goals as goal

-- the finding, by its parts
same_place : (f : Finding) (xs : List Cursor) (n : Option (Option ℕ)) → f.opened ≡ xs → f.name ≡ n → f ≡ record { met = f.met; opened = xs; skipped = f.skipped; name = n }
same_place f xs n p q = ap (λ (ys : List Cursor). record f { opened = ys }) p ∙ ap (λ (m : Option (Option ℕ)). record { met = f.met; opened = xs; skipped = f.skipped; name = m }) q

none_below : (i : ℕ) (b : Bool) (e : Expect) → 0 < i → slot i b e ≡ 0
none_below zero b e h = absurd (omega (arith, h))
none_below (suc i) b e h = refl

none_lacking : (i : ℕ) (b : Bool) (e : Expect) → 0 < i → lacks i b e ≡ 0
none_lacking zero b e h = absurd (omega (arith, h))
none_lacking (suc i) b e h = refl

pub returns : goal.returns
returns c = record {
  inside = λ text edges last at part from to begun f ends waits low more others.
      inside_passed text edges last f.skipped (lex_paired from to at part ends) waits nothing f refl low more others;
  elements = λ text edges last at depth part from to begun e x hs gs f k outer ends reads waits holds opened array unnamed lowest in_array busy unwanted.
      let first = k.count in
      let slots = slot f.skipped (in_token from) e in
      let total = sum_of (lex from at part).marks in
      let same : f ≡ record { met = f.met; opened = k ∷ outer; skipped = f.skipped; name = None } = same_place f (k ∷ outer) None opened unnamed in
      let p = passes text edges last depth k outer f.met array f.skipped first slots (none_below f.skipped (in_token from) e) total x gs lowest unwanted
      (lex_paired from to at part ends) waits nothing e hs first f.skipped
      (record {
        rel = refl;
        holds = subst (λ (xs : List Cursor). Holds f.skipped xs hs) opened holds;
        low = omega arith;
        above = λ h. refl;
        level = λ h. omega arith;
        stands = in_array;
        busy = busy;
      }) reads refl in
      record {
        count = p.count;
        counted = p.level;
        comes = λ more others.
            ap (λ (y : Finding). seek_all text edges last (behind begun ((lex from at part).marks ++ more)) ((lex from at part).ends ++ others) y) same
            ∙ p.is more others
            ∙ ap (λ (m : Option (Option ℕ)). seek_all text edges last (behind (waiting (in_token to)) more) others (record { met = f.met; opened = record k { count = p.count } ∷ outer; skipped = total.opened; name = m })) (sym unnamed);
      };
  members = λ known future edges last depth ms ends before after names e x hs gs f k outer of reads among unwanted.
      let first = k.count in
      let slots = lacks f.skipped (is_some before) e in
      let name = unwanted_name f.skipped (is_some before) e in
      let same : f ≡ record { met = f.met; opened = k ∷ outer; skipped = f.skipped; name = name } = same_place f (k ∷ outer) name among.opened among.named in
      let p = all_passed known future edges last depth k outer f.met among.object f.skipped first slots (none_lacking f.skipped (is_some before) e) before e hs
      (record {
        rel = refl;
        holds = subst (λ (xs : List Cursor). Holds f.skipped xs hs) among.opened among.holds;
        low = omega arith;
        above = λ h. refl;
        level = λ h. omega arith;
        stands = among.stands;
        busy = among.token;
      }) of x gs reads unwanted.low unwanted.unwanted in
      record {
        count = p.count;
        skipped = p.skipped;
        skipped_is = p.level.rel;
        grows = p.level.low;
        same = p.level.above;
        counted = p.level.level;
        among = record { opened = refl; object = among.object; holds = p.level.holds; stands = p.level.stands; named = refl; token = p.level.busy };
        comes = λ more others. ap (λ (y : Finding). seek_all (known ++ future) edges last (behind before (ms ++ more)) (ends ++ others) y) same ∙ p.is more others;
      };
  held = λ text edges last depth ms ends f e x hs gs reads holds. all_hold text edges last depth ms ends f e x hs gs reads holds;
}
