use Rattle.std.proofs.Common.{rules, ◌≡◌, ℕ, ◌-◌, List, [], ◌∷◌, min, length, cond, get_or, refl, sym, ap, ◌∙◌, arith, length-append}
use Rattle.std.specs.Prelude.{sum_by, slice_index}
use mathlib.Core.Option.{some, some-injective, some-ne-none}
use lib.ListN.{get_elem?}
use Rattle.std.proofs.lemmas.List.{get_or_append_left}
use Rattle.std.proofs.lemmas.List.Sums.{sum_by_push}
use Rattle.jx_claim.specs.declared.rule.View.{View}
use Rattle.jx_claim.specs.Claimed.{SeatValue, times, once_below}
use Rattle.jx_claim.proofs.Deals.{joins, learns, times_append}
use Rattle.jx_claim.proofs.claims.Claims.close.Goals as goal

pub join_seat-requires : goal.join_seat-requires
join_seat-requires c = (
  search rules,
  search rules,
  search rules,
  search rules,
  joins c.self.inside.table.shared.key c.loop-next.all.id c.loop-next.all.me.0 c.next.inside.seat.id c.next.inside.seat.me.0,
)

pub loop-next-preserved : goal.loop-next-preserved
loop-next-preserved c =
    let i = c.loop-next.invariant in
    let j = c.join_seat.ensures in
    let is = ap (λ m. m.0) j.2 in
    let v = c.loop-next.all.me.0 in
    let w = c.next.inside.seat.me.0 in
    let items = c.in-Some-pop.ensures.items in
    let rest = c.pop-in-loop-next.new.self.items in
    let next = c.in-Some-pop.next in
    let seen = c.next.view_is in
    let f : ℕ → SeatValue → ℕ = λ x s. times x s.got in
    let p : SeatValue → ℕ = λ s. cond s.spent 1 0 in
    record {
      id = j.0 ∙ i.id;
      seats = omega (arith, i.seats, ap (λ (u : View). u.seats) is, c.next.invariant.0, c.in-Some-pop.ensures.len);
      got = λ x. omega (arith, i.got x, ap (λ (u : View). times x u.got) is, times_append x v.got w.got, ap (λ (s : SeatValue). times x s.got) seen, sum_by_push (f x) rest next, ap (sum_by (f x)) items);
      nones = omega (arith, i.nones, ap (λ (u : View). u.nones) is, c.next.invariant.1, ap p seen, sum_by_push p rest next, ap (sum_by p) items);
      of_these = λ k d low. ap (λ (y : SeatValue). y.id) (sym (ap (λ (l : List SeatValue). get_or l k d) items ∙ get_or_append_left rest (next ∷ []) d k low)) ∙ i.of_these k d (omega (arith, ap (λ (l : List SeatValue). length l) items, length-append rest (next ∷ [])));
    }

word_is : (ws : List ℕ) (r : ℕ) → get_elem? ws 0 ≡ some r → slice_index ws 0 ≡ r
word_is [] r e = absurd (some-ne-none r (sym e))
word_is (x ∷ xs) r e = some-injective x r e

-- what the one view that is left tells
told : (c : goal.After-drop-seats) → ((x : ℕ) → times x c.loop-next.all.me.0.got ≡ once_below x c.min.result) × (c.loop-next.all.me.0.nones ≡ c.word-next.result - c.self.inside.pieces)
told c =
    let i = c.loop-next.invariant in
    let k = c.self.inside.table.shared.key in
    let final = c.close_with-closed.ensures.values.2 in
    let s = final.0 in
    let word : slice_index s.words 0 ≡ c.word-next.result = ap (λ (ws : List ℕ). slice_index ws 0) final.2 ∙ word_is _ _ c.word-next.ensures in
    let pieces : k.pieces ≡ c.self.inside.pieces = c.self.invariant.2 in
    let workers : k.workers ≡ c.args.self.workers = c.self.invariant.3 ∙ ap (λ v. v.workers) c.self.view_is in
    let t = learns k c.loop-next.all.id c.loop-next.all.me.0 s (omega (arith, i.seats, c.in_default-pop.ensures.cases.0)) final.1 in
    ((λ x. t.0 x ∙ ap (once_below x) ((λ j. min (word j) (pieces j)) ∙ ap (min c.word-next.result) (sym c.from.ensures) ∙ sym c.min.ensures)), t.1 ∙ (λ j. word j - pieces j))

emptied : {X : Type 0} (f : X → ℕ) (xs : List X) → length xs ≡ 0 → sum_by f xs ≡ 0
emptied f [] e = refl
emptied f (x ∷ xs) e = absurd (omega arith)

pub returns-clause-got : goal.returns-clause-got
returns-clause-got c = λ x.
    let none = emptied (λ (s : SeatValue). times x s.got) c.loop-next.seats.items (search rules) in
    omega (arith, c.loop-next.invariant.got x, (told c).0 x, none)

pub returns-clause-spent : goal.returns-clause-spent
returns-clause-spent c = λ some_none.
    let none = emptied (λ (s : SeatValue). cond s.spent 1 0) c.loop-next.seats.items (search rules) in
    omega (arith, c.loop-next.invariant.nones, (told c).1, none, c.min.ensures, c.from.ensures, ap (λ v. v.pieces) c.self.view_is)
