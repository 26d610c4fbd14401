use Rattle.std.proofs.Common.{◌≡◌, ℕ, ◌+◌, ◌<◌, ◌≤◌, false, List, [], ◌∷◌, ◌++◌, refl, ap, subst, ◌∙◌, arith}
use Rattle.std.specs.Prelude.{All}
use Rattle.jx_claim.specs.declared.rule.View.{View}
use Rattle.jx_claim.specs.Claimed.{ClaimsValue, SeatValue}
use Rattle.jx_claim.specs.inside.Dealt.{view}
use Rattle.jx_claim.proofs.Deals.{bit, got_piece, got_none, first_drawn, none_undrawn}
use Rattle.jx_claim.proofs.claims.Claims.draw.Goals as goal

low : (c : goal.Then-found-from) → c.take-found.result < c.args.self.now.pieces
low c = omega (arith, c.if-found-from.true, c.from.ensures, ap (λ (v : ClaimsValue). v.pieces) c.self.view_is)

past : (c : goal.After-seat-1) → c.args.self.now.pieces ≤ c.take-found.result
past c = omega (arith, c.if-found-from.false, c.from.ensures, ap (λ (v : ClaimsValue). v.pieces) c.self.view_is)

-- the view after a draw that found a piece
got : (c : goal.Then-found-from) → c.take-found.new.seat.me.0 ≡ view c.seat.inside.seat.me.0.seats (c.seat.inside.seat.me.0.got ++ c.take-found.result ∷ []) c.seat.inside.seat.me.0.nones
got c = got_piece c.args.self.now.pieces c.take-found.result c.seat.inside.seat.me.0 c.take-found.new.seat.me.0 (low c) c.take-found.ensures.draw

-- the view after a draw that found none
none : (c : goal.After-seat-1) → c.take-found.new.seat.me.0 ≡ view c.seat.inside.seat.me.0.seats c.seat.inside.seat.me.0.got (c.seat.inside.seat.me.0.nones + 1)
none c = got_none c.args.self.now.pieces c.take-found.result c.seat.inside.seat.me.0 c.take-found.new.seat.me.0 (past c) c.take-found.ensures.draw

-- what holds of all numbers that the view got holds of those that the seat shows
seen : {word : ℕ} {xs ys : List ℕ} → All (λ n. n < word) xs → xs ≡ ys → All (λ n. n < word) ys
seen {word} h e = subst (λ (l : List ℕ). All (λ n. n < word) l) e h

pub invariant_of-seat : goal.invariant_of-seat
invariant_of-seat c = (
  ap (λ (v : View). v.seats) (got c) ∙ c.seat.invariant.0,
  ap (λ (v : View). v.nones) (got c) ∙ c.seat.invariant.1,
  c.take-found.ensures.seat.1 ∙ c.seat.invariant.2,
)

pub invariant_of-seat-else-found-from : goal.invariant_of-seat-else-found-from
invariant_of-seat-else-found-from c =
    let unspent : c.seat.inside.spent ≡ false = ap (λ (v : SeatValue). v.spent) c.seat.view_is ∙ c.requires.unspent in (
      ap (λ (v : View). v.seats) (none c) ∙ c.seat.invariant.0,
      omega (arith, ap (λ (v : View). v.nones) (none c), c.seat.invariant.1, ap bit unspent),
      c.take-found.ensures.seat.1 ∙ c.seat.invariant.2,
    )

pub returns-then-found-from-clause-drew : goal.returns-then-found-from-clause-drew
returns-then-found-from-clause-drew c = (
  ap (λ (v : View). v.got) (got c) ∙ ap (λ (v : SeatValue). v.got ++ c.take-found.result ∷ []) c.seat.view_is,
  ap (λ (v : SeatValue). v.spent) c.seat.view_is ∙ c.requires.unspent,
)

pub returns-then-found-from-clause-undrawn : goal.returns-then-found-from-clause-undrawn
returns-then-found-from-clause-undrawn c = (c.take-found.result, seen c.take-found.ensures.below (ap (λ (v : SeatValue). v.got) c.seat.view_is), (refl, first_drawn c.take-found.result c.args.self.now.pieces (low c)))

pub returns-else-found-from-clause-drew : goal.returns-else-found-from-clause-drew
returns-else-found-from-clause-drew c = (ap (λ (v : View). v.got) (none c) ∙ ap (λ (v : SeatValue). v.got) c.seat.view_is, refl)

pub returns-else-found-from-clause-undrawn : goal.returns-else-found-from-clause-undrawn
returns-else-found-from-clause-undrawn c = (c.take-found.result, seen c.take-found.ensures.below (ap (λ (v : SeatValue). v.got) c.seat.view_is), none_undrawn c.take-found.result c.args.self.now.pieces (past c))
