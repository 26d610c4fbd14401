use Rattle.std.proofs.Common.{◌≡◌, ℕ, ◌+◌, ◌*◌, ◌/◌, ◌<◌, suc, List, length, sym, ap, ◌∙◌, subst, arith}
use mathlib.Core.Logic.{dite}
use native.Mathlib.Decide.{dec_lt}
use Rattle.std.proofs.Math.Nat.{suc-mul, div-mul-le_self}
use Rattle.std.proofs.lemmas.Nat.{le-div}
use Rattle.jx_claim.specs.declared.piece_list.PieceList.{PieceList}
use Rattle.jx_claim.specs.Cut.{Tiles}
use Rattle.jx_claim.specs.inside.Listed.{listed, between, IsRegular, AreEnded}
use Rattle.jx_claim.proofs.Pieces.{length-regular, regular_ended, all_ended}
use Rattle.jx_claim.proofs.piece_list.PieceList.ended.Goals as goal

-- the remainder is less than the divisor
rest_below : (n k : ℕ) → 0 < k → n < n / k * k + k
rest_below n k some = dite (dec_lt n (n / k * k + k)) (λ l. l)
    (λ h. let e = suc-mul (n / k) k in absurd (omega (arith, le-div (suc (n / k)) n k some (omega (arith, e)))))

pub nonzero_div-result : goal.nonzero_div-result
nonzero_div-result c = (subst (IsRegular c.args.len) c.in-Every.is c.requires.regular).0

pub returns-then-offset-len : goal.returns-then-offset-len
returns-then-offset-len c =
    let len = c.args.len in
    let ps = listed len c.args.self.now in
    let n : length ps ≡ c.in-Every.count = ap (λ (p : PieceList). length (listed len p)) c.in-Every.is ∙ length-regular len c.in-Every.size c.in-Every.count 0 in
    let at : len ≡ c.args.offset = sym c.if-offset-len.true in
    subst (λ (x : ℕ × ℕ). AreEnded x.0 x.1 ps) (λ i. (at i, n i)) (all_ended ps len c.requires.covers)

pub returns-else-offset-len : goal.returns-else-offset-len
returns-else-offset-len c =
    let len = c.args.len in
    let k = c.in-Every.size in
    let fit = subst (IsRegular len) c.in-Every.is c.requires.regular in
    let low : c.args.offset < len = omega (arith, c.if-offset-len.false, c.requires.within) in
    subst (λ (p : PieceList). AreEnded c.args.offset (c.args.offset / k) (listed len p)) (sym c.in-Every.is)
    (regular_ended len k c.in-Every.count c.args.offset (c.args.offset / k) fit.0 fit.1 fit.2 low (div-mul-le_self c.args.offset k) (rest_below c.args.offset k fit.0))

pub ended_between-requires : goal.ended_between-requires
ended_between-requires c = (
  c.args.len,
  subst (λ (es : List ℕ). Tiles 0 (between 0 es) c.args.len) (sym c.deref.ensures.value)
      (subst (λ (p : PieceList). Tiles 0 (listed c.args.len p) c.args.len) c.in-At.is c.requires.covers),
)
