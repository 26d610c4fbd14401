use Rattle.std.proofs.Common.{◌≡◌, ℕ, ◌<◌, List, ◌∷◌, length, get_or, refl, sym, ap, ◌∙◌, subst, arith}
use Rattle.std.proofs.lemmas.Option.{slice_get_read}
use Rattle.std.specs.Prelude.{slice_index}
use Rattle.jx_claim.specs.Cut.{span}
use Rattle.jx_claim.specs.inside.Listed.{listed, IsRegular}
use Rattle.jx_claim.proofs.Pieces.{length-regular, regular_is, regular_begins, length-between, between_at}
use Rattle.jx_claim.proofs.piece_list.PieceList.piece.Goals as goal

pub regular_piece-requires : goal.regular_piece-requires
regular_piece-requires c =
    let len = c.args.len in
    let fit = subst (IsRegular len) c.in-Every.is c.requires.regular in
    let low : c.args.number < c.in-Every.count = omega (arith, c.requires.low, ap (λ p. length (listed len p)) c.in-Every.is, length-regular len c.in-Every.size c.in-Every.count 0) in
    regular_begins len c.in-Every.size c.in-Every.count c.args.number low fit.2

pub piece_between-requires : goal.piece_between-requires
piece_between-requires c =
    omega (arith, c.requires.low, ap (λ p. length (listed c.args.len p)) c.in-At.is, length-between 0 c.in-At.ends.items, ap (λ (l : List ℕ). length l) c.deref.ensures.value)

pub returns-in-Every : goal.returns-in-Every
returns-in-Every c =
    let len = c.args.len in
    let k = c.args.number in
    let r = c.regular_piece.result in
    let fit = subst (IsRegular len) c.in-Every.is c.requires.regular in
    let low : k < c.in-Every.count = omega (arith, c.requires.low, ap (λ p. length (listed len p)) c.in-Every.is, length-regular len c.in-Every.size c.in-Every.count 0) in
    let read : get_or (listed len c.args.self.now) k r ≡ r =
    ap (λ p. get_or (listed len p) k r) c.in-Every.is ∙ regular_is len c.in-Every.size c.in-Every.count k r fit.0 low fit.2 ∙ sym c.regular_piece.ensures in
    slice_get_read _ _ _ _ refl c.requires.low (sym read)

pub returns-in-At : goal.returns-in-At
returns-in-At c =
    let len = c.args.len in
    let k = c.args.number in
    let r = c.piece_between.result in
    let ends = c.in-At.ends.items in
    let low : k < length ends = omega (arith, c.requires.low, ap (λ p. length (listed len p)) c.in-At.is, length-between 0 ends) in
    let read : get_or (listed len c.args.self.now) k r ≡ r =
    ap (λ p. get_or (listed len p) k r) c.in-At.is ∙ between_at 0 ends k r low
    ∙ sym (c.piece_between.ensures ∙ ap (λ es. span (slice_index (0 ∷ es) k) (slice_index es k)) c.deref.ensures.value) in
    slice_get_read _ _ _ _ refl c.requires.low (sym read)
