use Rattle.std.proofs.Common.{◌≡◌, ◌+◌, ◌<◌, ◌≤◌, length, get_or, refl, sym, ap, ◌∙◌, subst, arith}
use Rattle.std.specs.Prelude.{max}
use Rattle.std.proofs.lemmas.Option.{slice_get_read, get_or_from_slice_get}
use Rattle.jx_summary.specs.declared.span.Span.{Span}
use Rattle.jx_claim.specs.Cut.{CuttingValue, Tiles, span}
use Rattle.jx_claim.specs.inside.Listed.{listed}
use Rattle.jx_claim.proofs.Pieces.{behind_len, behind_at, behind_covers, piece_covered}
use Rattle.jx_claim.proofs.cutting.Cutting.piece.Goals as goal
use Rattle.jx_claim.proofs.cutting.Cutting.piece.Goals.{After-max}

low : (c : goal.After-struct_known-1) → c.self.inside.skipped + c.args.piece.0 < length (listed c.self.inside.len c.self.inside.pieces)
low c =
    let s = c.self.inside in
    omega (arith, c.requires, ap (λ (v : CuttingValue). length v.pieces) c.self.view_is, behind_len s.front s.skipped (listed s.len s.pieces) c.self.invariant.4)

pub overflow_add-self-inside : goal.overflow_add-self-inside
overflow_add-self-inside c = omega (arith, low c, c.self.invariant.1)

pub piece-whole-requires-clause-low : goal.piece-whole-requires-clause-low
piece-whole-requires-clause-low c = low c

abbrev answer : After-max → Span
answer c = span c.max.result c.piece-whole.result.end

-- the piece that was read
read : (c : After-max) → get_or c.args.self.now.pieces c.args.piece.0 (answer c) ≡ answer c
read c =
    let s = c.self.inside in
    let ps = listed s.len s.pieces in
    let i = c.args.piece.0 in
    let r = answer c in
    let whole = c.piece-whole.result in
    let at : s.skipped + i < length ps = omega (arith, c.requires, ap (λ (v : CuttingValue). length v.pieces) c.self.view_is, behind_len s.front s.skipped ps c.self.invariant.4) in
    let start : max s.front whole.start ≡ c.max.result = omega (arith, c.max.ensures) in
    sym (ap (λ (v : CuttingValue). get_or v.pieces i r) c.self.view_is) ∙ behind_at s.front s.skipped ps c.self.invariant.4 i r at
    ∙ ap (λ (p : Span). span (max s.front p.start) p.end) (get_or_from_slice_get ps (s.skipped + i) whole r c.piece-whole.ensures)
    ∙ (λ j. span (start j) whole.end)

-- so it is not empty, and lies in the text
covered : (c : After-max) → (c.max.result < c.piece-whole.result.end) × (c.piece-whole.result.end ≤ c.args.self.now.len)
covered c =
    let s = c.self.inside in
    let covers : Tiles c.args.self.now.front c.args.self.now.pieces c.args.self.now.len = subst (λ (v : CuttingValue). Tiles v.front v.pieces v.len) c.self.view_is
    (behind_covers 0 (listed s.len s.pieces) s.len s.front c.self.invariant.0 (omega arith) c.self.invariant.3) in
    piece_covered c.args.self.now.front c.args.self.now.pieces c.args.self.now.len c.args.piece.0 (answer c) covers c.requires (read c)

pub returns-clause-piece : goal.returns-clause-piece
returns-clause-piece c = slice_get_read _ _ _ _ refl c.requires (sym (read c))

pub returns-clause-filled : goal.returns-clause-filled
returns-clause-filled c = (covered c).0

pub returns-clause-within : goal.returns-clause-within
returns-clause-within c = (covered c).1
