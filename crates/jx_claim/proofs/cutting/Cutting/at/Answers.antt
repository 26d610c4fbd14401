use Rattle.std.proofs.Common.{◌≡◌, ℕ, List, [], ◌∷◌, length, length-append, sym, ap, ◌∙◌, subst, arith}
use Rattle.jx_claim.specs.Cut.{Tiles, behind, meetings}
use Rattle.jx_claim.specs.inside.Listed.{between}
use Rattle.jx_claim.proofs.Pieces.{cuts_cover, cuts_meet, length-between, behind_start, none_ended}
use Rattle.jx_claim.proofs.cutting.Cutting.at.Goals as goal

covered : (c : goal.In-Ok) → Tiles 0 (between 0 c.in-Ok.ends.items) c.args.len
covered c = subst (λ es. Tiles 0 (between 0 es) c.args.len) (sym c.in-Ok.ensures) (cuts_cover c.args.len c.args.cuts.now (omega arith) c.in_ok-check.ensures.ok)

-- none of them is cut off
all_of : (c : goal.In-Ok) → behind 0 (between 0 c.in-Ok.ends.items) ≡ between 0 c.in-Ok.ends.items
all_of c = behind_start 0 (between 0 c.in-Ok.ends.items) c.args.len 0 (covered c) (omega arith)

pub invariant_of-result-2 : goal.invariant_of-result-2
invariant_of-result-2 c = (
  covered c,
  omega (arith, length-between 0 c.in-Ok.ends.items, ap (λ (l : List ℕ). length l) c.in-Ok.ensures, length-append c.args.cuts.now (c.args.len ∷ [])),
  tt,
  omega arith,
  none_ended (between 0 c.in-Ok.ends.items) c.args.len (covered c),
)

pub returns-clause-covers : goal.returns-clause-covers
returns-clause-covers c = subst (λ ps. Tiles 0 ps c.args.len) (sym (all_of c)) (covered c)

pub returns-clause-meet : goal.returns-clause-meet
returns-clause-meet c = ap meetings (all_of c) ∙ ap (λ es. meetings (between 0 es)) c.in-Ok.ensures ∙ cuts_meet c.args.cuts.now c.args.len
