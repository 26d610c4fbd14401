use Rattle.std.proofs.Common.{◌≡◌, ◌<◌, ◌∷◌, length, sym, ap, ◌∙◌, rules, arith}
use Rattle.std.specs.Prelude.{slice_index}
use Rattle.jx_index.specs.Walk.{walk_to}
use Rattle.jx_index.proofs.WalkLaws.{walk_step}
use Rattle.jx_index.proofs.children.ChildrenIterator.next.Goals as goal

pub returns-clause-steps : goal.returns-clause-steps
returns-clause-steps c =
    let i = c.self.inside in
    let lt : i.next < i.end = omega arith in
    sym c.self.view_is
    ∙ walk_step i.after.now i.next i.end c.self.invariant.0 c.self.invariant.1 lt
    ∙ ap (λ n. n ∷ walk_to i.after.now (slice_index i.after.now i.next) i.end) (sym c.new.ensures)

pub returns-clause-goes : goal.returns-clause-goes
returns-clause-goes c =
    let i = c.self.inside in
    let lt : i.next < i.end = omega arith in
    let step : c.args.self.now ≡ c.new.result ∷ walk_to i.after.now (slice_index i.after.now i.next) i.end =
    sym c.self.view_is
    ∙ walk_step i.after.now i.next i.end c.self.invariant.0 c.self.invariant.1 lt
    ∙ ap (λ n. n ∷ walk_to i.after.now (slice_index i.after.now i.next) i.end) (sym c.new.ensures) in
    let shorter = ap length step in search rules
