use Rattle.std.proofs.Common.{◌≡◌, ◌≢◌, ◌<◌, ℕ, refl, sym, ◌∙◌, subst, inl, inr}
use Rattle.jx_parts.specs.Refusals.{another_depth, no_size, IsHead, IsNoHead}
use Rattle.jx_parts.specs.inside.Reading.{IsFaultOf}
use Rattle.jx_parts.proofs.Refused.{head_refused}
use Rattle.jx_parts.proofs.record_reading.size_by.Goals.{then-found-lt-HEAD-via-then-found-lt-HEAD, then-found-lt-HEAD-via-else-found-lt-HEAD+then-found-most}
use Rattle.jx_parts.proofs.record_reading.size_by.Goals as goal

pub returns-then-found-containers-clause-refused : goal.returns-then-found-containers-clause-refused
returns-then-found-containers-clause-refused c =
    let found = c.in-Ok.found in
    let head : IsHead found.depth found.size c.args.head.now = (c.in-Ok.field-0-1.now, c.in-Ok.ensures.reads) in
    let apart : found.depth ≢ c.args.depth = λ e. c.if-found-containers.true (e ∙ sym c.containers.ensures.value) in
    (refl, another_depth found.size found.depth head apart refl)

pub returns-then-found-lt-HEAD-clause-refused : goal.returns-then-found-lt-HEAD-clause-refused
returns-then-found-lt-HEAD-clause-refused c =
    let found = c.in-Ok.found in
    let same : found.depth ≡ c.args.depth = c.if-found-containers.false ∙ c.containers.ensures.value in
    let head : IsHead found.depth found.size c.args.head.now = (c.in-Ok.field-0-1.now, c.in-Ok.ensures.reads) in
    let there : IsHead c.args.depth found.size c.args.head.now = subst (λ (d : ℕ). IsHead d found.size c.args.head.now) same head in
    elim c.then-found-lt-HEAD.branch [
      | then-found-lt-HEAD-via-then-found-lt-HEAD w ↦ (refl, no_size found.size there (inl w.if-found-lt-HEAD.true) refl)
      | then-found-lt-HEAD-via-else-found-lt-HEAD+then-found-most w ↦ (refl, no_size found.size there (inr (subst (λ (m : ℕ). m < found.size) w.most.ensures w.if-found-most.true)) refl)
    ]

pub returns-in-Err-clause-refused : goal.returns-in-Err-clause-refused
returns-in-Err-clause-refused c =
    subst (IsFaultOf c.args.number (IsNoHead c.args.depth c.args.head.now)) (sym c.fault_of_run.ensures.is) (head_refused c.in-Err.fault c.args.number c.args.depth c.args.head.now c.in-Err.ensures.reads)
