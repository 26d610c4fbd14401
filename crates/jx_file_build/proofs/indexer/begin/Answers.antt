use Rattle.std.proofs.Common.{List, ℕ, append-nil, arith, length, subst, sym, take, ◌++◌, ◌≤◌}
use Rattle.jx_file_build.specs.Held.{AreHeld, IsEntered}
use Rattle.jx_file_build.proofs.Feedings.{part_more, part_read}
use Rattle.jx_file_build.proofs.indexer.begin.Goals as goal

pub returns-then-is_empty-clause-held : goal.returns-then-is_empty-clause-held
returns-then-is_empty-clause-held c = λ has_names settings bytes h.
    subst (λ (xs : List ℕ). AreHeld has_names settings c.args.size xs c.args.held c.args.part.now.items) (sym (append-nil bytes)) h

pub returns-then-len-size-clause-held : goal.returns-then-len-size-clause-held
returns-then-len-size-clause-held c = λ has_names settings bytes h.
    part_more has_names settings c.args.size bytes (take c.in_ok-len.len c.args.slice.now) c.args.held c.args.part.now.items h c.fill.new.part.items c.in_ok-len.ensures.filled (let t = c.if-len-size.true in let l = c.len.ensures in omega (arith, t, l))

pub returns-clause-held : goal.returns-clause-held
returns-clause-held c = λ has_names settings bytes h.
    let size = c.args.size in
    let full = c.fill.new.part.items in
    let next = c.in_ok-held.held in
    let fits = c.in_ok-len.ensures.fits h.short in
    let low = c.if-len-size.false in
    let l = c.len.ensures in
    subst (λ (xs : List ℕ). AreHeld has_names settings size (bytes ++ take c.in_ok-len.len c.args.slice.now) next xs) (sym c.clear.ensures.items)
    (part_read has_names settings size bytes (take c.in_ok-len.len c.args.slice.now) c.args.held c.args.part.now.items h full next c.in_ok-len.ensures.filled (omega (arith, fits, low, l)) c.in_ok-held.ensures.entries
    (λ before whole. subst (λ (xs : List ℕ). length xs ≤ size → IsEntered has_names settings size (before ++ xs) next) c.deref.ensures.value (c.in_ok-held.ensures.entered has_names settings size before whole)))
