use Rattle.std.proofs.Common.{◌++◌, length, flat_map, sym, subst, refl, [], arith}
use Rattle.std.specs.Prelude.{IsSomeAnd}
use Rattle.jx_maps.specs.View.{marks_at}
use Rattle.jx_reduce.specs.Offsets.{RisingFrom}
use Rattle.jx_run.specs.inside.Reduced.{IsReduced}
use Rattle.jx_run.proofs.Reducing.{first_within, rest_within, front_rises, marks_same, next_flat, slot_if, set_reduced}
use Rattle.jx_run.proofs.runs.reduce.reduce_path.Goals as goal

pub loop-number-init : goal.loop-number-init
loop-number-init c =
    let r = c.new-reduced.ensures in
    record {
      slots = c.requires.slots;
      within = c.requires.within;
      so_far = ([], record { depth = r.depth; reads = r.reads; offsets = λ low high h. r.offsets low high }, refl);
    }

pub bounds-slots-number : goal.bounds-slots-number
bounds-slots-number c =
    let low = first_within c.loop-number.path c.next.new.self c.in-Some.number (length c.args.segments.now) c.in-Some.ensures.steps c.loop-number.invariant.within in
    let a = c.loop-number.auto.slots in
    let b = c.requires.many in
    omega (arith, low, a, b)

pub take_in-requires-clause-slot : goal.take_in-requires-clause-slot
take_in-requires-clause-slot c =
    let low = first_within c.loop-number.path c.next.new.self c.in-Some.number (length c.args.segments.now) c.in-Some.ensures.steps c.loop-number.invariant.within in
    let a = c.loop-number.auto.slots in
    let b = c.requires.many in
    slot_if c.loop-number.reduced.depth c.args.segments.now c.loop-number.slots c.in-Some.number c.index-slots-number.result c.index-segments-number.result
    (omega (arith, low, a, b)) low (λ n f e. subst (λ d. IsReduced d (marks_at c.args.segments.now n) f) (sym c.loop-number.invariant.so_far.1.depth) (c.loop-number.invariant.slots n f e)) c.index-segments-number.is

pub take_in-requires-clause-rising : goal.take_in-requires-clause-rising
take_in-requires-clause-rising c =
    let so_far = c.loop-number.invariant.so_far in
    let low = first_within c.loop-number.path c.next.new.self c.in-Some.number (length c.args.segments.now) c.in-Some.ensures.steps c.loop-number.invariant.within in (
      so_far.0,
      subst (λ d. IsReduced d so_far.0 c.loop-number.reduced) (sym so_far.1.depth) so_far.1,
      front_rises (so_far.0 ++ c.index-segments-number.result.marks) (flat_map (marks_at c.args.segments.now) c.next.new.self)
          (subst (RisingFrom 0) (sym (next_flat (marks_at c.args.segments.now) so_far.0 c.loop-number.path c.next.new.self c.in-Some.number c.index-segments-number.result.marks _ c.in-Some.ensures.steps
          (marks_same c.args.segments.now c.in-Some.number c.index-segments-number.result low c.index-segments-number.is) so_far.2)) c.requires.rising),
    )

pub loop-number-preserved : goal.loop-number-preserved
loop-number-preserved c =
    let so_far = c.loop-number.invariant.so_far in
    let low = first_within c.loop-number.path c.next.new.self c.in-Some.number (length c.args.segments.now) c.in-Some.ensures.steps c.loop-number.invariant.within in
    let a = c.loop-number.auto.slots in
    let b = c.requires.many in
    let marks = marks_same c.args.segments.now c.in-Some.number c.index-segments-number.result low c.index-segments-number.is in
    record {
      slots = set_reduced c.args.depth c.args.segments.now c.loop-number.slots c.in-Some.number c.take_in.new.slot c.index-segments-number.result (omega (arith, low, a, b)) marks c.loop-number.invariant.slots
          (subst (λ d. IsSomeAnd c.take_in.new.slot (IsReduced d c.index-segments-number.result.marks)) so_far.1.depth c.in_ok-reduced.ensures.slot);
      within = rest_within c.loop-number.path c.next.new.self c.in-Some.number (length c.args.segments.now) c.in-Some.ensures.steps c.loop-number.invariant.within;
      so_far = (
        so_far.0 ++ c.index-segments-number.result.marks,
        subst (λ d. IsReduced d (so_far.0 ++ c.index-segments-number.result.marks) c.in_ok-reduced.reduced) so_far.1.depth
            (c.in_ok-reduced.ensures.reduced so_far.0 (subst (λ d. IsReduced d so_far.0 c.loop-number.reduced) (sym so_far.1.depth) so_far.1)),
        next_flat (marks_at c.args.segments.now) so_far.0 c.loop-number.path c.next.new.self c.in-Some.number c.index-segments-number.result.marks _ c.in-Some.ensures.steps marks so_far.2,
      );
    }
