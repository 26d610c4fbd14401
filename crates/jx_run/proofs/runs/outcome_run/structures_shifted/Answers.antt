use Rattle.std.proofs.Common.{◌≡◌, ◌<◌, ◌-◌, ◌^◌, length, Some, slice_set, refl, sym, ap, ◌∙◌, arith}
use Rattle.std.specs.Prelude.{slice_get}
use Rattle.std.proofs.lemmas.List.{length-set}
use Rattle.std.proofs.lemmas.Option.{slice_get_read, slice_get_within}
use Rattle.jx_reduce.specs.Structure.{StructureValue, SpansIn}
use Rattle.jx_run.specs.inside.Moved.{IsMoved}
use Rattle.jx_run.proofs.Shifts.{put_moved}
use Rattle.jx_run.proofs.Transitions.{all_at}
use Rattle.jx_run.proofs.runs.outcome_run.structures_shifted.Goals as goal

pub shifted-requires : goal.shifted-requires
shifted-requires c =
    let l = c.loop-at in
    let xs = c.args.structures.items in
    let ys = l.structures.items in
    let low : l.at < length ys = omega arith in
    let here : slice_get ys l.at ≡ Some c.replace-structure.result =
    slice_get_read ys (length ys) l.at _ refl low c.index_mut.ensures.value ∙ ap (λ (f : StructureValue). Some f) (sym c.replace-structure.ensures.value) in
    record { fits = all_at (SpansIn 0 (2 ^ 64 - c.args.by)) xs l.at c.replace-structure.result c.requires.fits (sym (l.invariant.rest l.at (omega arith)) ∙ here) }

pub loop-at-preserved : goal.loop-at-preserved
loop-at-preserved c =
    let l = c.loop-at in
    let xs = c.args.structures.items in
    let ys = l.structures.items in
    let f = c.replace-structure.result in
    let low : l.at < length ys = omega arith in
    let here : slice_get ys l.at ≡ Some f =
    slice_get_read ys (length ys) l.at _ refl low c.index_mut.ensures.value ∙ ap (λ (f : StructureValue). Some f) (sym c.replace-structure.ensures.value) in
    let was : slice_get xs l.at ≡ Some f = sym (l.invariant.rest l.at (omega arith)) ∙ here in
    let is : IsMoved c.args.by f c.shifted.result = record { depth = c.shifted.ensures.depth; answers = c.shifted.ensures.answers; offsets = c.shifted.ensures.offsets } in
    let p = put_moved c.args.by xs ys l.at f c.replace-structure.new.dest c.shifted.result low was is l.invariant.moved l.invariant.rest in
    record {
      long = length-set (slice_set ys l.at c.replace-structure.new.dest) l.at c.shifted.result ∙ length-set ys l.at c.replace-structure.new.dest ∙ l.invariant.long;
      moved = p.0;
      rest = p.1;
    }

pub returns-clause-moved : goal.returns-clause-moved
returns-clause-moved c at old h =
    let l = c.loop-at in
    let long = slice_get_within c.args.structures.items at old h in
    l.invariant.moved at old (omega (arith, long)) h
