use Rattle.std.proofs.Common.{◌<◌, ◌≤◌, ◌++◌, length, map, take, slice_set, refl, ap, ◌∙◌, arith, append-nil}
use Rattle.std.proofs.lemmas.List.{length-set, take_all}
use Rattle.std.proofs.lemmas.List.Edits.{map_over_more}
use Rattle.std.proofs.Math.ListN.{drop_of_length-le}
use Rattle.jx_run.specs.declared.sequences.element_verdict.JudgedElement.{JudgedElement}
use Rattle.jx_run.specs.inside.Moved.{moved}
use Rattle.jx_run.proofs.sequences.element_verdict.all_moved.Goals as goal

pub loop-at-init : goal.loop-at-init
loop-at-init c = record { long = refl; moved = refl }

pub loop-at-preserved : goal.loop-at-preserved
loop-at-preserved c =
    let l = c.loop-at in
    let xs = c.args.elements.items in
    let x : JudgedElement = c.index.result.now in
    let low : l.at < length xs = omega arith in
    record {
      long = length-set l.elements.items l.at c.moved.result ∙ l.invariant.long;
      moved = ap (λ (y : JudgedElement). slice_set l.elements.items l.at y) c.moved.ensures ∙ map_over_more (moved c.args.by) xs l.elements.items l.at x low l.invariant.moved c.index.ensures;
    }

pub returns : goal.returns
returns c =
    let l = c.loop-at in
    let xs = c.args.elements.items in
    let all : length xs ≤ l.at = omega arith in
    l.invariant.moved
    ∙ ap (λ (ys : _). map (moved c.args.by) (take l.at xs) ++ ys) (drop_of_length-le xs all)
    ∙ append-nil (map (moved c.args.by) (take l.at xs))
    ∙ ap (map (moved c.args.by)) (take_all l.at xs all)
