use Rattle.std.proofs.Common.{◌≡◌, ◌<◌, get_or, set, length, map, sym, ◌∙◌, ap, arith, subst}
use Rattle.std.proofs.lemmas.List.{get_or-map, length-map, map-set}
use Rattle.std.proofs.lemmas.List.Edits.{map_over_more}
use Rattle.jx_reduce.specs.Form.{Form}
use Rattle.jx_reduce.specs.Reduced.{depth_of, form_in}
use Rattle.jx_reduce.specs.inside.Follow.{followed, IsReady}
use Rattle.jx_reduce.specs.declared.reducing.reduced.Reduced.{Reduced}
use Rattle.jx_reduce.proofs.EachInPlace.{map_kept, map_over_all, rest_at, rest_more}
use Rattle.jx_reduce.proofs.Places.{depth_at}
use Rattle.jx_reduce.proofs.reducing.reductions.Reductions.extend_lefts.Goals as goal

pub extend_left-requires-clause-depth : goal.extend_left-requires-clause-depth
extend_left-requires-clause-depth c =
    depth_at c.args.self.now.depth c.loop-left.left-index c.loop-left.left-items c.left-item.result (c.loop-left.invariant.depths ∙ c.requires.depths) (omega arith)

pub extend_left-requires-clause-ready : goal.extend_left-requires-clause-ready
extend_left-requires-clause-ready c =
    subst (λ (l : Reduced). IsReady l c.args.self.now)
    (sym (rest_at c.loop-left.left-items c.args.lefts.now c.loop-left.left-index c.left-item.result c.loop-left.invariant.rest))
    (c.requires.ready c.loop-left.left-index c.left-item.result (omega arith))

pub loop-left-preserved : goal.loop-left-preserved
loop-left-preserved c =
    let low : c.loop-left.left-index < length c.loop-left.left-items = omega arith in
    let left = get_or c.loop-left.left-items c.loop-left.left-index c.left-item.result in
    let depth : depth_of left ≡ c.args.self.now.depth =
    depth_at c.args.self.now.depth c.loop-left.left-index c.loop-left.left-items c.left-item.result (c.loop-left.invariant.depths ∙ c.requires.depths) low in
    record {
      depths =
          map_kept depth_of c.loop-left.left-items c.loop-left.left-index c.left-item.result c.extend_left.new.left low c.extend_left.ensures.depth
          ∙ c.loop-left.invariant.depths;
      forms =
          map-set form_in c.loop-left.left-items c.loop-left.left-index c.extend_left.new.left
          ∙ ap (λ (f : Form). set (map form_in c.loop-left.left-items) c.loop-left.left-index f) (c.extend_left.ensures.form ∙ ap (λ n. followed n (form_in left) c.args.self.now) depth)
          ∙ map_over_more (λ (f : Form). followed c.args.self.now.depth f c.args.self.now) (map form_in c.args.lefts.now) (map form_in c.loop-left.left-items)
          c.loop-left.left-index (form_in left) (omega (arith, low, length-map c.args.lefts.now form_in)) c.loop-left.invariant.forms
          (sym (get_or-map form_in c.loop-left.left-items c.loop-left.left-index c.left-item.result (form_in left) low));
      rest = rest_more c.loop-left.left-items c.args.lefts.now c.loop-left.left-index c.extend_left.new.left c.loop-left.invariant.rest;
    }

pub returns-clause-forms : goal.returns-clause-forms
returns-clause-forms c =
    map_over_all (λ (f : Form). followed c.args.self.now.depth f c.args.self.now) (map form_in c.args.lefts.now) (map form_in c.loop-left.left-items) c.loop-left.left-index
    (omega (arith, length-map c.args.lefts.now form_in)) c.loop-left.invariant.forms
