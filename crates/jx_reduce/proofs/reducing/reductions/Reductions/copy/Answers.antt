use Rattle.std.proofs.Common.{◌≡◌, ◌<◌, replicate, map, sym, ◌∙◌, ap, subst, arith}
use Rattle.jx_reduce.specs.Reduced.{form_in}
use Rattle.jx_reduce.specs.Reductions.{Forms, form_at, IsSound}
use Rattle.jx_reduce.proofs.Places.{same_forms, written_depths, written_forms}
use Rattle.jx_reduce.proofs.reducing.reductions.Reductions.copy.Goals as goal

pub loop-entry-preserved : goal.loop-entry-preserved
loop-entry-preserved c =
    let low : c.loop-entry.entry-index < 8 = omega arith in
    record {
      depths = written_depths (form_at c.args.self.now) c.args.self.now.depth c.loop-entry.entry-index c.index.result c.loop-entry.forms c.in_ok-forms.field-0
          c.index.ensures.place low c.loop-entry.invariant.depths (c.in_ok-forms.ensures.depth ∙ c.at-in-loop-entry.ensures.depth);
      made = written_forms (form_at c.args.self.now) c.args.self.now.depth c.loop-entry.entry-index c.index.result c.loop-entry.forms c.in_ok-forms.field-0
          c.index.ensures.place low c.loop-entry.invariant.depths (c.in_ok-forms.ensures.same ∙ c.at-in-loop-entry.ensures.form) c.loop-entry.invariant.made;
    }

pub returns : goal.returns
returns c =
    let depth : c.self.inside.depth ≡ c.args.self.now.depth = ap (λ (f : Forms). f.depth) c.self.view_is in
    same_forms c.self.inside.depth (map form_in c.loop-entry.forms) c.args.self.now c.loop-entry.entry-index (omega arith) depth c.loop-entry.invariant.made

pub invariant_of-result : goal.invariant_of-result
invariant_of-result c = (
  subst IsSound (c.self.view_is ∙ sym (returns c)) c.self.invariant.0,
  c.loop-entry.invariant.depths ∙ ap (λ (f : Forms). replicate 8 f.depth) (sym c.self.view_is),
)
