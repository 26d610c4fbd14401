use Rattle.std.proofs.Common.{refl, subst, sym, ◌∙◌}
use Rattle.jx_reduce.specs.Fits.{Fits, GoesOn}
use Rattle.jx_reduce.specs.Offsets.{OffsetsIn}
use Rattle.jx_reduce.specs.Parts.{form_of_parts}
use Rattle.jx_reduce.specs.inside.Checked.{IsIn}
use Rattle.jx_reduce.specs.declared.forms.checks.Bound.TheVariants.{Above}
use Rattle.jx_reduce.proofs.OfParts.{of_sound, sound_of}
use Rattle.jx_reduce.proofs.forms.structure.Rest.of_parts.Goals as goal

pub returns-then-not-lie_in-clause-sound : goal.returns-then-not-lie_in-clause-sound
returns-then-not-lie_in-clause-sound c =
    let p = c.args.parts in (
      λ e. cc,
      λ h. sym c.if-not-lie_in.true
          ∙ c.lie_in.ensures.1 (subst (OffsetsIn (IsIn (Above p.mark.at))) (sym c.levels-levels.ensures) (sound_of c.args.depth c.args.string p.mark (form_of_parts p.tail) h).offsets),
    )

pub returns-clause-sound : goal.returns-clause-sound
returns-clause-sound c =
    let p = c.args.parts in
    let kept = subst (λ r. Fits c.args.depth r × GoesOn r) c.levels-levels.ensures (c.in_ok-tail.ensures.sound.0 refl) in (
      λ e. of_sound c.args.depth c.args.string p.mark (form_of_parts p.tail) (record {
        rising = c.stands_behind.ensures.0 c.if-not-stands_behind.false;
        offsets = subst (OffsetsIn (IsIn (Above p.mark.at))) c.levels-levels.ensures (c.lie_in.ensures.0 c.if-not-lie_in.false);
        fits = kept.0;
        goes_on = kept.1;
      }),
      λ h. refl,
    )
