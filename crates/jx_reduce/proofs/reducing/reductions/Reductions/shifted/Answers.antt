use Rattle.std.proofs.Common.{◌≡◌, ℕ, ◌++◌, List, length, ◌-◌, ◌^◌, ◌<◌, ◌≤◌, get_or, set, take, drop, map, refl, sym, ◌∙◌, subst, ap, arith}
use Rattle.std.proofs.lemmas.List.{get_or-map, length-map, map-set}
use Rattle.std.proofs.lemmas.List.Edits.{map_over_more}
use Rattle.jx_reduce.specs.Form.{Form}
use Rattle.jx_reduce.specs.Reduced.{depth_of, form_in}
use Rattle.jx_reduce.specs.Reductions.{Forms, form_at, answer, IsSound, SpansIn}
use Rattle.jx_reduce.specs.Shift.{shifted}
use Rattle.jx_reduce.specs.declared.table.expect.Expect.{Expect}
use Rattle.jx_reduce.specs.declared.table.holder.Holder.{Holder}
use Rattle.jx_reduce.specs.declared.reducing.reduced.Reduced.{Reduced}
use Rattle.jx_reduce.specs.inside.Shifted.{shifted_form}
use Rattle.jx_reduce.specs.inside.View.{forms_of, AreOfDepth}
use Rattle.jx_reduce.specs.declared.reducing.reductions.Reductions.TheInside.{Inside}
use Rattle.jx_reduce.proofs.EachInPlace.{map_kept, map_over_all}
use Rattle.jx_reduce.proofs.Places.{count_of, each_changed}
use Rattle.jx_reduce.proofs.Readings.{OffsetsIn_more}
use Rattle.jx_reduce.proofs.Shifts.{IsShifted, answer-shifted, sound-shifted, spans-shifted}
use Rattle.jx_reduce.proofs.reducing.reductions.Reductions.shifted.Goals as goal

-- each of the forms is moved, where the first n are and there are no more
moved : (b : ℕ) (self : Forms) (l : Inside) (rs : List Reduced) (n : ℕ) → forms_of l ≡ self → SpansIn 0 (2 ^ 64 - b) self → AreOfDepth l → 8 ≤ n
    → map form_in rs ≡ map (shifted_form b) (take n (map form_in l.forms)) ++ drop n (map form_in l.forms) → IsShifted b (forms_of l) (forms_of (record { depth = l.depth; forms = rs }))
moved b self l rs n view low eight all e =
    let long : length (map form_in l.forms) ≡ 8 = length-map l.forms form_in ∙ count_of l.depth l.forms eight in
    record {
      depth = refl;
      fits = λ x. OffsetsIn_more (λ p. (0 ≤ p) × (p < 2 ^ 64 - b)) (λ p. p < 2 ^ 64 - b) (form_at (forms_of l) x) (λ p h. h.1) (subst (SpansIn 0 (2 ^ 64 - b)) (sym view) low x);
      each = each_changed l.depth l.depth (shifted_form b) (map form_in l.forms) (map form_in rs) long
          (map_over_all (shifted_form b) (map form_in l.forms) (map form_in rs) n (omega (arith, all, long)) e);
    }

answers_so : (b : ℕ) (f self g : Forms) → f ≡ self → IsShifted b f g → IsSound f → (e : Expect) (s : List Holder) → length s ≤ self.depth → answer g e s ≡ shifted b (answer self e s)
answers_so b f self g view h sound e s short =
    answer-shifted b f g h sound e s (subst (λ (v : Forms). length s ≤ v.depth) (sym view) short) ∙ ap (λ (v : Forms). shifted b (answer v e s)) view

pub loop-form-preserved : goal.loop-form-preserved
loop-form-preserved c =
    let low : c.loop-form.form-index < length c.loop-form.form-items = omega arith in
    let form = get_or c.loop-form.form-items c.loop-form.form-index c.form-item.result in
    let long = ap length c.loop-form.invariant.depths in
    record {
      depths = map_kept depth_of c.loop-form.form-items c.loop-form.form-index c.form-item.result _ low c.shift.ensures.depth ∙ c.loop-form.invariant.depths;
      forms =
          map-set form_in c.loop-form.form-items c.loop-form.form-index _
          ∙ ap (λ (f : Form). set (map form_in c.loop-form.form-items) c.loop-form.form-index f) c.shift.ensures.form
          ∙ map_over_more (shifted_form c.args.by) (map form_in c.self.inside.forms) (map form_in c.loop-form.form-items)
          c.loop-form.form-index (form_in form)
          (omega (arith, low, length-map c.self.inside.forms form_in, length-map c.self.inside.forms depth_of, length-map c.loop-form.form-items depth_of, long)) c.loop-form.invariant.forms
          (sym (get_or-map form_in c.loop-form.form-items c.loop-form.form-index c.form-item.result (form_in form) low));
    }

pub invariant_of-result : goal.invariant_of-result
invariant_of-result c = (
  sound-shifted c.args.by (forms_of c.self.inside) _
      (moved c.args.by c.args.self c.self.inside c.loop-form.form-items c.loop-form.form-index c.self.view_is c.requires.fits c.self.invariant.1 (omega arith) c.loop-form.invariant.forms)
      c.self.invariant.0,
  c.loop-form.invariant.depths ∙ c.self.invariant.1,
)

pub returns-clause-answers : goal.returns-clause-answers
returns-clause-answers c = λ e s short.
    answers_so c.args.by (forms_of c.self.inside) c.args.self _ c.self.view_is
    (moved c.args.by c.args.self c.self.inside c.loop-form.form-items c.loop-form.form-index c.self.view_is c.requires.fits c.self.invariant.1 (omega arith) c.loop-form.invariant.forms)
    c.self.invariant.0 e s short

pub returns-clause-offsets : goal.returns-clause-offsets
returns-clause-offsets c = λ low high a.
    spans-shifted c.args.by (forms_of c.self.inside) _
    (moved c.args.by c.args.self c.self.inside c.loop-form.form-items c.loop-form.form-index c.self.view_is c.requires.fits c.self.invariant.1 (omega arith) c.loop-form.invariant.forms)
    low high (subst (SpansIn low high) (sym c.self.view_is) a)
