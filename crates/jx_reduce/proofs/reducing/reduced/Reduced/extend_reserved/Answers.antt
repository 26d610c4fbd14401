use Rattle.std.proofs.Common.{◌≡◌, ◌<◌, ◌+◌, length, ap, sym, subst, ◌∙◌, Result, Ok, Err, None, false}
use Rattle.std.specs.Prelude.{OnOk, IsOk}
use Rattle.std.proofs.lemmas.List.{length-reverse}
use Rattle.jx_reduce.specs.Form.{Form}
use Rattle.jx_reduce.specs.Fits.{Fits}
use Rattle.jx_reduce.specs.Join.{joined, all_faulted}
use Rattle.jx_reduce.specs.Levels.{form_of, borrowed_form, HasRoom, HasRoomOf}
use Rattle.jx_reduce.specs.declared.forms.levels.Levels.{Levels}
use Rattle.jx_reduce.specs.declared.forms.form_ref.FormRef.{FormRef}
use Rattle.jx_reduce.specs.inside.Quiet.{GoesOn}
use Rattle.jx_reduce.proofs.Bounds.{Fits-joined}
use Rattle.jx_reduce.proofs.Exits.{GoesOn-joined}
use Rattle.jx_reduce.proofs.reducing.reduced.Reduced.extend_reserved.Goals as goal

on_ok : {T E : Type 0} (r : Result T E) (P : Type 0) → OnOk r P → IsOk r → P
on_ok (Ok x) P h i = h
on_ok (Err e) P h i = cc

room_of : (l : Levels) (p : FormRef) (r : Form) → borrowed_form p ≡ r → HasRoomOf l r → HasRoom l p
room_of l p r e h = let g : HasRoomOf l (borrowed_form p) = subst (HasRoomOf l) (sym e) h in
    record { ended = g.ended; opens = rw length-reverse at g.opens; heights = g.heights }

pub invariant_of-self : goal.invariant_of-self
invariant_of-self c =
    let is : form_of c.extend.new.self ≡ joined c.containers.result (form_of c.args.self.now.levels) (borrowed_form c.borrowed.result)
    = on_ok c.extend.result _ c.extend.ensures.ok (c.extend.ensures.succeeds (room_of c.args.self.now.levels c.borrowed.result (form_of c.args.right.now.levels) c.borrowed.ensures c.requires.room)) in
    record {
      fits = subst (Fits c.args.self.now.depth) (sym (is ∙ ap (λ d. joined d (form_of c.args.self.now.levels) (borrowed_form c.borrowed.result)) c.containers.ensures.value ∙ ap (joined c.args.self.now.depth (form_of c.args.self.now.levels)) c.borrowed.ensures))
          (Fits-joined c.args.self.now.depth (form_of c.args.self.now.levels) (form_of c.args.right.now.levels) c.args.self.now.fits c.args.right.now.fits.risen
          (subst (λ d. (form_of c.args.right.now.levels).exit ≡ None → all_faulted (form_of c.args.right.now.levels).last ≡ false → d < length (form_of c.args.right.now.levels).ended + length (form_of c.args.right.now.levels).heights) (sym c.requires.depth) c.args.right.now.fits.decided));
      goes_on = subst GoesOn (sym is) (GoesOn-joined c.containers.result (form_of c.args.self.now.levels) (borrowed_form c.borrowed.result));
    }
