use Rattle.std.proofs.Common.{◌≡◌, ◌+◌, ℕ, List, take, sym, ◌∙◌, ap, subst, arith, length-drop}
use Rattle.std.proofs.lemmas.List.{take_all, take_rest}
use Rattle.jx_reduce.specs.Fits.{Fits}
use Rattle.jx_reduce.specs.Form.{Form}
use Rattle.jx_reduce.specs.Levels.{form_of}
use Rattle.jx_reduce.specs.Marks.{of_marks}
use Rattle.jx_reduce.specs.inside.Quiet.{GoesOn}
use Rattle.jx_lex.specs.declared.alphabet.mark.Mark.{Mark}
use Rattle.jx_reduce.proofs.Exits.{GoesOn-of_marks}
use Rattle.jx_reduce.proofs.Readings.{Fits-of_marks, none_of, of_more, of_one_more, of_no_more}
use Rattle.jx_reduce.proofs.forms.levels.Levels.read_on.Goals as goal
use Rattle.jx_reduce.proofs.forms.levels.Levels.read_on.Goals.{then-loop-done-test+else-is_some, else-loop-done-test}

-- what goes on with marks is within the depth, and goes on for some holder
fits_so : (d : ℕ) (r : Form) (ms : List Mark) (f : Form) → Fits d r → f ≡ of_marks d r ms → Fits d f
fits_so d r ms f h e = subst (Fits d) (sym e) (Fits-of_marks d r ms h)

goes_on_so : (d : ℕ) (r : Form) (ms : List Mark) (f : Form) → GoesOn r → f ≡ of_marks d r ms → GoesOn f
goes_on_so d r ms f h e = subst GoesOn (sym e) (GoesOn-of_marks d r ms h)

pub read_quiet-done-requires-clause-fits : goal.read_quiet-done-requires-clause-fits
read_quiet-done-requires-clause-fits c = fits_so c.args.depth (form_of c.args.self) (take c.loop-done.done c.args.marks.now) (form_of c.loop-done.levels) c.requires.fits c.loop-done.invariant.same

pub read_quiet-done-requires-clause-goes_on : goal.read_quiet-done-requires-clause-goes_on
read_quiet-done-requires-clause-goes_on c = goes_on_so c.args.depth (form_of c.args.self) (take c.loop-done.done c.args.marks.now) (form_of c.loop-done.levels) c.requires.goes_on c.loop-done.invariant.same

pub push-requires-clause-fits : goal.push-requires-clause-fits
push-requires-clause-fits c =
    fits_so c.args.depth (form_of c.args.self) (take (c.loop-done.done + c.read_quiet-done.result) c.args.marks.now) (form_of c.read_quiet-done.new.self) c.requires.fits
    (of_more c.args.depth (form_of c.args.self) c.args.marks.now c.loop-done.done c.read_quiet-done.result (form_of c.loop-done.levels) (form_of c.read_quiet-done.new.self) c.loop-done.invariant.same c.read_quiet-done.ensures.form)

pub loop-done-preserved-then-done-marks : goal.loop-done-preserved-then-done-marks
loop-done-preserved-then-done-marks c =
    record {
      within = omega (arith, c.if-done-marks.true);
      same =
          of_one_more c.args.depth (form_of c.args.self) c.args.marks.now (c.loop-done.done + c.read_quiet-done.result) _ c.if-done-marks.true (form_of c.read_quiet-done.new.self) (form_of c.push.new.self)
          (of_more c.args.depth (form_of c.args.self) c.args.marks.now c.loop-done.done c.read_quiet-done.result (form_of c.loop-done.levels) (form_of c.read_quiet-done.new.self) c.loop-done.invariant.same c.read_quiet-done.ensures.form)
          c.in_ok-push.ensures.ok;
    }

pub loop-done-preserved : goal.loop-done-preserved
loop-done-preserved c =
    let few = rw take_rest at c.read_quiet-done.ensures.within in
    record {
      within = omega (arith, few, c.loop-done.invariant.within, length-drop c.loop-done.done c.args.marks.now);
      same = of_more c.args.depth (form_of c.args.self) c.args.marks.now c.loop-done.done c.read_quiet-done.result (form_of c.loop-done.levels) (form_of c.read_quiet-done.new.self) c.loop-done.invariant.same c.read_quiet-done.ensures.form;
    }

pub returns-clause-form : goal.returns-clause-form
returns-clause-form c = elim c.loop-done-test.branch [
  | then-loop-done-test+else-is_some w ↦
      of_no_more c.args.depth (form_of c.args.self) c.args.marks.now c.loop-done.done (form_of c.loop-done.levels) c.loop-done.invariant.same
      (none_of c.loop-done.levels.exit (sym w.is_some.ensures ∙ w.if-is_some.false))
  | else-loop-done-test w ↦ c.loop-done.invariant.same ∙ ap (of_marks c.args.depth (form_of c.args.self)) (take_all c.loop-done.done c.args.marks.now w.loop-done-test.false)
]

pub returns-clause-fits : goal.returns-clause-fits
returns-clause-fits c = fits_so c.args.depth (form_of c.args.self) (take c.loop-done.done c.args.marks.now) (form_of c.loop-done.levels) c.requires.fits c.loop-done.invariant.same

pub returns-clause-goes_on : goal.returns-clause-goes_on
returns-clause-goes_on c = goes_on_so c.args.depth (form_of c.args.self) (take c.loop-done.done c.args.marks.now) (form_of c.loop-done.levels) c.requires.goes_on c.loop-done.invariant.same
