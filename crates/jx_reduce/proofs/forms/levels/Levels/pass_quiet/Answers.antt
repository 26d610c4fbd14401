use Rattle.std.proofs.Common.{◌∷◌, Some, ap, ◌∙◌, arith}
use Rattle.std.specs.Prelude.{reverse}
use Rattle.std.proofs.lemmas.List.{length-reverse}
use Rattle.jx_reduce.specs.Levels.{form_of}
use Rattle.jx_reduce.specs.inside.Quiet.{standing}
use Rattle.jx_reduce.specs.Table.{change_of}
use Rattle.jx_reduce.specs.declared.table.holder.Holder.TheVariants.{Array, Object}
use Rattle.jx_reduce.specs.declared.forms.levels.Levels.{Levels}
use Rattle.jx_reduce.specs.declared.forms.quiet.Limits.{Limits}
use Rattle.jx_reduce.proofs.QuietMarks.{is_same, is_removed, reversed, popped, pushed-same, pushed-added, pushed-removed, passed}
use Rattle.jx_reduce.proofs.forms.levels.Levels.pass_quiet.Goals as goal
use Rattle.jx_reduce.proofs.forms.levels.Levels.pass_quiet.Goals.{in-OpenArray+else-not-enter, in-OpenObject+else-not-enter-2, in-CloseArray+else-is_none, in_default-kind}

pub returns-clause-read : goal.returns-clause-read
returns-clause-read c taken d fits on lim =
    let old = c.args.self.now in
    let r = form_of old in
    let l = c.args.limits.now in
    let x = c.in-Some.entry in
    let m = c.args.mark in
    let quiet = rw c.faults.ensures at c.if-faults-limits-ne0.false in
    let exit = ap Some c.lead.ensures in
    elim c.match-mark.branch [
      | in-OpenArray+else-not-enter w ↦
          let e = w.enter.ensures.entered w.if-not-enter.false in
          passed d r x l m c.in-Some.is fits on lim quiet _ _ (Array ∷ r.opens)
          (ap (λ (v : Levels). v.ended.items) w.self-is) (ap (λ (v : Levels). v.last) w.self-is)
          (ap (λ (v : Levels). reverse v.opens.items) w.self-is ∙ reversed old.opens.items w.enter.new.opens.items Array e.0)
          exit (ap (λ (v : Levels). v.heights.items) w.self-is)
          (pushed-added d r x l m c.in-Some.is fits on lim quiet Array (ap change_of w.in-OpenArray.is) (omega (arith, e.1, length-reverse old.opens.items)))
          (ap (λ (k : Limits). k.most) w.limits-is) (ap (λ (k : Limits). k.base) w.limits-is) (ap (λ (k : Limits). k.standing) w.limits-is)
      | in-OpenObject+else-not-enter-2 w ↦
          let e = w.enter-in-OpenObject.ensures.entered w.if-not-enter-2.false in
          passed d r x l m c.in-Some.is fits on lim quiet _ _ (Object ∷ r.opens)
          (ap (λ (v : Levels). v.ended.items) w.self-is) (ap (λ (v : Levels). v.last) w.self-is)
          (ap (λ (v : Levels). reverse v.opens.items) w.self-is ∙ reversed old.opens.items w.enter-in-OpenObject.new.opens.items Object e.0)
          exit (ap (λ (v : Levels). v.heights.items) w.self-is)
          (pushed-added d r x l m c.in-Some.is fits on lim quiet Object (ap change_of w.in-OpenObject.is) (omega (arith, e.1, length-reverse old.opens.items)))
          (ap (λ (k : Limits). k.most) w.limits-is) (ap (λ (k : Limits). k.base) w.limits-is) (ap (λ (k : Limits). k.standing) w.limits-is)
      | in-CloseArray+else-is_none w ↦
          let e = popped old.opens.items w.pop.new.self.items w.pop.result w.pop.ensures.items w.if-is_none.ensures in
          passed d r x l m c.in-Some.is fits on lim quiet _ _ (reverse w.pop.new.self.items)
          (ap (λ (v : Levels). v.ended.items) w.self-is) (ap (λ (v : Levels). v.last) w.self-is)
          (ap (λ (v : Levels). reverse v.opens.items) w.self-is)
          exit (ap (λ (v : Levels). v.heights.items) w.self-is)
          (pushed-removed d r x l m c.in-Some.is fits on lim quiet e.0 (reverse w.pop.new.self.items) e.1 (is_removed _ w.in-CloseArray.is))
          (ap (λ (k : Limits). k.most) w.limits-is) (ap (λ (k : Limits). k.base) w.limits-is)
          (ap (λ (k : Limits). k.standing) w.limits-is ∙ w.standing_in-limits.ensures ∙ ap (λ os. standing l.base (reverse os)) w.deref.ensures.value)
      | in_default-kind w ↦
          passed d r x l m c.in-Some.is fits on lim quiet _ _ r.opens
          (ap (λ (v : Levels). v.ended.items) w.self-is) (ap (λ (v : Levels). v.last) w.self-is)
          (ap (λ (v : Levels). reverse v.opens.items) w.self-is)
          exit (ap (λ (v : Levels). v.heights.items) w.self-is)
          (pushed-same d r x l m c.in-Some.is fits on lim quiet
          (is_same _ w.in_default-kind.not-OpenArray w.in_default-kind.not-OpenObject w.in_default-kind.not-CloseArray w.in_default-kind.not-CloseObject))
          (ap (λ (k : Limits). k.most) w.limits-is) (ap (λ (k : Limits). k.base) w.limits-is) (ap (λ (k : Limits). k.standing) w.limits-is ∙ lim.standing)
    ]
