use Rattle.std.proofs.Common.{◌≡◌, List, ◌∷◌, ap, ◌∙◌, sym, arith}
use Rattle.std.specs.Prelude.{reverse}
use Rattle.std.proofs.lemmas.List.{length-reverse}
use Rattle.jx_reduce.specs.Form.{Form}
use Rattle.jx_reduce.specs.Levels.{with_opens}
use Rattle.jx_reduce.specs.inside.Quiet.{standing}
use Rattle.jx_reduce.specs.Table.{change_of}
use Rattle.jx_reduce.specs.declared.forms.entry.Entry.{Entry}
use Rattle.jx_reduce.specs.declared.table.holder.Holder.{Holder}
use Rattle.jx_reduce.specs.declared.table.holder.Holder.TheVariants.{Array, Object}
use Rattle.jx_reduce.proofs.QuietMarks.{is_same, is_removed, reversed, popped, taken-same, taken-added, taken-removed}
use Rattle.jx_reduce.proofs.forms.quiet.pass.Goals as goal
use Rattle.jx_reduce.proofs.forms.quiet.pass.Goals.{in-OpenArray+else-not-enter, in-OpenObject+else-not-enter-2, in-CloseArray+else-is_none, in_default}

there : (r : Form) (os ps : List Holder) (x y : Entry) → ps ≡ os → y ≡ x → with_opens r os x ≡ with_opens r ps y
there r os ps x y e h = cc

pub loop-taken-preserved : goal.loop-taken-preserved
loop-taken-preserved c =
    let quiet = rw (c.faults.ensures, c.loop-taken.invariant.standing) at c.if-faults-standing-ne0.false in
    elim c.match-mark.branch [
      | in-OpenArray+else-not-enter w ↦
          let e = w.enter.ensures.entered w.if-not-enter.false in
          let top : reverse c.match-mark.opens.items ≡ Array ∷ reverse c.loop-taken.opens.items = rw w.opens-is (reversed c.loop-taken.opens.items w.enter.new.opens.items Array e.0) in
          record {
            most = c.loop-taken.invariant.most;
            capacity = rw w.opens-is w.enter.ensures.capacity;
            standing = w.standing-is ∙ sym (ap (standing c.args.base) top);
            same = λ d r from.
                taken-added d r (reverse c.args.opens.now.items) c.args.limit c.args.base c.args.entry from c.args.marks.now c.loop-taken.taken _ c.loop-taken-test.true
                (reverse c.loop-taken.opens.items) c.loop-taken.entry (c.loop-taken.invariant.same d r from) Array (ap change_of w.in-OpenArray.is) quiet
                (omega (arith, e.1, c.loop-taken.invariant.most, length-reverse c.loop-taken.opens.items))
                ∙ there r _ _ _ _ top c.lead-entry.ensures;
          }
      | in-OpenObject+else-not-enter-2 w ↦
          let e = w.enter-in-OpenObject.ensures.entered w.if-not-enter-2.false in
          let top : reverse c.match-mark.opens.items ≡ Object ∷ reverse c.loop-taken.opens.items = rw w.opens-is (reversed c.loop-taken.opens.items w.enter-in-OpenObject.new.opens.items Object e.0) in
          record {
            most = c.loop-taken.invariant.most;
            capacity = rw w.opens-is w.enter-in-OpenObject.ensures.capacity;
            standing = w.standing-is ∙ sym (ap (standing c.args.base) top);
            same = λ d r from.
                taken-added d r (reverse c.args.opens.now.items) c.args.limit c.args.base c.args.entry from c.args.marks.now c.loop-taken.taken _ c.loop-taken-test.true
                (reverse c.loop-taken.opens.items) c.loop-taken.entry (c.loop-taken.invariant.same d r from) Object (ap change_of w.in-OpenObject.is) quiet
                (omega (arith, e.1, c.loop-taken.invariant.most, length-reverse c.loop-taken.opens.items))
                ∙ there r _ _ _ _ top c.lead-entry.ensures;
          }
      | in-CloseArray+else-is_none w ↦
          let e = popped c.loop-taken.opens.items w.pop.new.self.items w.pop.result w.pop.ensures.items w.if-is_none.ensures in
          let rest : reverse c.match-mark.opens.items ≡ reverse w.pop.new.self.items = rw w.opens-is in
          record {
            most = c.loop-taken.invariant.most;
            capacity = rw (w.opens-is, w.pop.ensures.capacity) c.loop-taken.invariant.capacity;
            standing = rw (w.standing-is, w.standing_in-standing-in-CloseArray.ensures, w.deref-in-CloseArray.ensures.value) (sym (ap (standing c.args.base) rest));
            same = λ d r from.
                taken-removed d r (reverse c.args.opens.now.items) c.args.limit c.args.base c.args.entry from c.args.marks.now c.loop-taken.taken _ c.loop-taken-test.true
                (reverse c.loop-taken.opens.items) c.loop-taken.entry (c.loop-taken.invariant.same d r from) e.0 (reverse w.pop.new.self.items) e.1 (is_removed _ w.in-CloseArray.is) quiet
                ∙ there r _ _ _ _ rest c.lead-entry.ensures;
          }
      | in_default w ↦
          let kept : reverse c.match-mark.opens.items ≡ reverse c.loop-taken.opens.items = rw w.opens-is in
          record {
            most = c.loop-taken.invariant.most;
            capacity = rw w.opens-is c.loop-taken.invariant.capacity;
            standing = w.standing-is ∙ c.loop-taken.invariant.standing ∙ sym (ap (standing c.args.base) kept);
            same = λ d r from.
                taken-same d r (reverse c.args.opens.now.items) c.args.limit c.args.base c.args.entry from c.args.marks.now c.loop-taken.taken _ c.loop-taken-test.true
                (reverse c.loop-taken.opens.items) c.loop-taken.entry (c.loop-taken.invariant.same d r from)
                (is_same _ w.in_default.not-OpenArray w.in_default.not-OpenObject w.in_default.not-CloseArray w.in_default.not-CloseObject) quiet
                ∙ there r _ _ _ _ kept c.lead-entry.ensures;
          }
    ]
