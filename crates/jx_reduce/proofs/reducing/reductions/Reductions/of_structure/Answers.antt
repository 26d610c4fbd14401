use Rattle.std.proofs.Common.{◌≡◌, ℕ, ◌<◌, ◌≤◌, List, length, map, replicate, sym, subst, ◌∙◌, ap, arith}
use Rattle.jx_reduce.specs.Entries.{expect_at}
use Rattle.jx_reduce.specs.Fits.{Fits}
use Rattle.jx_reduce.specs.Form.{Form, acts}
use Rattle.jx_reduce.specs.Marks.{of_nothing}
use Rattle.jx_reduce.specs.Offsets.{OffsetsIn}
use Rattle.jx_reduce.specs.Read.{top}
use Rattle.jx_reduce.specs.Reduced.{form_in}
use Rattle.jx_reduce.specs.Reductions.{Forms, form_at, entry_of, IsSound}
use Rattle.jx_reduce.specs.Reductions as six
use Rattle.jx_reduce.specs.Structure.{StructureValue, answer, SpansIn}
use Rattle.jx_reduce.specs.inside.Structures as inside
use Rattle.jx_reduce.specs.inside.Structures.{followed_by}
use Rattle.jx_reduce.specs.inside.View.{in_order}
use Rattle.jx_reduce.specs.declared.forms.entry.Entry.{Entry}
use Rattle.jx_reduce.specs.declared.table.expect.Expect.{Expect}
use Rattle.jx_reduce.specs.declared.table.holder.Holder.{Holder}
use Rattle.jx_reduce.proofs.Places.{AreMade, in_place, place_low, written_depths, written_forms}
use Rattle.jx_reduce.proofs.Readings.{Fits-of_nothing, OffsetsIn-of_nothing}
use Rattle.jx_reduce.proofs.Sound.{plain_entry}
use Rattle.jx_reduce.proofs.Structures.{acts-from_nothing, Fits-followed, OffsetsIn-followed}
use Rattle.jx_reduce.proofs.reducing.reductions.Reductions.of_structure.Goals as goal

-- the forms of a structure
record FromStructure (f : StructureValue) (g : Forms) : Type 0 where
  depth : g.depth ≡ f.depth
  each : (x : Entry) → form_at g x ≡ followed_by (of_nothing x) f

forms_are : (f : StructureValue) (d : ℕ) (fs : List Form) (n : ℕ) → d ≡ f.depth → 8 ≤ n → AreMade (λ x. followed_by (of_nothing x) f) fs n → FromStructure f (in_order d fs)
forms_are f d fs n depth all made = record { depth = depth; each = λ x. in_place d fs x ∙ made x (omega (arith, place_low x, all)) }

acts_so : (f : StructureValue) (g : Forms) (x : Entry) (s : List Holder) → FromStructure f g → inside.IsSound f → length s ≤ g.depth → acts g.depth (form_at g x) s ≡ answer f (expect_at x (top s)) s
acts_so f g x s from sound short =
    ap (λ d. acts d (form_at g x) s) from.depth
    ∙ ap (λ r. acts f.depth r s) (from.each x)
    ∙ acts-from_nothing f x s sound (subst (λ d. length s ≤ d) from.depth short)

answers_so : (f : StructureValue) (g : Forms) → FromStructure f g → inside.IsSound f → (e : Expect) (s : List Holder) → length s ≤ g.depth → six.answer g e s ≡ answer f e s
answers_so f g from sound e s short = acts_so f g (entry_of e) s from sound short ∙ ap (λ e. answer f e s) (plain_entry e (top s))

sound_so : (f : StructureValue) (g : Forms) → FromStructure f g → inside.IsSound f → IsSound g
sound_so f g from sound =
    record {
      fits = λ x. subst (λ d. Fits d (form_at g x)) (sym from.depth) (subst (Fits f.depth) (sym (from.each x)) (Fits-followed f (of_nothing x) sound (Fits-of_nothing f.depth x)));
      agree = λ x s h. acts_so f g x s from sound h ∙ sym (answers_so f g from sound (expect_at x (top s)) s h);
    }

spans_so : (f : StructureValue) (g : Forms) → FromStructure f g → (low high : ℕ) → SpansIn low high f → six.SpansIn low high g
spans_so f g from low high a x =
    subst (OffsetsIn (λ p. (low ≤ p) × (p < high))) (sym (from.each x))
    (OffsetsIn-followed (λ p. (low ≤ p) × (p < high)) f (of_nothing x) (OffsetsIn-of_nothing (λ p. (low ≤ p) × (p < high)) x) a)

pub loop-entry-preserved : goal.loop-entry-preserved
loop-entry-preserved c =
    let low : c.loop-entry.entry-index < 8 = omega arith in
    record {
      depths = written_depths (λ x. followed_by (of_nothing x) c.args.structure.now) c.args.structure.now.depth c.loop-entry.entry-index c.index.result c.loop-entry.forms c.in_ok-forms.field-0
          c.index.ensures.place low c.loop-entry.invariant.depths c.in_ok-forms.ensures.depth;
      made = written_forms (λ x. followed_by (of_nothing x) c.args.structure.now) c.args.structure.now.depth c.loop-entry.entry-index c.index.result c.loop-entry.forms c.in_ok-forms.field-0
          c.index.ensures.place low c.loop-entry.invariant.depths c.in_ok-forms.ensures.form c.loop-entry.invariant.made;
    }

pub invariant_of-result : goal.invariant_of-result
invariant_of-result c =
    let f = c.args.structure.now in
    let deep : c.structure.inside.depth ≡ f.depth = ap (λ (f : StructureValue). f.depth) c.structure.view_is in (
      sound_so f (in_order c.structure.inside.depth (map form_in c.loop-entry.forms))
          (forms_are f c.structure.inside.depth (map form_in c.loop-entry.forms) c.loop-entry.entry-index deep (omega arith) c.loop-entry.invariant.made)
          (subst inside.IsSound c.structure.view_is c.structure.invariant.0),
      c.loop-entry.invariant.depths ∙ ap (replicate 8) (sym deep),
    )

pub returns-clause-answers : goal.returns-clause-answers
returns-clause-answers c =
    let f = c.args.structure.now in
    let deep : c.structure.inside.depth ≡ f.depth = ap (λ (f : StructureValue). f.depth) c.structure.view_is in
    answers_so f (in_order c.structure.inside.depth (map form_in c.loop-entry.forms))
    (forms_are f c.structure.inside.depth (map form_in c.loop-entry.forms) c.loop-entry.entry-index deep (omega arith) c.loop-entry.invariant.made)
    (subst inside.IsSound c.structure.view_is c.structure.invariant.0)

pub returns-clause-offsets : goal.returns-clause-offsets
returns-clause-offsets c =
    let f = c.args.structure.now in
    let deep : c.structure.inside.depth ≡ f.depth = ap (λ (f : StructureValue). f.depth) c.structure.view_is in
    spans_so f (in_order c.structure.inside.depth (map form_in c.loop-entry.forms))
    (forms_are f c.structure.inside.depth (map form_in c.loop-entry.forms) c.loop-entry.entry-index deep (omega arith) c.loop-entry.invariant.made)
