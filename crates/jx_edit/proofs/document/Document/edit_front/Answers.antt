use Rattle.std.proofs.Common.{arith, ◌∙◌, ◌-◌, ap, List, ℕ, ◌++◌, drop, length}
use Rattle.std.specs.List.{slice_range}
use Rattle.jx_edit.specs.Document.{DocumentValue}
use Rattle.jx_edit.proofs.Fronts.{long, near_text, fronted_near}
use Rattle.jx_edit.proofs.document.Document.edit_front.Goals as goal

pub invariant_of-self-2 : goal.invariant_of-self-2
invariant_of-self-2 c =
    let text = c.args.self.now.bytes in
    let more = c.args.replacement.now in
    let whole = ap (λ (d : DocumentValue). d.bytes) c.self.view_is in
    let is =
    ap (λ (t : List ℕ). (t ++ more) ++ c.deref-2.result.now) (c.deref.ensures.value ∙ c.in_ok-before.ensures)
    ∙ ap (λ (t : List ℕ). (slice_range text 0 c.args.start ++ more) ++ t) (c.deref-2.ensures.value ∙ c.in_ok-behind.ensures) in
    let changed = c.in_ok-edit.ensures.ok ∙ ap (λ (t : List ℕ). t ++ drop (c.min-far.result - c.skipped-skip.result) c.self.inside.rest.bytes) c.without.ensures in
    fronted_near c.self.inside.settings c.self.inside.front c.self.inside.rest more ((c.deref.result.now ++ more) ++ c.deref-2.result.now) text c.args.start c.args.end c.min-far.result
    c.self.invariant whole c.requires.order (omega arith) (omega arith) (λ h. omega arith) is c.in_ok-front.front c.edit.new.self c.skipped-skip.result c.skipped.result
    c.skipped-skip.ensures (omega (arith, long c.self.inside.front c.self.inside.rest.bytes c.self.invariant.short, ap length whole)) c.skipped.ensures
    c.in_ok-front.ensures c.in_ok-edit.ensures.depth changed c.requires.within c.requires.fits

pub returns-clause-ok : goal.returns-clause-ok
returns-clause-ok c =
    let text = c.args.self.now.bytes in
    let more = c.args.replacement.now in
    let whole = ap (λ (d : DocumentValue). d.bytes) c.self.view_is in
    let is =
    ap (λ (t : List ℕ). (t ++ more) ++ c.deref-2.result.now) (c.deref.ensures.value ∙ c.in_ok-before.ensures)
    ∙ ap (λ (t : List ℕ). (slice_range text 0 c.args.start ++ more) ++ t) (c.deref-2.ensures.value ∙ c.in_ok-behind.ensures) in
    let changed = c.in_ok-edit.ensures.ok ∙ ap (λ (t : List ℕ). t ++ drop (c.min-far.result - c.skipped-skip.result) c.self.inside.rest.bytes) c.without.ensures in
    near_text c.self.inside.settings c.self.inside.front c.self.inside.rest more ((c.deref.result.now ++ more) ++ c.deref-2.result.now) text c.args.start c.args.end c.min-far.result
    c.self.invariant whole c.requires.order (omega arith) (omega arith) (λ h. omega arith) is c.in_ok-front.front c.edit.new.self c.skipped-skip.result c.skipped.result
    c.skipped-skip.ensures (omega (arith, long c.self.inside.front c.self.inside.rest.bytes c.self.invariant.short, ap length whole)) c.skipped.ensures
    c.in_ok-front.ensures c.in_ok-edit.ensures.depth changed
