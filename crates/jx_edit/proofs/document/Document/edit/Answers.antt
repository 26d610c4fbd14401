use Rattle.std.proofs.Common.{arith, ◌∙◌, ◌-◌, ap, List, ℕ}
use Rattle.jx_edit.specs.Document.{edited, DocumentValue}
use Rattle.jx_edit.proofs.Fronts.{edited_at, fronted_behind}
use Rattle.jx_edit.proofs.document.Document.edit.Goals as goal

pub invariant_of-self-2 : goal.invariant_of-self-2
invariant_of-self-2 c =
    fronted_behind c.self.inside.settings c.self.inside.front c.self.inside.rest c.edit.new.self c.args.replacement.now c.args.self.now.bytes c.args.start c.args.end c.skipped-skip.result
    c.self.invariant (ap (λ (d : DocumentValue). d.bytes) c.self.view_is) c.skipped-skip.ensures (omega arith) (omega arith) (omega arith) (omega arith)
    c.in_ok-edit.ensures.depth (c.in_ok-edit.ensures.ok ∙ ap (λ (r : List ℕ). edited (c.args.start - c.skipped-skip.result) (c.args.end - c.skipped-skip.result) r c.self.inside.rest.bytes) c.of.ensures)

pub returns-clause-ok : goal.returns-clause-ok
returns-clause-ok c =
    edited_at c.self.inside.front c.self.inside.rest.bytes c.edit.new.self.bytes c.args.replacement.now c.args.start c.args.end c.skipped-skip.result c.self.invariant.short
    c.skipped-skip.ensures (omega arith) (omega arith) (c.in_ok-edit.ensures.ok ∙ ap (λ (r : List ℕ). edited (c.args.start - c.skipped-skip.result) (c.args.end - c.skipped-skip.result) r c.self.inside.rest.bytes) c.of.ensures)
    ∙ ap (λ (d : DocumentValue). edited c.args.start c.args.end c.args.replacement.now d.bytes) c.self.view_is
