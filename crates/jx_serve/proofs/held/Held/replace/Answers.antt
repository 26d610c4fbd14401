use Rattle.std.proofs.Common.{◌≡◌, ◌≤◌, ◌+◌, ◌∙◌, arith, length, subst, sym, List, ℕ}
use Rattle.jx_edit.specs.Document.{DocumentValue}
use Rattle.jx_serve.specs.inside.LineTables.{IsTable}
use Rattle.jx_serve.proofs.LineTables.{table_edited}
use Rattle.jx_serve.proofs.held.Held.replace.Goals as goal

pub invariant_of-self-in-Ok : goal.invariant_of-self-in-Ok
invariant_of-self-in-Ok c =
    let depth : ℕ = c.self.inside.settings.depth in
    let bytes : List ℕ = c.self.inside.document.bytes in
    let len = c.len.ensures in
    let long : length bytes ≡ c.len.result = sym c.len.ensures in
    let far = c.open.ensures.behind in
    let within : c.args.end + c.open.new.self.behind ≤ length bytes = omega (arith, far, len) in
    let order : c.args.start ≤ c.args.end = omega arith in (
      c.in-Ok.ensures.settings ∙ c.self.invariant.0,
      table_edited depth bytes c.edit.new.self.bytes c.args.text.now c.open.new.self c.args.start c.args.end c.open.ensures.before order within c.in-Ok.ensures.ok
          (c.open.ensures.table depth bytes long c.self.invariant.1),
    )

pub invariant_of-self-in-Err-Memory : goal.invariant_of-self-in-Err-Memory
invariant_of-self-in-Err-Memory c =
    let depth : ℕ = c.self.inside.settings.depth in
    let bytes : List ℕ = c.self.inside.document.bytes in
    let long : length bytes ≡ c.len.result = sym c.len.ensures in (
      c.in-Err-Memory.ensures.settings ∙ c.self.invariant.0,
      subst (λ (d : DocumentValue). IsTable depth d.bytes c.open.new.self) (sym c.in-Err-Memory.ensures.err) (c.open.ensures.table depth bytes long c.self.invariant.1),
    )
