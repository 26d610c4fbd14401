use Rattle.std.proofs.Common.{ap, sym, ◌∙◌}
use Rattle.jx_index.specs.Leads.{leads}
use Rattle.jx_index.specs.Pointers.{tokens}
use Rattle.jx_serve.proofs.pointer_to.pointer_to.Goals as goal

pub returns-then-led : goal.returns-then-led
returns-then-led c = λ tree number d at.
    ap (λ x. leads c.args.text.now tree (tokens x)) (sym c.deref.ensures.value) ∙ c.in_ok-led.ensures c.if-led.true tree number d at
