use Rattle.std.proofs.Common.{ap, sym, ◌∙◌}
use Rattle.std.proofs.lemmas.Result.{IfOk-weaker}
use Rattle.jx_index.specs.Leads.{leads}
use Rattle.jx_index.specs.Pointers.{tokens}
use Rattle.jx_serve.proofs.pointer_to.leads_to.Goals as goal

pub returns : goal.returns
returns c =
    IfOk-weaker c.finds.result _ _
    (λ found h is tree number d at. ap (λ x. leads c.args.text.now tree (tokens x)) (sym (c.in-Ok-read.ensures.same ∙ c.in-Ok.ensures.cases.0)) ∙ h is tree number d at)
    c.finds.ensures
