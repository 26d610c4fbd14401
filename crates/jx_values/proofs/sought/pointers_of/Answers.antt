use Rattle.std.proofs.Common.{refl, ap, sym, ◌∙◌}
use Rattle.std.proofs.lemmas.Result.{IfOk-weaker}
use Rattle.jx_each.specs.declared.content.LineContent.{LineContent}
use Rattle.jx_each.specs.declared.content.LineContent.TheVariants.{Named, NameAlone, Empty}
use Rattle.jx_values.specs.inside.Sought.{sought_of}
use Rattle.jx_values.proofs.Lookups.{sought_always}
use Rattle.jx_values.proofs.sought.pointers_of.Goals as goal

pub returns-in-Named : goal.returns-in-Named
returns-in-Named c =
    IfOk-weaker c.one_pointer.result _ _
    (λ pointers e. e ∙ sym (ap (λ (k : LineContent). sought_of k c.args.pointer.now) c.in-Named.is ∙ sought_always Named c.args.pointer.now refl))
    c.one_pointer.ensures

pub returns-in-NameAlone : goal.returns-in-NameAlone
returns-in-NameAlone c =
    IfOk-weaker c.one_pointer-in-NameAlone.result _ _
    (λ pointers e. e ∙ sym (ap (λ (k : LineContent). sought_of k c.args.pointer.now) c.in-NameAlone.is ∙ sought_always NameAlone c.args.pointer.now refl))
    c.one_pointer-in-NameAlone.ensures

pub returns-in-Empty : goal.returns-in-Empty
returns-in-Empty c =
    IfOk-weaker c.one_pointer-in-Empty.result _ _
    (λ pointers e. e ∙ sym (ap (λ (k : LineContent). sought_of k c.args.pointer.now) c.in-Empty.is ∙ sought_always Empty c.args.pointer.now refl))
    c.one_pointer-in-Empty.ensures
