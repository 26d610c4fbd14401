use Rattle.std.proofs.Common.{sym, subst, ◌∙◌}
use Rattle.jx_run.specs.Settings.{IsDocumentBy}
use Rattle.jx_each.specs.Each.{EachValue, HasTakenBy}
use Rattle.jx_each.specs.declared.content.LineContent.TheVariants.{Alone}
use Rattle.jx_each.specs.inside.Paths.{path_of}
use Rattle.jx_each.proofs.Taking.{root_is}
use Rattle.jx_each.proofs.each.Each.is_container.Goals as goal

pub returns-in-Some : goal.returns-in-Some
returns-in-Some c = λ pointer bytes given tree h d.
    c.has_begun.ensures
    ∙ root_is {content = Alone} (record { reader = c.self.inside.reader; path = path_of c.self.inside.target.path.items; content = c.self.inside.target.content; stand = c.self.inside.stand; ready = c.self.inside.ready.items; part = c.self.inside.part.items }) c.in-Some.stand pointer bytes given tree c.in-Some.is
    (subst (λ (v : EachValue). HasTakenBy Alone pointer bytes given v) (sym c.self.view_is) h)
    (subst (λ (v : EachValue). IsDocumentBy v.reader.settings 0 bytes tree) (sym c.self.view_is) d)
