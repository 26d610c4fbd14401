use Rattle.std.proofs.Common.{◌≡◌, ◌∙◌, List, ℕ, ap, sym}
use Rattle.std.specs.Prelude.{Some}
use Rattle.jx_serve.specs.Served.{number_named}
use Rattle.jx_serve.proofs.Documents.{changed_at, changed_untold, is_changed}
use Rattle.jx_serve.proofs.server.Server.change.Goals as goal

pub returns-in-Ok-clause-steps : goal.returns-in-Ok-clause-steps
returns-in-Ok-clause-steps c =
    let documents = c.args.self.now.documents in
    let found : number_named c.args.document.uri.name.items documents ≡ Some c.in-Some.number =
    sym (c.number_of.ensures.first ∙ ap (λ (l : List ℕ). number_named l documents) c.deref.ensures.value) ∙ c.in-Some.is in
    is_changed c.args.document c.args.changes.now c.args.self.now c.publish.new.self c.publish.result c.in-Some.number found
    (changed_at c.in-Some.number c.args.document.version c.args.changes.now c.args.self.now c.change_at.new.self c.publish.new.self c.publish.result c.change_at.ensures.made c.change_at.ensures.alone
    c.in-Some.ensures.within c.publish.ensures.same c.publish.ensures.told)

pub returns-clause-steps : goal.returns-clause-steps
returns-clause-steps c =
    let documents = c.args.self.now.documents in
    let found : number_named c.args.document.uri.name.items documents ≡ Some c.in-Some.number =
    sym (c.number_of.ensures.first ∙ ap (λ (l : List ℕ). number_named l documents) c.deref.ensures.value) ∙ c.in-Some.is in
    is_changed c.args.document c.args.changes.now c.args.self.now c.change_at.new.self c.logged-in-Err.result c.in-Some.number found
    (changed_untold c.in-Some.number c.args.document.version c.args.changes.now c.args.self.now c.change_at.new.self c.logged-in-Err.result c.change_at.ensures.made c.change_at.ensures.alone
    c.logged-in-Err.ensures.same)
