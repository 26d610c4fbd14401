use Rattle.std.proofs.Common.{◌≡◌, List, ap, set}
use Rattle.std.proofs.lemmas.List.{set-get_or}
use Rattle.jx_serve.specs.Served.{OpenValue, ServerValue}
use Rattle.jx_serve.proofs.server.Server.folds.Goals as goal

pub returns-in-Some-clause-same : goal.returns-in-Some-clause-same
returns-in-Some-clause-same c =
    let documents : set c.self.inside.documents.items c.in-Some.number c.folded.new.self ≡ c.self.inside.documents.items =
    cc (set-get_or c.self.inside.documents.items c.in-Some.number c.index_mut.result.now, c.index_mut.ensures.value, c.folded.ensures.same) in
    let view = λ (l : List OpenValue). let s : ServerValue = record { phase = c.self.inside.phase; encoding = c.self.inside.encoding; settings = c.self.inside.settings; nested = c.self.inside.nested; documents = l } in s in
    cc (ap view documents, c.self.view_is)
