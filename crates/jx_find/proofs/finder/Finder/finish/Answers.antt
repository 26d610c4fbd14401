use Rattle.std.proofs.Common.{List, ℕ, subst, sym, ◌∙◌}
use Rattle.std.specs.Prelude.{All}
use Rattle.std.proofs.lemmas.Result.{IfErr-weaker, IfOk-weaker}
use Rattle.jx_index.specs.declared.trie.Edge.{Edge}
use Rattle.jx_index.specs.Found.{AreFoundIn}
use Rattle.jx_index.specs.inside.Trie.{HasWay, IsTrie}
use Rattle.jx_find.proofs.Finders.{held_in}
use Rattle.jx_find.proofs.finder.Finder.finish.Goals as goal

pub returns-clause-accepted : goal.returns-clause-accepted
returns-clause-accepted c =
    IfOk-weaker c.answers_behind.result _ _
    (λ read h. IfOk-weaker read _ _ (λ found f settings pointers bytes x.
    f settings bytes (held_in settings pointers bytes c.args.self x c.deref.result.now c.in-Some.held c.deref.ensures.value c.in-Some.is)) h)
    c.answers_behind.ensures.accepted

pub returns-clause-refused : goal.returns-clause-refused
returns-clause-refused c =
    IfOk-weaker c.answers_behind.result _ _
    (λ read h. IfErr-weaker read _ _ (λ refusal f settings pointers bytes x.
    f settings bytes (held_in settings pointers bytes c.args.self x c.deref.result.now c.in-Some.held c.deref.ensures.value c.in-Some.is)) h)
    c.answers_behind.ensures.refused

pub returns-clause-found : goal.returns-clause-found
returns-clause-found c =
    IfOk-weaker c.answers_behind.result _ _
    (λ read h. IfOk-weaker read _ _ (λ found f settings pointers bytes x.
    let edges = c.deref.result.now in
    let same = c.deref.ensures.value in
    let asked = c.deref-3.ensures.value ∙ x.pointers_are in
    let ways = subst (λ (ps : List (List ℕ)). All (λ (p : List ℕ). HasWay edges p) ps) (sym asked) (subst (λ (es : List Edge). All (λ (p : List ℕ). HasWay es p) pointers) (sym same) x.ways) in
    subst (λ (ps : List (List ℕ)). AreFoundIn settings bytes ps found.items) asked
    (f settings bytes (held_in settings pointers bytes c.args.self x edges c.in-Some.held same c.in-Some.is) (subst IsTrie (sym same) x.trie) ways)) h)
    c.answers_behind.ensures.found
