use Rattle.std.proofs.Common.{◌≡◌, ◌+◌, ◌<◌, ℕ, List, Some, ap, arith, length, subst, sym, ◌∙◌}
use Rattle.std.specs.Prelude.{All}
use Rattle.jx_run.specs.Telling.{tokens_by}
use Rattle.jx_index.specs.declared.trie.Edge.{Edge}
use Rattle.jx_index.specs.Found.{AreFoundIn}
use Rattle.jx_index.specs.inside.Finding.{nothing_met}
use Rattle.jx_index.specs.inside.Trie.{HasWay, IsTrie, seek_all}
use Rattle.jx_find.specs.declared.held.Sought.{Sought}
use Rattle.jx_find.specs.Held.{IsHeld}
use Rattle.jx_file_query.specs.HeldAt.{IsHeldAt}
use Rattle.jx_file_query.proofs.Endings.{none_held}
use Rattle.jx_file_query.proofs.Walks.{any_names, found_named, held_last, judged_named}
use Rattle.jx_file_query.proofs.walk.Walk.answers.Goals as goal

pub returns-then-not-is_whole-clause-damaged : goal.returns-then-not-is_whole-clause-damaged
returns-then-not-is_whole-clause-damaged c = λ settings chunk text pointers come.
    let w = c.args.self in
    let held = c.in-Some.held in
    let both : Some come.kept ≡ Some held = sym come.kept_is ∙ c.in-Some.is in
    let same : come.kept ≡ held = cc in
    let at_last = held_last settings chunk text w.index.now w.edges.items w.at held come.known c.requires.all (subst (λ (h : Sought). IsHeldAt settings chunk text w.edges.items w.at h) same come.held) in
    let none = none_held c.reader_and_grammar.ensures.by_settings c.unique_verdict_by_settings.ensures.one_verdict c.skipped_parts.ensures.held settings chunk text w.index.now w.edges.items held come.known at_last in
    let skipped = none.0 in
    let opened = none.1 in
    let some : 0 < length held.state.opened.items + held.state.skipped = c.is_whole.ensures.other c.if-not-is_whole.true in
    omega (arith, skipped, opened, some)

pub returns-clause-found : goal.returns-clause-found
returns-clause-found c = λ settings chunk text pointers come.
    let w = c.args.self in
    let track = tokens_by settings.mark text in
    let held = c.in-Some.held in
    let both : Some come.kept ≡ Some held = sym come.kept_is ∙ c.in-Some.is in
    let same : come.kept ≡ held = cc in
    let here = c.deref.result.now in
    let there = c.deref-3.result.now in
    let is_here : here ≡ w.edges.items = c.deref.ensures.value in
    let is_there : there ≡ w.edges.items = c.deref-3.ensures.value in
    let at_last : IsHeld text w.edges.items track.marks track.ends held.state held.next held.begun held.name.items =
    held_last settings chunk text w.index.now w.edges.items w.at held come.known c.requires.all (subst (λ (h : Sought). IsHeldAt settings chunk text w.edges.items w.at h) same come.held) in
    let met = c.in_ok-met.ensures text track.marks track.ends come.known.indexed.size_is
    (subst (λ (es : List Edge). IsHeld text es track.marks track.ends held.state held.next held.begun held.name.items) (sym is_here) at_last) in
    let met_is : c.deref-5.result.now ≡ (seek_all text there (length text) track.marks track.ends (nothing_met (length there))).met =
    c.deref-5.ensures.value ∙ met
    ∙ ap (λ (es : List Edge). (seek_all text es (length text) track.marks track.ends (nothing_met (length es))).met) (is_here ∙ sym is_there) in
    let asked_are : c.deref-6.result.now ≡ pointers = c.deref-6.ensures.value ∙ come.pointers_are in
    let ways : All (λ (p : List ℕ). HasWay there p) c.deref-6.result.now =
    subst (λ (ps : List (List ℕ)). All (λ (p : List ℕ). HasWay there p) ps) (sym asked_are)
    (subst (λ (es : List Edge). All (λ (p : List ℕ). HasWay es p) pointers) (sym is_there) come.ways) in
    found_named settings text pointers c.in_ok-found.found.items
    (subst (λ (ps : List (List ℕ)). AreFoundIn (any_names settings) text ps c.in_ok-found.found.items) asked_are
    (c.in_ok-found.ensures (any_names settings) text (subst IsTrie (sym is_there) come.trie) ways (judged_named settings text come.known.indexed.accepted) met_is))
