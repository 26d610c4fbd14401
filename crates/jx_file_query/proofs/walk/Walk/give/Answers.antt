use Rattle.std.proofs.Common.{◌≡◌, List, Some, ap, refl, subst, sym, ◌∙◌}
use Rattle.std.specs.Prelude.{slice_range}
use Rattle.jx_summary.specs.declared.span.Span.{Span}
use Rattle.jx_index.specs.declared.trie.Edge.{Edge}
use Rattle.jx_file_query.specs.HeldAt.{IsHeldAt}
use Rattle.jx_file_query.specs.Walk.{HasNamesOf, needed}
use Rattle.jx_file_query.proofs.WalkComings.{none_got, some_got}
use Rattle.jx_file_query.proofs.walk.Walk.give.Goals as goal

pub returns-then-not-is_kept-clause-changed : goal.returns-then-not-is_kept-clause-changed
returns-then-not-is_kept-clause-changed c = λ span e.
    let w = c.args.self.now in
    let same : c.in-Some.span ≡ span = cc in
    let here : needed w ≡ Some c.in-Some.span = sym c.needs.ensures.needed ∙ c.in-Some.is in (
      refl,
      here ∙ ap (λ (s : Span). Some s) same,
      λ settings chunk text pointers come are.
          c.is_kept.ensures.other c.if-not-is_kept.true settings chunk text come.known.indexed here
          (are ∙ ap (λ (s : Span). slice_range text s.start s.end) (sym same)),
    )

pub returns-in_default-read-clause-damaged : goal.returns-in_default-read-clause-damaged
returns-in_default-read-clause-damaged c = λ e.
    let w = c.args.self.now in
    let here : needed w ≡ Some c.in-Some.span = sym c.needs.ensures.needed ∙ c.in-Some.is in (
      c.take-held.ensures.after,
      λ settings chunk text pointers come apart.
          none_got c.in_ok-read.read _ c.in_default-read.is c.in_ok-read.ensures.none come.kept (c.take-held.ensures.value ∙ come.kept_is) settings chunk text come.known
          (apart c.in-Some.span here (c.is_kept.ensures.same c.if-not-is_kept.false settings chunk text come.known.indexed here))
          (subst (λ (es : List Edge). IsHeldAt settings chunk text es w.at come.kept) (sym c.deref.ensures.value) come.held),
    )

pub returns-clause-come : goal.returns-clause-come
returns-clause-come c = λ settings chunk text pointers come apart.
    let w = c.args.self.now in
    let here : needed w ≡ Some c.in-Some.span = sym c.needs.ensures.needed ∙ c.in-Some.is in
    let are = apart c.in-Some.span here (c.is_kept.ensures.same c.if-not-is_kept.false settings chunk text come.known.indexed here) in
    let reached = c.in-Some-read.reached in
    let edges : c.deref.result.now ≡ w.edges.items = c.deref.ensures.value in
    record {
      known = come.known;
      pointers_are = come.pointers_are;
      trie = come.trie;
      ways = come.ways;
      names = come.names;
      kept = reached.held;
      kept_is = refl;
      held =
          subst (λ (es : List Edge). IsHeldAt settings chunk text es reached.at reached.held) edges
          (some_got c.in_ok-read.read _ reached c.in-Some-read.is c.in_ok-read.ensures.held come.kept (c.take-held.ensures.value ∙ come.kept_is) settings chunk text come.known are
          (subst (λ (es : List Edge). HasNamesOf settings chunk text es w.names) (sym edges) come.names)
          (subst (λ (es : List Edge). IsHeldAt settings chunk text es w.at come.kept) (sym edges) come.held));
    }
