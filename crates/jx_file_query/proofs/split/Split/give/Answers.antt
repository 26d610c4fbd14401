use Rattle.std.proofs.Common.{◌≡◌, Some, ap, refl, sym, ◌∙◌}
use Rattle.std.specs.Prelude.{slice_range}
use Rattle.jx_summary.specs.declared.span.Span.{Span}
use Rattle.jx_file_query.proofs.WalkComings.{none_got, some_got}
use Rattle.jx_file_query.specs.Split.{needed}
use Rattle.jx_file_query.proofs.Needs.{needs_chunk}
use Rattle.jx_file_query.proofs.split.Split.give.Goals as goal

pub returns-then-not-is_kept-clause-changed : goal.returns-then-not-is_kept-clause-changed
returns-then-not-is_kept-clause-changed c = λ span e.
    let s = c.args.self.now in
    let same : c.in-Some.span ≡ span = cc in
    let needs : needed s ≡ Some c.in-Some.span = sym c.needs.ensures.needed ∙ c.in-Some.is in
    let here = needs_chunk s c.in-Some.span needs in (
      refl,
      needs ∙ ap (λ (x : Span). Some x) same,
      λ settings chunk text come are.
          c.is_kept.ensures.other c.if-not-is_kept.true settings chunk text come.known.indexed here
          (are ∙ ap (λ (x : Span). slice_range text x.start x.end) (sym same)),
    )

pub returns-in_default-read-clause-damaged : goal.returns-in_default-read-clause-damaged
returns-in_default-read-clause-damaged c = λ e.
    let s = c.args.self.now in
    let needs : needed s ≡ Some c.in-Some.span = sym c.needs.ensures.needed ∙ c.in-Some.is in
    let here = needs_chunk s c.in-Some.span needs in (
      c.take-held.ensures.after,
      λ settings chunk text come apart.
          none_got c.in_ok-read.read _ c.in_default-read.is c.in_ok-read.ensures.none settings chunk text come.known
          (apart c.in-Some.span needs (c.is_kept.ensures.same c.if-not-is_kept.false settings chunk text come.known.indexed here)),
    )

pub returns-clause-come : goal.returns-clause-come
returns-clause-come c = λ settings chunk text come apart.
    let s = c.args.self.now in
    let needs : needed s ≡ Some c.in-Some.span = sym c.needs.ensures.needed ∙ c.in-Some.is in
    let here = needs_chunk s c.in-Some.span needs in
    let are = apart c.in-Some.span needs (c.is_kept.ensures.same c.if-not-is_kept.false settings chunk text come.known.indexed here) in
    let reached = c.in-Some-read.reached in
    record {
      known = come.known;
      kept = reached.held;
      kept_is = refl;
      cut = some_got c.in_ok-read.read _ reached c.in-Some-read.is c.in_ok-read.ensures.cut come.kept (c.take-held.ensures.value ∙ come.kept_is) settings chunk text come.known are come.cut;
    }
