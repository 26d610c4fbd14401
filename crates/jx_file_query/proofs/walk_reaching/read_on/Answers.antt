use Rattle.std.proofs.Common.{◌≡◌, ℕ, Some, subst, sym, ◌∙◌}
use Rattle.jx_find.specs.declared.held.Sought.{Sought}
use Rattle.jx_file_query.specs.HeldAt.{IsHeldAt}
use Rattle.jx_file_query.proofs.WalkComings.{none_got, some_got}
use Rattle.jx_file_query.proofs.walk_reaching.read_on.Goals as goal

pub returns-in_default-read-clause-none : goal.returns-in_default-read-clause-none
returns-in_default-read-clause-none c = λ before is settings chunk text known are was.
    let both : Some before ≡ Some c.in-Some.held = sym is ∙ c.in-Some.is in
    let same : before ≡ c.in-Some.held = cc in
    none_got c.in_ok-read.read _ c.in_default-read.is c.in_ok-read.ensures.none settings chunk text known are (subst (λ (h : Sought). IsHeldAt settings chunk text c.args.edges.now c.args.at h) same was)

pub returns-clause-held : goal.returns-clause-held
returns-clause-held c = λ before is settings chunk text known are names was.
    let both : Some before ≡ Some c.in-Some.held = sym is ∙ c.in-Some.is in
    let same : before ≡ c.in-Some.held = cc in
    let edges = c.args.edges.now in
    let later = c.in_ok-later.ensures in
    let reaches = c.pass_on-reached.ensures.held settings chunk text known in
    reaches names
    (subst (λ (n : ℕ). IsHeldAt settings chunk text edges n c.in-Some-read.next) (sym later)
    (some_got c.in_ok-read.read _ c.in-Some-read.next c.in-Some-read.is c.in_ok-read.ensures.held settings chunk text known are
    (subst (λ (h : Sought). IsHeldAt settings chunk text edges c.args.at h) same was)))
