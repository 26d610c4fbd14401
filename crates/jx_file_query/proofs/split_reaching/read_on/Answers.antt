use Rattle.std.proofs.Common.{◌≡◌, ℕ, Some, subst, sym, ◌∙◌}
use Rattle.jx_file_query.proofs.WalkComings.{some_got}
use Rattle.jx_file_query.specs.declared.cutting.Parting.{Parting}
use Rattle.jx_file_query.specs.Cuts.{cuts_of}
use Rattle.jx_file_query.specs.Split.{IsCutAt}
use Rattle.jx_file_query.proofs.split_reaching.read_on.Goals as goal

pub returns-clause-cut : goal.returns-clause-cut
returns-clause-cut c = λ before is settings chunk text known are was.
    let both : Some before ≡ Some c.in-Some.held = sym is ∙ c.in-Some.is in
    let same : before ≡ c.in-Some.held = cc in
    let aim = c.args.aim in
    let later = c.in_ok-later.ensures in
    let reaches = c.pass_on-reached.ensures.cut settings chunk text known in
    reaches
    (subst (λ (n : ℕ). IsCutAt settings chunk text aim n (cuts_of c.in-Some-read.next)) (sym later)
    (some_got c.in_ok-read.read _ c.in-Some-read.next c.in-Some-read.is c.in_ok-read.ensures.cut settings chunk text known are
    (subst (λ (h : Parting). IsCutAt settings chunk text aim c.args.at (cuts_of h)) same was)))
