use Rattle.std.proofs.Common.{[], ◌-◌, refl, subst, arith}
use Rattle.std.proofs.lemmas.Result.{IfOk-weaker}
use Rattle.jx_run.specs.ReaderInside.{IsOfUse}
use Rattle.jx_run.proofs.ReaderFeeds.{begun_bare, begun_behind}
use Rattle.jx_run.proofs.readers.progress.read_front.Goals as goal

pub returns-then-count-eq3-clause-of_use : goal.returns-then-count-eq3-clause-of_use
returns-then-count-eq3-clause-of_use g c =
    let new = g.S.OpenStack.known c.read_all.new.stack in
    IfOk-weaker c.read_all.result _ _ (λ p goes mark depth h. subst (λ d. IsOfUse p mark d new) h.depth_is ((goes [] h.read).of_use mark)) c.read_all.ensures.goes_on

pub returns-then-count-eq3-clause-reads : goal.returns-then-count-eq3-clause-reads
returns-then-count-eq3-clause-reads g c =
    let a = c.args in
    let count = c.count_agreed-count.result in
    let old = g.S.OpenStack.known a.stack.now in
    let new = g.S.OpenStack.known c.read_all.new.stack in
    IfOk-weaker c.read_all.result _ _
    (λ p goes settings start bytes at h.
    begun_behind settings start a.base a.before count bytes a.slice.now old c.requires.cut at h c.count_agreed-count.ensures.counted c.reader_and_grammar.ensures.first_fault
    (count - a.before) new p c.requires.fits c.if-count-eq3.true refl (goes [] h.of_use.read))
    c.read_all.ensures.goes_on

pub returns-then-count-eq0-clause-of_use : goal.returns-then-count-eq0-clause-of_use
returns-then-count-eq0-clause-of_use g c =
    let new = g.S.OpenStack.known c.read_all-then-count-eq0.new.stack in
    IfOk-weaker c.read_all-then-count-eq0.result _ _ (λ p goes mark depth h. subst (λ d. IsOfUse p mark d new) h.depth_is ((goes [] h.read).of_use mark)) c.read_all-then-count-eq0.ensures.goes_on

pub returns-then-count-eq0-clause-reads : goal.returns-then-count-eq0-clause-reads
returns-then-count-eq0-clause-reads g c =
    let a = c.args in
    let old = g.S.OpenStack.known a.stack.now in
    let new = g.S.OpenStack.known c.read_all-then-count-eq0.new.stack in
    let other = c.if-more-slice.false in
    let bare = c.if-count-eq0.true in
    IfOk-weaker c.read_all-then-count-eq0.result _ _
    (λ p goes settings start bytes at h.
    begun_bare settings start a.base a.before c.count_agreed-count.result bytes a.slice.now old c.requires.cut at h c.count_agreed-count.ensures.counted c.reader_and_grammar.ensures.first_fault
    new p c.requires.fits bare (omega (arith, other, bare)) (goes [] h.of_use.read))
    c.read_all-then-count-eq0.ensures.goes_on
