use Rattle.std.proofs.Common.{◌≡◌, ◌-◌, [], ◌∷◌, ◌++◌, length, All, ap, sym, subst, ◌∙◌, arith}
use Rattle.std.specs.Prelude.{slice_get}
use Rattle.std.proofs.lemmas.List.{length-append}
use Rattle.jx_run.specs.inside.Joins.{AreMade, IsAbove}
use Rattle.jx_run.specs.OutcomeRun.{IsFormWithin}
use Rattle.jx_run.proofs.Reducing.{all_push, push_above}
use Rattle.jx_run.proofs.RunJoin.{push_made}
use Rattle.jx_run.proofs.Transitions.{at_end}
use Rattle.jx_run.proofs.runs.joins.Joins.add.Goals as goal

pub returns-clause-made : goal.returns-clause-made
returns-clause-made c =
    let l = c.args.left.now in
    let r = c.args.right.now in
    let olds = c.args.self.now in
    let f = c.in_ok-extended.field-0 in
    subst (λ ps. AreMade l r ps c.push.new.self.items) (sym c.in_ok-push-2.ensures.items)
    (subst (AreMade l r (olds.pairs.items ++ c.args.pair ∷ [])) (sym c.in_ok-push.ensures.items)
    (push_made l r olds.pairs.items olds.structures.items c.args.pair f c.requires.made c.in_ok-extended.ensures.made))

pub returns-clause-within : goal.returns-clause-within
returns-clause-within c =
    let l = c.args.left.now in
    let P = IsFormWithin l.depth l.start c.args.right.now.end in
    subst (All P) (sym c.in_ok-push.ensures.items) (all_push P c.args.self.now.structures.items c.in_ok-extended.field-0 c.requires.within c.in_ok-extended.ensures.within)

pub returns-clause-above : goal.returns-clause-above
returns-clause-above c =
    subst (IsAbove c.args.self.now.structures.items) (sym c.in_ok-push.ensures.items) (push_above c.args.self.now.structures.items c.in_ok-extended.field-0)

pub returns-clause-number : goal.returns-clause-number
returns-clause-number c =
    let ps = c.args.self.now.pairs.items in
    let all = ap length c.in_ok-push-2.ensures.items ∙ length-append ps (c.args.pair ∷ []) in
    let count = c.len.ensures in
    let last : c.len.result - 1 ≡ length ps = omega (arith, all, count) in
    ap (λ n. slice_get c.push-2.new.self.items n) last ∙ ap (λ xs. slice_get xs (length ps)) c.in_ok-push-2.ensures.items ∙ at_end ps c.args.pair

pub returns-clause-last : goal.returns-clause-last
returns-clause-last c = λ more.
    let olds = c.args.self.now in
    let f = c.in_ok-extended.field-0 in
    let pairs = ap length c.in_ok-push-2.ensures.items ∙ length-append olds.pairs.items (c.args.pair ∷ []) in
    let structures = ap length c.in_ok-push.ensures.items ∙ length-append olds.structures.items (f ∷ []) in
    let same = c.requires.made.all in
    let count = c.len.ensures in
    omega (arith, pairs, structures, same, count)
