use Rattle.std.proofs.Common.{◌≡◌, ◌≤◌, ℕ, List, length, take, refl, sym, ap, subst, ◌∙◌, rules}
use Rattle.jx_run.specs.Settings.{BeginsBy, JudgedBy}
use Rattle.jx_complete.specs.Completed.{before_fault}
use Rattle.jx_complete.specs.inside.Ended.{IsEnded, IsEndedMark}
use Rattle.jx_complete.proofs.Ends.{all_of_it, completed, cut_in_mark, stand_before}
use Rattle.jx_complete.proofs.completed.complete.Goals as goal

pub returns-in-Accepted-clause-some : goal.returns-in-Accepted-clause-some
returns-in-Accepted-clause-some c =
    let settings = c.args.settings.now in
    let bytes : List ℕ = c.args.bytes.items in
    let verdict = c.verdict_at-verdict.result in
    let judged : JudgedBy settings 0 bytes verdict =
    subst (λ (l : List ℕ). JudgedBy settings 0 l verdict) c.deref.ensures.value
    (c.verdict_at-verdict.ensures.verdict settings 0 c.deref.result.now c.in_ok-reached.reached.stack.reading c.whole.ensures c.in_ok-reached.ensures.reads.outcome) in
    let long : c.len.result ≡ length bytes = search rules in
    all_of_it settings bytes bytes c.before_fault-kept.result verdict judged c.in-Accepted.is (c.before_fault-kept.ensures ∙ ap (λ (n : ℕ). before_fault n verdict) long) refl

pub ended-requires : goal.ended-requires
ended-requires c =
    let settings = c.args.settings.now in
    let bytes : List ℕ = c.args.bytes.items in
    let verdict = c.verdict_at-verdict.result in
    let judged : JudgedBy settings 0 bytes verdict =
    subst (λ (l : List ℕ). JudgedBy settings 0 l verdict) c.deref.ensures.value
    (c.verdict_at-verdict.ensures.verdict settings 0 c.deref.result.now c.in_ok-reached.reached.stack.reading c.whole.ensures c.in_ok-reached.ensures.reads.outcome) in
    let long : c.len.result ≡ length bytes = search rules in
    let is : c.before_fault-kept.result ≡ before_fault (length bytes) verdict = c.before_fault-kept.ensures ∙ ap (λ (n : ℕ). before_fault n verdict) long in
    let stands = stand_before settings bytes verdict judged c.in_default.not-Accepted in
    subst (λ (l : List ℕ). BeginsBy settings l) (sym (c.truncate.ensures.items ∙ ap (λ (n : ℕ). take n bytes) is)) stands.begins

pub returns-in-None-clause-none : goal.returns-in-None-clause-none
returns-in-None-clause-none c = λ _.
    let settings = c.args.settings.now in
    let bytes : List ℕ = c.args.bytes.items in
    let verdict = c.verdict_at-verdict.result in
    let judged : JudgedBy settings 0 bytes verdict =
    subst (λ (l : List ℕ). JudgedBy settings 0 l verdict) c.deref.ensures.value
    (c.verdict_at-verdict.ensures.verdict settings 0 c.deref.result.now c.in_ok-reached.reached.stack.reading c.whole.ensures c.in_ok-reached.ensures.reads.outcome) in
    let long : c.len.result ≡ length bytes = search rules in
    let is : c.before_fault-kept.result ≡ before_fault (length bytes) verdict = c.before_fault-kept.ensures ∙ ap (λ (n : ℕ). before_fault n verdict) long in
    let stands = stand_before settings bytes verdict judged c.in_default.not-Accepted in
    cut_in_mark settings bytes c.before_fault-kept.result verdict judged is (subst (λ (n : ℕ). n ≤ length bytes) (sym is) stands.within)
    (subst IsEndedMark c.truncate.ensures.items (c.in_ok-ended.ensures.none c.in-None.is))

pub returns-clause-some : goal.returns-clause-some
returns-clause-some c =
    let settings = c.args.settings.now in
    let bytes : List ℕ = c.args.bytes.items in
    let verdict = c.verdict_at-verdict.result in
    let judged : JudgedBy settings 0 bytes verdict =
    subst (λ (l : List ℕ). JudgedBy settings 0 l verdict) c.deref.ensures.value
    (c.verdict_at-verdict.ensures.verdict settings 0 c.deref.result.now c.in_ok-reached.reached.stack.reading c.whole.ensures c.in_ok-reached.ensures.reads.outcome) in
    let long : c.len.result ≡ length bytes = search rules in
    let is : c.before_fault-kept.result ≡ before_fault (length bytes) verdict = c.before_fault-kept.ensures ∙ ap (λ (n : ℕ). before_fault n verdict) long in
    let stands = stand_before settings bytes verdict judged c.in_default.not-Accepted in
    let some : IsEnded settings c.truncate.new.self.items c.in-Some.text.items = search rules in
    completed settings bytes c.in-Some.text.items c.before_fault-kept.result verdict judged c.in_default.not-Accepted is (subst (λ (n : ℕ). n ≤ length bytes) (sym is) stands.within)
    (subst (λ (l : List ℕ). IsEnded settings l c.in-Some.text.items) c.truncate.ensures.items some)
