use Rattle.std.proofs.Common.{ℕ, List, subst, inl, inr}
use Rattle.std.specs.Prelude.{reverse}
use Rattle.jx_run.specs.ReaderInside.{IsCut, IsReadTo}
use Rattle.jx_complete.proofs.Ends.{ended, ended_mark, never_deep, never_failed, never_stopped}
use Rattle.jx_complete.proofs.completed.ended.Goals as goal

pub unreachable-requires : goal.unreachable-requires
unreachable-requires c =
    let settings = c.args.settings.now in
    let bytes : List ℕ = c.args.bytes.items in
    let p = c.in_ok-reached.reached.progress in
    let stack = c.in_ok-reached.reached.stack in
    let law = c.reader_and_grammar.ensures.by_settings in
    let read : IsReadTo settings 0 bytes p stack = subst (λ (l : List ℕ). IsReadTo settings 0 l p stack) c.deref.ensures.value c.in_ok-reached.ensures.reads in
    elim c.in-Stopped.is [
      | inl x ↦ never_stopped law settings bytes p x.0 stack c.requires read x.1
      | inr rest ↦ elim rest [
        | inl y ↦ never_deep law settings bytes p y.0 stack c.requires read y.1
        | inr z ↦ never_failed settings bytes p stack read z
      ]
    ]

pub returns-in-Front-clause-none : goal.returns-in-Front-clause-none
returns-in-Front-clause-none c = λ _.
    let settings = c.args.settings.now in
    let bytes : List ℕ = c.args.bytes.items in
    let p = c.in_ok-reached.reached.progress in
    let stack = c.in_ok-reached.reached.stack in
    let read : IsReadTo settings 0 bytes p stack = subst (λ (l : List ℕ). IsReadTo settings 0 l p stack) c.deref.ensures.value c.in_ok-reached.ensures.reads in
    ended_mark settings bytes p c.in-Front.field-0 stack read c.in-Front.is (subst IsCut c.in-Front.is c.in_ok-reached.ensures.cut)

pub returns-in_ok-end_text-in-Going-clause-some : goal.returns-in_ok-end_text-in-Going-clause-some
returns-in_ok-end_text-in-Going-clause-some c =
    let settings = c.args.settings.now in
    let bytes : List ℕ = c.args.bytes.items in
    let p = c.in_ok-reached.reached.progress in
    let stack = c.in_ok-reached.reached.stack in
    let read : IsReadTo settings 0 bytes p stack = subst (λ (l : List ℕ). IsReadTo settings 0 l p stack) c.deref.ensures.value c.in_ok-reached.ensures.reads in
    ended c.reader_and_grammar.ensures.by_settings settings bytes c.end_text.new.out.items p c.in-Going.state stack c.in_ok-expect-in-Going.expect
    (reverse c.in_ok-expect-in-Going.holders.items) read c.in-Going.is c.in_ok-expect-in-Going.ensures.standing c.in_ok-end_text-in-Going.ensures
