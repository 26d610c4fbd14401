use Rattle.std.proofs.Common.{◌≡◌, ◌+◌, ◌++◌, ◌<◌, ℕ, List, [], append-nil, length, sym, ◌∙◌, ap, refl, arith}
use Rattle.std.specs.Prelude.{codes}
use Rattle.std.specs.String.{string_bytes}
use Rattle.jx_sentence.specs.Choices.{choices}
use Rattle.jx_sentence.specs.Words.{listed_before, named_at, names_of}
use Rattle.jx_sentence.specs.declared.choice.Choice.{Choice}
use Rattle.jx_sentence.proofs.Listed.{at_end, few, follows, joined, named_few, pushed}
use Rattle.jx_sentence.proofs.sentence.push_choices.Goals as goal
use Rattle.jx_sentence.proofs.sentence.push_choices.Goals.{else-between-eq0-via-then-between-eq0+else-count-eq0, else-between-eq0-via-else-between-eq0}

pub returns-then-count-eq0 : goal.returns-then-count-eq0
unfolding named_at
returns-then-count-eq0 c =
    let s = c.args.standing.now in
    let inside : List Choice = c.choices_at-choices.result.inside.now in
    let between : List Choice = c.choices_at-choices.result.between.now in
    let no_between : length (names_of between) ≡ 0 = omega (arith, c.count-between.ensures, c.if-between-eq0.true) in
    let no_inside : length (names_of inside) ≡ 0 = omega (arith, c.count.ensures, c.if-count-eq0.true) in
    let all : named_at s ≡ codes "the end of the text" = at_end inside between (choices s.state s.expect s.top) c.choices_at-choices.ensures.value no_between no_inside in
    pushed c.push_str.result (string_bytes c.push_str.new.self) (string_bytes c.args.out.now) (string_bytes c.args.out.now) [] (codes "the end of the text") (named_at s)
    c.push_str.ensures.bytes (sym (append-nil (string_bytes c.args.out.now))) all

pub push_names-requires : goal.push_names-requires
push_names-requires c =
    let s = c.args.standing.now in
    let inside : List Choice = c.choices_at-choices.result.inside.now in
    let between : List Choice = c.choices_at-choices.result.between.now in
    omega (arith, few s.state s.expect s.top inside between c.choices_at-choices.ensures.value, named_few between, c.count-between.ensures)

pub returns : goal.returns
unfolding named_at
returns c =
    let s = c.args.standing.now in
    let inside : List Choice = c.choices_at-choices.result.inside.now in
    let between : List Choice = c.choices_at-choices.result.between.now in
    let some : length (names_of between) ≡ 0 → length (names_of inside) ≡ 0 → ⊥ = λ no_between no_inside. elim c.else-between-eq0.branch [
      | else-between-eq0-via-then-between-eq0+else-count-eq0 w ↦ absurd (omega (arith, no_inside, w.count.ensures, w.if-count-eq0.false))
      | else-between-eq0-via-else-between-eq0 w ↦ absurd (omega (arith, no_between, c.count-between.ensures, w.if-between-eq0.false))
    ] in
    let front : string_bytes c.push_names.new.out ≡ string_bytes c.args.out.now ++ listed_before (length (names_of between)) (names_of inside) =
    c.in_ok-push_names.ensures ∙ ap (λ (n : ℕ). string_bytes c.args.out.now ++ listed_before n (names_of inside)) c.count-between.ensures in
    follows c.push_names-2.result (string_bytes c.push_names-2.new.out) (string_bytes c.push_names.new.out) (string_bytes c.args.out.now)
    (listed_before (length (names_of between)) (names_of inside)) (listed_before 0 (names_of between)) (named_at s) c.push_names-2.ensures front
    (joined inside between (choices s.state s.expect s.top) c.choices_at-choices.ensures.value some)
