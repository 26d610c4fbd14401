use Rattle.std.proofs.Common.{◌≡◌, ◌+◌, ◌<◌, ◌≤◌, ℕ, List, Option, length, take, true, false, sym, ◌∙◌, ap, arith}
use Rattle.std.specs.Prelude.{is_some, option_copied}
use Rattle.jx_sentence.specs.Words.{names_of}
use Rattle.jx_sentence.specs.declared.choice.Choice.{Choice}
use Rattle.jx_sentence.proofs.Listed.{copied_some, count_more, none_of, passed_more, some_of}
use Rattle.jx_sentence.proofs.sentence.count.Goals as goal
use Rattle.jx_sentence.proofs.sentence.count.Goals.{then-is_some, else-is_some}

pub loop-choice-preserved : goal.loop-choice-preserved
loop-choice-preserved c =
    let i : ℕ = c.loop-choice.choice-index in
    let xs : List Choice = c.args.choices.now in
    let low : i < length xs = omega arith in
    let few = c.loop-choice.invariant.few in
    elim c.if-is_some.branch [
      | then-is_some w ↦
          let some = some_of (option_copied c.name_of.result) (copied_some c.name_of.result ∙ sym c.is_some.ensures ∙ w.if-is_some.true) in
          let more = count_more i xs _ (option_copied c.name_of.result) some.0 low c.name_of.ensures some.1 in
          record { so_far = omega (arith, more, w.count-is, c.loop-choice.invariant.so_far); few = omega (arith, w.count-is, few) }
      | else-is_some w ↦
          let none = none_of (option_copied c.name_of.result) (copied_some c.name_of.result ∙ sym c.is_some.ensures ∙ w.if-is_some.false) in
          let same = ap (λ (ns : List (List ℕ)). length ns) (passed_more i xs _ (option_copied c.name_of.result) low c.name_of.ensures none) in
          record { so_far = omega (arith, same, w.count-is, c.loop-choice.invariant.so_far); few = omega (arith, w.count-is, few) }
    ]
