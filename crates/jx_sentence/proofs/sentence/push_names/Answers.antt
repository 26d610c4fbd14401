use Rattle.std.proofs.Common.{◌≡◌, ◌+◌, ◌-◌, ◌++◌, ◌<◌, ◌≤◌, ℕ, List, Option, Some, None, length, take, sym, ◌∙◌, ap, append_assoc, append-nil, refl, arith}
use Rattle.std.specs.Prelude.{option_copied}
use Rattle.std.specs.String.{string_bytes}
use Rattle.jx_sentence.specs.Words.{listed_before, names_of, separator}
use Rattle.jx_sentence.specs.declared.choice.Choice.{Choice}
use Rattle.jx_sentence.proofs.Listed.{count_more, listed-nil, listed_more, named_few, named_more, passed_more, taken, written}
use Rattle.jx_sentence.proofs.sentence.push_names.Goals as goal
use Rattle.jx_sentence.proofs.sentence.push_names.Goals.{in-Some+in_ok-push_str-in-Some+in_ok-push_str-in-Some-2, in-None}

pub overflow_add-left : goal.overflow_add-left
overflow_add-left c = omega (arith, named_few c.args.choices.now, c.count.ensures, c.requires)

pub loop-choice-init : goal.loop-choice-init
loop-choice-init c =
    let none = listed-nil (c.count.result + c.args.after) in
    record {
      left = omega (arith, c.count.ensures);
      written = sym (ap (λ (l : List ℕ). string_bytes c.args.out.now ++ l) none ∙ append-nil (string_bytes c.args.out.now));
    }

pub overflow_sub-left : goal.overflow_sub-left
overflow_sub-left c =
    let i : ℕ = c.loop-choice.choice-index in
    let xs : List Choice = c.args.choices.now in
    let low : i < length xs = omega arith in
    let more = count_more i xs _ (option_copied c.name_of.result) c.in-Some.name.now low c.name_of.ensures (ap option_copied c.in-Some.is) in
    omega (arith, more, taken (i + 1) xs, c.loop-choice.invariant.left)

pub loop-choice-preserved : goal.loop-choice-preserved
loop-choice-preserved c =
    let i : ℕ = c.loop-choice.choice-index in
    let xs : List Choice = c.args.choices.now in
    let low : i < length xs = omega arith in
    elim c.match-name_of.branch [
      | in-Some+in_ok-push_str-in-Some+in_ok-push_str-in-Some-2 w ↦
          let name : List ℕ = w.in-Some.name.now in
          let copied = ap option_copied w.in-Some.is in
          let more = count_more i xs _ (option_copied c.name_of.result) name low c.name_of.ensures copied in
          let names = named_more i xs _ (option_copied c.name_of.result) name low c.name_of.ensures copied in
          let left : 1 ≤ c.loop-choice.left = omega (arith, more, taken (i + 1) xs, c.loop-choice.invariant.left) in
          let one_more : c.loop-choice.left ≡ c.match-name_of.left + 1 = omega (arith, w.left-is, left) in
          record {
            left = omega (arith, more, one_more, c.loop-choice.invariant.left);
            written =
                written (string_bytes c.args.out.now) (string_bytes c.loop-choice.out) (string_bytes w.push_str.new.self) (string_bytes c.match-name_of.out) c.loop-choice.left
                c.match-name_of.left (names_of (take i xs)) (names_of (take (i + 1) xs)) name w.separator.result.now c.loop-choice.invariant.written w.in_ok-push_str-in-Some.ensures.bytes
                (ap string_bytes w.out-is ∙ w.in_ok-push_str-in-Some-2.ensures.bytes) (w.separator.ensures ∙ ap separator (sym w.left-is)) one_more names;
          }
      | in-None w ↦
          let names = passed_more i xs _ (option_copied c.name_of.result) low c.name_of.ensures (ap option_copied w.in-None.is) in
          let base : List ℕ = string_bytes c.args.out.now in
          record {
            left = omega (arith, ap (λ (ns : List (List ℕ)). length ns) names, w.left-is, c.loop-choice.invariant.left);
            written =
                ap string_bytes w.out-is ∙ c.loop-choice.invariant.written
                ∙ ap (λ (k : ℕ). base ++ listed_before k (names_of (take i xs))) (sym w.left-is)
                ∙ ap (λ (ns : List (List ℕ)). base ++ listed_before c.match-name_of.left ns) (sym names);
          }
    ]
