use Rattle.std.proofs.Common.{◌≡◌, ◌++◌, ◌∙◌, Bor, ℕ, List, Option, ap}
use Rattle.std.specs.Prelude.{codes, option_copied}
use Rattle.std.specs.String.{string_bytes}
use Rattle.jx_sentence.specs.Words.{comma_after, literal_of, named_at, truncated}
use Rattle.jx_sentence.specs.declared.standing.Standing.{Standing}
use Rattle.jx_sentence.proofs.Listed.{joins, pushed}
use Rattle.jx_sentence.proofs.sentence.push_truncated.Goals as goal

pub returns : goal.returns
unfolding truncated
returns c =
    let s : Standing = c.in-Some.standing.now in
    let base : List ℕ = string_bytes c.args.out.now in
    let literal : List ℕ = literal_of s.state in
    let front : List ℕ = codes "the text ends where " in
    let named : string_bytes c.push_choices.new.out ≡ base ++ (front ++ named_at s) =
    joins (string_bytes c.push_choices.new.out) (string_bytes c.push_str-2.new.self) base front (named_at s) c.in_ok-push_choices.ensures c.in_ok-push_str.ensures.bytes in
    let begun : string_bytes c.push_str-3.new.self ≡ base ++ ((front ++ named_at s) ++ literal) =
    joins (string_bytes c.push_str-3.new.self) (string_bytes c.push_choices.new.out) base (front ++ named_at s) literal
    (c.in_ok-push_str-2.ensures.bytes ∙ ap (λ (l : List ℕ). string_bytes c.push_choices.new.out ++ l) c.literal_of-literal.ensures) named in
    let comma : string_bytes c.push_str-4.new.self ≡ base ++ (((front ++ named_at s) ++ literal) ++ comma_after literal) =
    joins (string_bytes c.push_str-4.new.self) (string_bytes c.push_str-3.new.self) base ((front ++ named_at s) ++ literal) (comma_after literal)
    (c.in_ok-push_str-3.ensures.bytes ∙ ap (λ (l : List ℕ). string_bytes c.push_str-3.new.self ++ l) (c.comma_after.ensures ∙ ap comma_after c.literal_of-literal.ensures)) begun in
    pushed c.push_str-5.result (string_bytes c.push_str-5.new.self) (string_bytes c.push_str-4.new.self) base (((front ++ named_at s) ++ literal) ++ comma_after literal)
    (codes " is expected") (truncated (option_copied c.args.standing)) c.push_str-5.ensures.bytes comma
    (ap (λ (o : Option (Bor Standing)). truncated (option_copied o)) c.in-Some.is)
