-- One mark more.
use Rattle.std.proofs.Common.{◌≡◌, ℕ, suc, ◌+◌, ◌<◌, ◌≤◌, List, length, drop, sym, ap, ◌∙◌, arith, get_or, drop-cons}
use Rattle.std.proofs.Math.ListN.{drop_of_length-le}
use Rattle.jx_lex.specs.declared.alphabet.mark.Mark.{Mark}
use Rattle.jx_index.specs.inside.Building.{Building, make, on_mark, ends_after, next_end}

pub make_step : (last i : ℕ) (marks : List Mark) (left after : List ℕ) (end : ℕ) (b next : Building) (d : Mark) → i < length marks
    → after ≡ ends_after (get_or marks i d).kind left
    → end ≡ next_end last left
    → next ≡ on_mark (get_or marks i d).kind (get_or marks i d).at end b
    → make last (drop (i + 1) marks) after next ≡ make last (drop i marks) left b
unfolding make
make_step last i marks left after end b next d h a n e =
    ap (λ x. make last (drop (i + 1) marks) x next) a
    ∙ ap (λ x. make last (drop (i + 1) marks) (ends_after (get_or marks i d).kind left) x) (e ∙ ap (λ x. on_mark (get_or marks i d).kind (get_or marks i d).at x b) n)
    ∙ ap (λ n. make last (drop n marks) (ends_after (get_or marks i d).kind left) (on_mark (get_or marks i d).kind (get_or marks i d).at (next_end last left) b)) (let s : i + 1 ≡ suc i = omega arith in s)
    ∙ sym (ap (λ x. make last x left b) (drop-cons marks i d h))

pub make_done : (last i : ℕ) (marks : List Mark) (left : List ℕ) (b : Building) → length marks ≤ i → make last (drop i marks) left b ≡ b
unfolding make
make_done last i marks left b h = ap (λ x. make last x left b) (drop_of_length-le marks h)
