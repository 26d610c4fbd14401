-- Parts of a file that are read one behind another.
use Rattle.std.specs.Prelude.{Option, None, Some}
use Rattle.std.proofs.Common.{◌≡◌, ℕ, ◌+◌, ◌-◌, ◌≤◌, List, ◌++◌, length, take, drop, sym, ap, ◌∙◌, arith}
use Rattle.std.proofs.lemmas.List.{drop-drop, length-append, length-take}
use lib.Seq.{take-add}
use Rattle.jx_cmd_index.specs.Offsets.{StandThere}

-- bytes that stand behind others
pub there_on : (known : Option (List ℕ)) (start : ℕ) (xs ys : List ℕ) → StandThere known start xs → StandThere known (start + length xs) ys → StandThere known start (xs ++ ys)
there_on None start xs ys h k = tt
there_on (Some all) start xs ys h k =
    ap (λ l. l ++ ys) h
    ∙ ap (λ l. take (length xs) (drop start all) ++ l) (k ∙ ap (take (length ys)) (sym (drop-drop (length xs) start all)))
    ∙ sym (take-add (length xs) (length ys) (drop start all))
    ∙ ap (λ n. take n (drop start all)) (sym (length-append xs ys))

pub front_length : (n : ℕ) (xs : List ℕ) → n ≤ length xs → length (take n xs) ≡ n
front_length n xs h = grind (arith, length-take n xs)
