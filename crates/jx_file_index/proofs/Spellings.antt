-- Bytes that are put one behind another.
use Rattle.std.proofs.Common.{◌≡◌, ℕ, ◌≤◌, List, ◌++◌, length, take, sym, ◌∙◌, append_assoc}
use Rattle.std.proofs.lemmas.List.{take_all}

pub three : (o a b c : List ℕ) → ((o ++ a) ++ b) ++ c ≡ o ++ (a ++ (b ++ c))
three o a b c = append_assoc (o ++ a) b c ∙ append_assoc o a (b ++ c)

pub four : (o a b c d : List ℕ) → (((o ++ a) ++ b) ++ c) ++ d ≡ o ++ (a ++ (b ++ (c ++ d)))
four o a b c d = append_assoc ((o ++ a) ++ b) c d ∙ three o a b (c ++ d)

pub five : (o a b c d e : List ℕ) → ((((o ++ a) ++ b) ++ c) ++ d) ++ e ≡ o ++ (a ++ (b ++ (c ++ (d ++ e))))
five o a b c d e = append_assoc (((o ++ a) ++ b) ++ c) d e ∙ four o a b c (d ++ e)

pub six : (o a b c d e f : List ℕ) → (((((o ++ a) ++ b) ++ c) ++ d) ++ e) ++ f ≡ o ++ (a ++ (b ++ (c ++ (d ++ (e ++ f)))))
six o a b c d e f = append_assoc ((((o ++ a) ++ b) ++ c) ++ d) e f ∙ five o a b c d (e ++ f)

-- all of a list, by two counts
pub both_all : {A : Type 0} (m n : ℕ) (xs : List A) → length xs ≤ m → length xs ≤ n → take m xs ≡ take n xs
both_all m n xs low high = take_all m xs low ∙ sym (take_all n xs high)
