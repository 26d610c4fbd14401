-- The name of a field.
use Rattle.std.proofs.Common.{◌≡◌, ℕ, min, Bool, List, length, map, take, subst, ◌∙◌}
use Rattle.std.specs.Prelude.{◌↔◌, IsTrue, codes}
use Rattle.std.specs.Bool.{Decides}
use Rattle.std.specs.Char.{to_ascii_lowercase}
use Rattle.std.specs.Cmp.Lexicographic.{bytes_decides}
use Rattle.std.proofs.lemmas.Bool.Decides.{same_from_decides}
use Rattle.std.proofs.lemmas.List.{take_min}
use Rattle.jx_wire.specs.Frames.{names_length}

pub names_it : (r : Bool) (line name : List ℕ) → name ≡ take (min 15 (length line)) line
    → (IsTrue r ↔ (map to_ascii_lowercase name ≡ map to_ascii_lowercase (codes "content-length:"))) → r ≡ names_length line
names_it r line name e t =
    let at : name ≡ take 15 line = e ∙ take_min 15 line in
    let test : Decides r (map to_ascii_lowercase name ≡ codes "content-length:") = (t.0, t.1) in
    same_from_decides r (names_length line) (subst (λ l. Decides r (map to_ascii_lowercase l ≡ codes "content-length:")) at test)
    (bytes_decides (map to_ascii_lowercase (take 15 line)) (codes "content-length:"))
