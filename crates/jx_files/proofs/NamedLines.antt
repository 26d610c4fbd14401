-- Lines behind a name, byte by byte.
use Rattle.std.proofs.Common.{◌≡◌, ℕ, ◌+◌, ◌<◌, List, [], ◌∷◌, ◌++◌, Bool, length, drop, get_or, append_assoc, add-one, sym, ◌∙◌, ap}
use Rattle.std.proofs.Math.Seq.{drop-cons}
use Rattle.std.specs.Prelude.{if◌then◌else◌, ◌==◌}
use Rattle.jx_files.specs.Naming.{named_from}

-- one byte more, with what stands in front of it
pub one_more : (starts : Bool) (front all rest : List ℕ) (b : ℕ)
    → (all ++ ((if starts then front else []) ++ b ∷ [])) ++ named_from (b == 10) front rest ≡ all ++ named_from starts front (b ∷ rest)
one_more starts front all rest b =
    let before : List ℕ = if starts then front else [] in
    append_assoc all (before ++ b ∷ []) (named_from (b == 10) front rest)
    ∙ ap (λ (x : List ℕ). all ++ x) (append_assoc before (b ∷ []) (named_from (b == 10) front rest))

-- the byte at an index, with what stands in front of it, and those after it
pub named_more : (starts : Bool) (front bytes : List ℕ) (i : ℕ) → i < length bytes
    → named_from starts front (drop i bytes) ≡ ((if starts then front else []) ++ get_or bytes i 0 ∷ []) ++ named_from (get_or bytes i 0 == 10) front (drop (i + 1) bytes)
named_more starts front bytes i within =
    let b : ℕ = get_or bytes i 0 in
    let before : List ℕ = if starts then front else [] in
    ap (named_from starts front) (drop-cons bytes i 0 within)
    ∙ ap (λ (k : ℕ). named_from starts front (b ∷ drop k bytes)) (sym (add-one i))
    ∙ sym (append_assoc before (b ∷ []) (named_from (b == 10) front (drop (i + 1) bytes)))
