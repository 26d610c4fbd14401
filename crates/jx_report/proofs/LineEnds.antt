-- A line in pieces, each put in front of the others.
use Rattle.std.proofs.Common.{◌≡◌, ℕ, List, ◌++◌, sym, ap, ◌∙◌, append_assoc}

-- one piece in front of another, and what stands behind both
pub pieces_join : (x y more rest line : List ℕ) → rest ≡ y ++ more → line ≡ x ++ rest → line ≡ (x ++ y) ++ more
pieces_join x y more rest line behind front = front ∙ ap (λ (t : List ℕ). x ++ t) behind ∙ sym (append_assoc x y more)
