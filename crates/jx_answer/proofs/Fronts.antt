-- A batch is read behind its front.
use Rattle.std.proofs.Common.{◌≡◌, ℕ, List, ◌++◌, sym, ap, subst, ◌∙◌, append_assoc}
use Rattle.jx_run.specs.Reader.{ReaderValue, HasRead}
use Rattle.jx_answer.specs.inside.Fronts.{GoesOn}

-- what stands behind the front was read too
pub read_behind : (batch front rest before : List ℕ) (old mid new : ReaderValue) → batch ≡ front ++ rest → GoesOn front old mid
    → ((xs : List ℕ) → HasRead xs mid → HasRead (xs ++ rest) new) → HasRead before old → HasRead (before ++ batch) new
read_behind batch front rest before old mid new both g h r =
    subst (λ (xs : List ℕ). HasRead xs new) (append_assoc before front rest ∙ ap (λ (xs : List ℕ). before ++ xs) (sym both)) (h (before ++ front) (g.reads before r))
