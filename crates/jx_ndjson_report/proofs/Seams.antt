-- Bytes that are appended one after another are appended at once.
use Rattle.std.proofs.Common.{◌≡◌, ◌++◌, ◌∷◌, [], List, ℕ, Result, Ok, Err, ap, refl, ◌∙◌}
use Rattle.std.specs.Bool.{if◌then◌else◌}
use Rattle.std.specs.Result.{OnOk, is_ok}

pub three : (o p v q : List ℕ) → ((o ++ p) ++ v) ++ q ≡ o ++ (p ++ v ++ q)
three [] p v q = refl
three (x ∷ o) p v q = ap (λ (l : List ℕ). x ∷ l) (three o p v q)

pub four : (o f a b q : List ℕ) → (((o ++ f) ++ a) ++ b) ++ q ≡ o ++ (f ++ a ++ b ++ q)
four [] f a b q = refl
four (x ∷ o) f a b q = ap (λ (l : List ℕ). x ∷ l) (four o f a b q)

-- what a last call appended, if it was not refused memory
pub appended : {A E : Type 0} → (r : Result A E) (new more old all : List ℕ) → new ≡ (if is_ok r then more else old) → more ≡ all → OnOk r (new ≡ all)
appended (Ok x) new more old all is same = is ∙ same
appended (Err x) new more old all is same = tt
