-- Bytes that grow by several parts, one behind another.
use Rattle.std.proofs.Common.{◌≡◌, ℕ, List, ◌++◌, ap, ◌∙◌, append_assoc, cond, is_ok, Result, Ok, Err, OnOk}

pub grown : (o n m x y z : List ℕ) → n ≡ o ++ x → m ≡ n ++ y → y ≡ z → m ≡ o ++ (x ++ z)
grown o n m x y z e f g = f ∙ ap (λ l. l ++ y) e ∙ append_assoc o x y ∙ ap (λ l. o ++ (x ++ l)) g

-- by a last part, where the call gives Ok
pub grown_last : {T E : Type 0} (result : Result T E) (o n m x y z : List ℕ) → n ≡ o ++ x → m ≡ cond (is_ok result) (n ++ y) n → y ≡ z → OnOk result (m ≡ o ++ (x ++ z))
grown_last (Ok v) o n m x y z e f g = grown o n m x y z e f g
grown_last (Err v) o n m x y z e f g = tt

pub same_by : {T E : Type 0} (result : Result T E) (m p q : List ℕ) → OnOk result (m ≡ p) → p ≡ q → OnOk result (m ≡ q)
same_by (Ok v) m p q f g = f ∙ g
same_by (Err v) m p q f g = tt
