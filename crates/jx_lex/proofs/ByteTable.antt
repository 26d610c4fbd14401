-- The table of bytes has the class of each.
use Rattle.std.proofs.Common.{◌≡◌, ℕ, ◌<◌, ◌/◌, ◌%◌, true, eqb, List, [], length, get_or, refl, ap, ◌∙◌, arith}
use Rattle.std.specs.Prelude.{◌==◌}
use Rattle.std.proofs.lemmas.Bool.Decides.{nat_tests}
use Rattle.std.proofs.lemmas.List.{get_or_default}
use Rattle.jx_lex.specs.declared.alphabet.class.Class.{Class}
use Rattle.jx_lex.specs.declared.alphabet.class.Class.TheVariants.{Bad}
use Rattle.jx_lex.specs.declared.alphabet.classes.TheConstants.{CLASSES}
use Rattle.jx_lex.specs.Classes.{all_classes, first_with, class_at, is_in}
use Rattle.jx_lex.proofs.ClassTable.{all_below, all_below-at, code, same_code}

abbrev cell : ℕ → Class
cell b = get_or (get_or CLASSES (b / 16) []) (b % 16) Bad

rows_long : all_below 16 (λ k. length (get_or CLASSES k []) == 16) ≡ true
rows_long = refl

cells_right : all_below 256 (λ b. code (cell b) == code (first_with all_classes b)) ≡ true
cells_right = refl

classes_have : all_below 256 (λ b. is_in (first_with all_classes b) b) ≡ true
classes_have = refl

eqb_true : {m n : ℕ} → eqb m n ≡ true → m ≡ n
eqb_true h = grind (arith, nat_tests)

row_long : (k : ℕ) → k < 16 → length (get_or CLASSES k []) ≡ 16
row_long k lt = eqb_true (all_below-at (λ k. length (get_or CLASSES k []) == 16) 16 rows_long k lt)

-- the cell of a byte is its class
pub cell_is_class : (b : ℕ) (e : List Class) (d : Class) → b < 256 → get_or (get_or CLASSES (b / 16) e) (b % 16) d ≡ class_at b
unfolding class_at
cell_is_class b e d lt =
    let high : b / 16 < 16 = omega arith in
    let low : b % 16 < 16 = omega arith in
    let long = row_long (b / 16) high in
    ap (λ r. get_or r (b % 16) d) (get_or_default CLASSES (b / 16) e [] high)
    ∙ get_or_default (get_or CLASSES (b / 16) []) (b % 16) d Bad (omega (arith, long, low))
    ∙ same_code _ _ (eqb_true (all_below-at (λ b. code (cell b) == code (first_with all_classes b)) 256 cells_right b lt))

-- the class of a byte has it
pub class_has : (b : ℕ) → b < 256 → is_in (class_at b) b ≡ true
unfolding class_at
class_has b lt = all_below-at (λ b. is_in (first_with all_classes b) b) 256 classes_have b lt
