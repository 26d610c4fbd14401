-- One step of a finder.
use Rattle.std.proofs.Common.{◌≡◌, ℕ, zero, suc, ◌<◌, ◌≤◌, List, [], ◌∷◌, length, ◌++◌, take, drop, append_assoc, append-nil, refl, sym, ap, ◌∙◌, arith, get_or, slice_set}
use Rattle.std.proofs.lemmas.List.{map-append}
use Rattle.jx_index.specs.declared.finder.Met.{Met}
use Rattle.jx_index.specs.declared.units.Spelling.TheVariants.{InToken}
use Rattle.jx_index.specs.declared.wanted.Wanted.{Wanted}
use Rattle.jx_index.specs.inside.Finding.{change}
use Rattle.jx_index.specs.inside.Found.{tokens_of, units_of}
use Rattle.jx_index.specs.Pointers.{HasSlash, HasNoSlash, tokens}
use Rattle.jx_index.specs.Units.{chars_units}
use Rattle.jx_index.proofs.TokenSteps.{tokens_next, tokens_end}

-- ---- what was met

pub change-set : (f : Met → Met) (all : List Met) (n : ℕ) (v w : Met) → n < length all → v ≡ get_or all n v → w ≡ f v → slice_set all n w ≡ change f n all
change-set f [] n v w h e g = absurd (omega arith)
change-set f (x ∷ all) zero v w h e g = ap (λ (m : Met). m ∷ all) (g ∙ ap f e)
change-set f (x ∷ all) (suc n) v w h e g = ap (λ (xs : List Met). x ∷ xs) (change-set f all n v w (omega arith) e g)

pub change-past : (f : Met → Met) (all : List Met) (n : ℕ) → length all ≤ n → all ≡ change f n all
change-past f [] n h = refl
change-past f (x ∷ all) zero h = absurd (omega arith)
change-past f (x ∷ all) (suc n) h = ap (λ (xs : List Met). x ∷ xs) (change-past f all n (omega arith))

-- ---- one token of a pointer more

pub wanted_step : (wanted grown : List Wanted) (w : Wanted) (rest bytes later name : List ℕ) (n : ℕ) (all : List (List ℕ)) → 0 < length rest → HasSlash rest → bytes ≡ drop 1 rest
    → HasNoSlash (take n bytes) → HasSlash (drop n bytes) → w.name.now ≡ name → name ≡ take n bytes → later ≡ drop n bytes → grown ≡ wanted ++ w ∷ []
    → tokens_of wanted ++ tokens rest ≡ all → tokens_of grown ++ tokens later ≡ all
wanted_step wanted grown w rest bytes later name n all here slash from slashless next w_is name_is later_is grown_is h =
    ap (λ (xs : List Wanted). tokens_of xs ++ tokens later) grown_is
    ∙ ap (λ (ts : List (List ℕ)). ts ++ tokens later) (map-append units_of wanted (w ∷ []))
    ∙ append_assoc (tokens_of wanted) (units_of w ∷ []) (tokens later)
    ∙ ap (λ (x : List ℕ). tokens_of wanted ++ (chars_units InToken 0 x ∷ tokens later)) (w_is ∙ name_is)
    ∙ ap (λ (x : List ℕ). tokens_of wanted ++ (chars_units InToken 0 (take n bytes) ∷ tokens x)) later_is
    ∙ ap (λ (ts : List (List ℕ)). tokens_of wanted ++ ts) (sym (tokens_next rest bytes n here slash from slashless next))
    ∙ h

pub wanted_end : (wanted : List Wanted) (rest : List ℕ) (all : List (List ℕ)) → length rest ≤ 0 → tokens_of wanted ++ tokens rest ≡ all → tokens_of wanted ≡ all
wanted_end wanted rest all none h = sym (append-nil (tokens_of wanted)) ∙ ap (λ (ts : List (List ℕ)). tokens_of wanted ++ ts) (sym (tokens_end rest none)) ∙ h
