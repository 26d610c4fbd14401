-- Steps of loops over a pointer's tokens.
use Rattle.std.proofs.Common.{◌≡◌, ℕ, ◌+◌, ◌-◌, ◌*◌, ◌<◌, ◌≤◌, List, [], ◌∷◌, ◌++◌, length, take, drop, append_assoc, refl, sym, ap, ◌∙◌, arith}
use Rattle.std.proofs.lemmas.List.{append-nil}
use Rattle.jx_index.specs.declared.units.Spelling.TheVariants.{InToken}
use Rattle.jx_index.specs.ArrayTokens.{value_after}
use Rattle.jx_index.specs.Pointers.{HasNoSlash, HasSlash, tokens}
use Rattle.jx_index.specs.Units.{chars_units}
use Rattle.jx_index.proofs.TokenSteps.{tokens_end, tokens_next}
use Rattle.jx_each.specs.declared.token.Token.{Token}
use Rattle.jx_each.specs.inside.Paths.{path_of, units_of}

-- ---- tokens

paths_join : (xs ys : List Token) → path_of (xs ++ ys) ≡ path_of xs ++ path_of ys
paths_join [] ys = refl
paths_join (x ∷ xs) ys = ap (λ (l : List (List ℕ)). units_of x ∷ l) (paths_join xs ys)

pub path_end : (path : List Token) (rest : List ℕ) (all : List (List ℕ)) → length rest ≤ 0 → path_of path ++ tokens rest ≡ all → path_of path ≡ all
path_end path rest all none h = sym (append-nil (path_of path)) ∙ ap (λ (l : List (List ℕ)). path_of path ++ l) (sym (tokens_end rest none)) ∙ h

pub path_step : (path longer : List Token) (token : Token) (rest bytes left : List ℕ) (n : ℕ) (all : List (List ℕ)) → 0 < length rest → HasSlash rest → bytes ≡ drop 1 rest → HasNoSlash (take n bytes) → HasSlash (drop n bytes)
    → units_of token ≡ chars_units InToken 0 (take n bytes) → left ≡ drop n bytes → longer ≡ path ++ token ∷ []
    → path_of path ++ tokens rest ≡ all → path_of longer ++ tokens left ≡ all
path_step path longer token rest bytes left n all some slash is none next units l more h =
    ap (λ (x : List Token). path_of x ++ tokens left) more
    ∙ ap (λ (x : List (List ℕ)). x ++ tokens left) (paths_join path (token ∷ []))
    ∙ append_assoc (path_of path) (units_of token ∷ []) (tokens left)
    ∙ ap (λ (x : List ℕ). path_of path ++ x ∷ tokens left) units
    ∙ ap (λ (x : List ℕ). path_of path ++ chars_units InToken 0 (take n bytes) ∷ tokens x) l
    ∙ ap (λ (x : List (List ℕ)). path_of path ++ x) (sym (tokens_next rest bytes n some slash is none next))
    ∙ h

-- ---- numbers

pub no_less : (n : ℕ) (units : List ℕ) → n ≤ value_after n units
no_less n [] = omega arith
no_less n (unit ∷ units) = let le : n * 10 + (unit - 0x30) ≤ value_after (n * 10 + (unit - 0x30)) units = no_less (n * 10 + (unit - 0x30)) units in omega (arith, le)
