-- Lines without the blank ones behind the first blank one.
use Rattle.std.proofs.Common.{◌≡◌, ℕ, ◌+◌, ◌<◌, Bool, List, [], ◌∷◌, ◌++◌, true, false, drop, length, get_or, cond, sym, ap, ◌∙◌, append_assoc}
use Rattle.std.specs.Prelude.{◌&&◌, ◌||◌}
use Rattle.std.proofs.lemmas.List.{at_drop_more}
use Rattle.jx_ndjson.specs.declared.judged_line.JudgedLine.{JudgedLine}
use Rattle.jx_serve.specs.LineMarks.{is_blank, marked}

pub passed_over : (seen : Bool) (lines out all : List JudgedLine) (i : ℕ) (d : JudgedLine) → i < length lines → (seen && is_blank (get_or lines i d).verdict) ≡ true
    → out ++ marked seen (drop i lines) ≡ all → out ++ marked seen (drop (i + 1) lines) ≡ all
passed_over seen lines out all i d h both before =
    let line : JudgedLine = get_or lines i d in
    let rest : Bool → List JudgedLine = λ x. marked x (drop (i + 1) lines) in
    let same : marked seen (drop i lines) ≡ rest seen =
    at_drop_more (marked seen) lines i d h ∙ ap (λ (x : Bool). cond x (rest seen) (line ∷ rest (seen || is_blank line.verdict))) both in
    ap (λ (l : List JudgedLine). out ++ l) (sym same) ∙ before

pub put_on : (seen blank : Bool) (lines out longer all : List JudgedLine) (i : ℕ) (d : JudgedLine) → i < length lines → (seen && is_blank (get_or lines i d).verdict) ≡ false
    → blank ≡ is_blank (get_or lines i d).verdict → longer ≡ out ++ get_or lines i d ∷ [] → out ++ marked seen (drop i lines) ≡ all
    → longer ++ marked (seen || blank) (drop (i + 1) lines) ≡ all
put_on seen blank lines out longer all i d h none b more before =
    let line : JudgedLine = get_or lines i d in
    let rest : Bool → List JudgedLine = λ x. marked x (drop (i + 1) lines) in
    let same : marked seen (drop i lines) ≡ line ∷ rest (seen || is_blank line.verdict) =
    at_drop_more (marked seen) lines i d h ∙ ap (λ (x : Bool). cond x (rest seen) (line ∷ rest (seen || is_blank line.verdict))) none in
    ap (λ (l : List JudgedLine). l ++ rest (seen || blank)) more
    ∙ append_assoc out (line ∷ []) (rest (seen || blank))
    ∙ ap (λ (x : Bool). out ++ (line ∷ rest (seen || x))) b
    ∙ ap (λ (l : List JudgedLine). out ++ l) (sym same) ∙ before
