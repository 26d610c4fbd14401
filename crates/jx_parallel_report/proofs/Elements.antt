-- What is told of elements, one behind another.
use Rattle.std.proofs.Common.{◌≡◌, ◌+◌, ◌<◌, ◌≤◌, ℕ, suc, List, [], ◌∷◌, ◌++◌, Bool, true, false, refl, sym, ap, ◌∙◌, append-nil, append_assoc, arith, drop, drop-cons, get_or, length}
use Rattle.std.proofs.Math.ListN.{drop_of_length-le}
use Rattle.std.specs.Prelude.{flat_map}
use Rattle.std.proofs.lemmas.Grind.{flat_map-append}
use Rattle.jx_run.specs.declared.sequences.element_verdict.ElementVerdict.{ElementVerdict}
use Rattle.jx_run.specs.declared.sequences.element_verdict.ElementVerdict.TheVariants as element
use Rattle.jx_run.specs.declared.sequences.element_verdict.JudgedElement.{JudgedElement}
use Rattle.jx_ends.specs.declared.exit.Exit.{Exit}
use Rattle.jx_ends.specs.declared.exit.Exit.TheVariants.{Good, Bad}
use Rattle.jx_report.specs.Elements.{exit_past_judged, exit_past_verdict}
use Rattle.jx_words.specs.Verdicts.{shown_output}
use Rattle.jx_ndjson_report.specs.Elements.{element_line}
use Rattle.jx_parallel_report.specs.inside.Elements.{IsToldOf, exit_by}

-- ---- the exit

bad_stays : (v : ElementVerdict) → exit_past_verdict Bad v ≡ Bad
bad_stays element.Accepted = refl
bad_stays (element.Refused refusal) = refl
bad_stays element.MayBeCut = refl
bad_stays element.Unmarked = refl

all_bad : (js : List JudgedElement) → exit_past_judged Bad js ≡ Bad
unfolding exit_past_judged
all_bad [] = refl
all_bad (j ∷ js) = ap (λ (x : Exit). exit_past_judged x js) (bad_stays j.verdict) ∙ all_bad js

exit_behind : (exit : Exit) (js : List JudgedElement) → exit_past_judged exit js ≡ exit_by exit (exit_past_judged Good js)
exit_behind Good js = refl
exit_behind Bad js = all_bad js

exit_append : (exit : Exit) (js ks : List JudgedElement) → exit_past_judged exit (js ++ ks) ≡ exit_past_judged (exit_past_judged exit js) ks
unfolding exit_past_judged
exit_append exit [] ks = refl
exit_append exit (j ∷ js) ks = exit_append (exit_past_verdict exit j.verdict) js ks

exit_one : (exit : Exit) (j : JudgedElement) → exit_past_judged exit (j ∷ []) ≡ exit_past_verdict exit j.verdict
unfolding exit_past_judged
exit_one exit j = refl

exit_none : exit_past_judged Good [] ≡ Good
unfolding exit_past_judged
exit_none = refl

-- ---- the lines

shown_append : (q : Bool) (js ks : List JudgedElement)
    → shown_output q (flat_map (element_line []) (js ++ ks)) ≡ shown_output q (flat_map (element_line []) js) ++ shown_output q (flat_map (element_line []) ks)
shown_append true js ks = refl
shown_append false js ks = flat_map-append (element_line []) js ks

shown_one : (q : Bool) (j : JudgedElement) → shown_output q (flat_map (element_line []) (j ∷ [])) ≡ shown_output q (element_line [] j)
shown_one true j = refl
shown_one false j = append-nil (element_line [] j)

-- ---- both

pub told_none : (q : Bool) → IsToldOf q [] [] Good
told_none true = record { words_are = refl; exit_is = sym exit_none }
told_none false = record { words_are = refl; exit_is = sym exit_none }

pub told_one : (q : Bool) (js : List JudgedElement) (j : JudgedElement) (words more : List ℕ) (exit next : Exit) → IsToldOf q js words exit
    → more ≡ words ++ shown_output q (element_line [] j) → next ≡ exit_past_verdict exit j.verdict → IsToldOf q (js ++ j ∷ []) more next
told_one q js j words more exit next told longer past =
    record {
      words_are =
          longer
          ∙ ap (λ (xs : List ℕ). xs ++ shown_output q (element_line [] j)) told.words_are
          ∙ ap (λ (xs : List ℕ). shown_output q (flat_map (element_line []) js) ++ xs) (sym (shown_one q j))
          ∙ sym (shown_append q js (j ∷ []));
      exit_is = past ∙ ap (λ (x : Exit). exit_past_verdict x j.verdict) told.exit_is ∙ sym (exit_one (exit_past_judged Good js) j) ∙ sym (exit_append Good js (j ∷ []));
    }

pub told_all : (q : Bool) (js ks : List JudgedElement) (words more both : List ℕ) (exit other next : Exit) → IsToldOf q js words exit → IsToldOf q ks more other
    → both ≡ words ++ more → next ≡ exit_by exit other → IsToldOf q (js ++ ks) both next
told_all q js ks words more both exit other next told behind longer past =
    record {
      words_are =
          longer
          ∙ ap (λ (xs : List ℕ). xs ++ more) told.words_are
          ∙ ap (λ (xs : List ℕ). shown_output q (flat_map (element_line []) js) ++ xs) behind.words_are
          ∙ sym (shown_append q js ks);
      exit_is =
          past
          ∙ ap (λ (x : Exit). exit_by x other) told.exit_is
          ∙ ap (λ (x : Exit). exit_by (exit_past_judged Good js) x) behind.exit_is
          ∙ sym (exit_behind (exit_past_judged Good js) ks)
          ∙ sym (exit_append Good js ks);
    }

-- ---- loops over elements

module _ (i : ℕ) (elements : List JudgedElement) where
  pub lines_step : (element d : JudgedElement) (out next : List ℕ) → i < length elements → element ≡ get_or elements i d
      → next ≡ out ++ element_line [] element → next ++ flat_map (element_line []) (drop (i + 1) elements) ≡ out ++ flat_map (element_line []) (drop i elements)
  lines_step element d out next h is e =
      let rest : List ℕ = flat_map (element_line []) (drop (suc i) elements) in
      ap (λ (n : ℕ). next ++ flat_map (element_line []) (drop n elements)) (let s : i + 1 ≡ suc i = omega arith in s)
      ∙ ap (λ x. x ++ rest) (e ∙ ap (λ (x : JudgedElement). out ++ element_line [] x) is)
      ∙ append_assoc out (element_line [] (get_or elements i d)) rest
      ∙ sym (ap (λ (x : List JudgedElement). out ++ flat_map (element_line []) x) (drop-cons elements i d h))

  pub lines_done : (out : List ℕ) → length elements ≤ i → out ++ flat_map (element_line []) (drop i elements) ≡ out
  lines_done out h = ap (λ (x : List JudgedElement). out ++ flat_map (element_line []) x) (drop_of_length-le elements h) ∙ append-nil out

  pub exit_step : (element d : JudgedElement) (exit next : Exit) → i < length elements → element ≡ get_or elements i d
      → next ≡ exit_past_verdict exit element.verdict → exit_past_judged next (drop (i + 1) elements) ≡ exit_past_judged exit (drop i elements)
  unfolding exit_past_judged
  exit_step element d exit next h is e =
      ap (λ (n : ℕ). exit_past_judged next (drop n elements)) (let s : i + 1 ≡ suc i = omega arith in s)
      ∙ ap (λ x. exit_past_judged x (drop (suc i) elements)) (e ∙ ap (λ (x : JudgedElement). exit_past_verdict exit x.verdict) is)
      ∙ sym (ap (λ (x : List JudgedElement). exit_past_judged exit x) (drop-cons elements i d h))

  pub exit_done : (exit : Exit) → length elements ≤ i → exit_past_judged exit (drop i elements) ≡ exit
  unfolding exit_past_judged
  exit_done exit h = ap (λ (x : List JudgedElement). exit_past_judged exit x) (drop_of_length-le elements h)
