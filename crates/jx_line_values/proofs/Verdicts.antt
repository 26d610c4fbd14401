-- What is added for a line, by the verdict on its bytes and by what was found.
use Rattle.std.proofs.Common.{◌≡◌, ℕ, List, [], ◌∷◌, ◌++◌, map, Bool, true, false, refl, sym, ap, ◌∙◌}
use Rattle.std.specs.Prelude.{◌&&◌, not, Ok, Err, OnOk, Result, if◌then◌else◌, is_ok, flat_map}
use Rattle.std.specs.List.{AllZip}
use Rattle.jx_run.specs.declared.texts.settings.FrontMark.{FrontMark}
use Rattle.jx_run.specs.declared.texts.settings.Settings.{Settings}
use Rattle.jx_run.specs.declared.texts.verdict.Refusal.{Refusal}
use Rattle.jx_run.specs.declared.texts.verdict.Verdict.TheVariants as verdict
use Rattle.jx_run.specs.Elements.{Part, part}
use Rattle.jx_run.specs.Settings.{JudgedBy, a_text}
use Rattle.jx_run.specs.Text.{IsDocument}
use Rattle.jx_run.specs.Tree.{Tree}
use Rattle.jx_run.specs.Unclosed.{ends_open}
use Rattle.jx_run.proofs.Fronts.{plain}
use Rattle.jx_run.proofs.LawProofs.{Verdicts}
use Rattle.jx_run.proofs.OpenEnds.{element_shows}
use Rattle.jx_index.specs.declared.find_fault.FindFault.{FindFault}
use Rattle.jx_index.specs.declared.finder.Found.{Found}
use Rattle.jx_index.specs.Found.{found_of}
use Rattle.jx_index.specs.Leads.{led}
use Rattle.jx_index.specs.Pointers.{tokens}
use Rattle.jx_ndjson.specs.declared.judged_line.LineVerdict.{LineVerdict}
use Rattle.jx_ndjson.specs.declared.judged_line.LineVerdict.TheVariants.{Accepted, Refused, MayBeCut, Blank}
use Rattle.jx_ndjson.specs.Answers.{IsCut, are_blanks}
use Rattle.jx_ndjson.specs.Lines.{line}
use Rattle.jx_ndjson.proofs.Judging.{shows_by}
use Rattle.jx_line_values.specs.declared.task.LineValuesTask.{LineValuesTask}
use Rattle.jx_line_values.specs.Cells.{separator}
use Rattle.jx_line_values.specs.LineValues.{LineGiven, joined, none_given, pointers_of, told_of_found, told_of_verdict, value_bytes, values_given}
use Rattle.jx_line_values.specs.inside.Adding.{IsAdded, settings_with, told_of_all, written_of}

-- ---- results

pub on_ok_both : {A E : Type 0} {P Q S : Type 0} (r : Result A E) → (P → Q → S) → OnOk r P → OnOk r Q → OnOk r S
on_ok_both (Ok a) f p q = f p q
on_ok_both (Err e) f p q = tt

-- what is added where there is memory
pub on_ok_first : {A E X : Type 0} (r : Result A E) (x a b : X) → x ≡ (if is_ok r then a else b) → OnOk r (x ≡ a)
on_ok_first (Ok y) x a b h = h
on_ok_first (Err e) x a b h = tt

-- ---- the verdict

not_true : {A : Type 0} → false ≡ true → A
not_true h = absurd (cc)

-- where more of a line's value may follow, no line feed ends the line
opens : (more ended : Bool) → (more && not ended) ≡ true → (more ≡ true) × (ended ≡ false)
opens true true h = absurd (cc)
opens true false h = (refl, refl)
opens false ended h = absurd (cc)

-- where none may, and none ends it, the end shows
closed : (more ended : Bool) → (more && not ended) ≡ false → ended ≡ false → more ≡ false
closed true true h e = absurd (cc)
closed true false h e = absurd (cc)
closed false ended h e = refl

module _ (task : LineValuesTask) (mark : FrontMark) (number : ℕ) (bytes : List ℕ) (is_ended : Bool) (ready longer told retold : List ℕ) where
  abbrev here : Part
  here = part 0 bytes

  abbrev added : Type 0
  added = IsAdded task mark (line number here is_ended) ready longer told retold

  abbrev none_by : LineVerdict → LineGiven
  none_by v = none_given task (told_of_verdict task.skips_blank number v)

  abbrev limit : ℕ
  limit = task.settings.depth

  abbrev by : Settings
  by = settings_with task mark

  pub blank_added : are_blanks bytes ≡ true → longer ≡ ready ++ (none_by Blank).written → retold ≡ told ++ (none_by Blank).told → added
  blank_added blank w t = record { given = none_by Blank; is_given = record { verdict = Blank; is_verdict = blank; gives = refl }; written = w; telling = t }

  pub refused_added : (refusal : Refusal) → are_blanks bytes ≡ false → JudgedBy by 0 bytes (verdict.Refused refusal)
      → longer ≡ ready ++ (none_by (Refused refusal)).written → retold ≡ told ++ (none_by (Refused refusal)).told → added
  refused_added refusal filled judged w t = record {
    given = none_by (Refused refusal);
    is_given = record { verdict = Refused refusal; is_verdict = (filled, judged); gives = refl };
    written = w;
    telling = t;
  }

  pub cut_added : are_blanks bytes ≡ false → (tree : Tree) → IsDocument 0 bytes limit tree → (ends_open bytes && not is_ended) ≡ true → longer ≡ ready ++ (none_by MayBeCut).written
      → retold ≡ told ++ (none_by MayBeCut).told → added
  cut_added filled tree d may w t =
      let o = opens (ends_open bytes) is_ended may in
      let cut : IsCut (line number here is_ended) by =
      record { tree = tree; not_ended = o.1; is_text = plain by 0 bytes tree d; unclosed = (element_shows here limit tree d).1 o.0 } in
      record { given = none_by MayBeCut; is_given = record { verdict = MayBeCut; is_verdict = (filled, cut); gives = refl }; written = w; telling = t }

  -- ---- the values

  abbrev found_for : Tree → List ℕ → Result Found FindFault
  found_for tree pointer = found_of (led bytes tree (tokens pointer))

  found_are : (tree : Tree) (pointers : List (List ℕ)) (found : List (Result Found FindFault)) → AllZip (λ (pointer : List ℕ) (one : Result Found FindFault). one ≡ found_for tree pointer) pointers found
      → found ≡ map (found_for tree) pointers
  found_are tree [] [] h = refl
  found_are tree [] (one ∷ found) h = absurd h
  found_are tree (pointer ∷ pointers) [] h = absurd h
  found_are tree (pointer ∷ pointers) (one ∷ found) h =
      ap (λ (x : Result Found FindFault). x ∷ found) h.0 ∙ ap (λ (xs : List (Result Found FindFault)). found_for tree pointer ∷ xs) (found_are tree pointers found h.1)

  values_are : (tree : Tree) (pointers : List (List ℕ)) → map (value_bytes task bytes) (map (found_for tree) pointers) ≡ map (λ (pointer : List ℕ). value_bytes task bytes (found_for tree pointer)) pointers
  values_are tree [] = refl
  values_are tree (pointer ∷ pointers) = ap (λ (xs : List (List ℕ)). value_bytes task bytes (found_for tree pointer) ∷ xs) (values_are tree pointers)

  told_are : (tree : Tree) (pointers : List (List ℕ)) → told_of_all task.form number bytes pointers (map (found_for tree) pointers) ≡ flat_map (λ (pointer : List ℕ). told_of_found task.form number bytes pointer (found_for tree pointer)) pointers
  told_are tree [] = refl
  told_are tree (pointer ∷ pointers) = ap (λ (xs : List ℕ). told_of_found task.form number bytes pointer (found_for tree pointer) ++ xs) (told_are tree pointers)

  pub values_added : Verdicts → (found : List (Result Found FindFault)) → are_blanks bytes ≡ false → (tree : Tree) → IsDocument 0 bytes limit tree → (ends_open bytes && not is_ended) ≡ false
      → AllZip (λ (pointer : List ℕ) (one : Result Found FindFault). one ≡ found_for tree pointer) (pointers_of task) found → longer ≡ ready ++ written_of task bytes found
      → retold ≡ told ++ told_of_all task.form number bytes (pointers_of task) found → added
  values_added law found filled tree d shut finds w t =
      let are = found_are tree (pointers_of task) found finds in
      let uncut : IsCut (line number here is_ended) by → ⊥ =
      λ cut. not_true (sym (closed (ends_open bytes) is_ended shut cut.not_ended) ∙ (shows_by law by here cut.tree cut.is_text).0 cut.unclosed) in
      record {
        given = values_given task number bytes tree;
        is_given = record { verdict = Accepted; is_verdict = (filled, a_text (plain by 0 bytes tree d), uncut); gives = (tree, d, refl) };
        written =
            w
            ∙ ap (λ (fs : List (Result Found FindFault)). ready ++ written_of task bytes fs) are
            ∙ ap (λ (vs : List (List ℕ)). ready ++ (joined (separator task.form) vs ++ 10 ∷ [])) (values_are tree (pointers_of task));
        telling = t ∙ ap (λ (fs : List (Result Found FindFault)). told ++ told_of_all task.form number bytes (pointers_of task) fs) are ∙ ap (λ (xs : List ℕ). told ++ xs) (told_are tree (pointers_of task));
      }
