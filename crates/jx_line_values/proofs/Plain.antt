-- Lines without a message are given alike whatever their number, and their rows follow what waits.
use Rattle.std.proofs.Common.{◌≡◌, ℕ, zero, suc, ◌+◌, ◌<◌, List, [], ◌∷◌, ◌++◌, length, Bool, true, false, refl, sym, ap, subst, ◌∙◌, append_assoc, append-nil, arith}
use Rattle.std.specs.Prelude.{Result, Ok, Err, codes, flat_map, if◌then◌else◌, slice_range}
use Rattle.jx_run.specs.declared.texts.settings.FrontMark.{FrontMark}
use Rattle.jx_run.specs.declared.texts.settings.FrontMark.TheVariants as on_mark
use Rattle.jx_run.specs.declared.texts.settings.Settings.{Settings}
use Rattle.jx_run.specs.Elements.{part}
use Rattle.jx_run.specs.Tree.{Tree}
use Rattle.jx_index.specs.declared.find_fault.FindFault.{FindFault}
use Rattle.jx_index.specs.declared.finder.Found.{Found}
use Rattle.jx_index.specs.Found.{found_of}
use Rattle.jx_index.specs.Leads.{led}
use Rattle.jx_index.specs.Pointers.{tokens}
use Rattle.jx_ndjson.specs.declared.judged_line.LineVerdict.{LineVerdict}
use Rattle.jx_ndjson.specs.declared.judged_line.LineVerdict.TheVariants.{Accepted, Refused, MayBeCut, Blank}
use Rattle.jx_ndjson.specs.Answers.{IsVerdictOn}
use Rattle.jx_ndjson.specs.Lines.{line}
use Rattle.jx_ndjson.specs.inside.Steps.{HasNoLineFeed}
use Rattle.jx_line_values.specs.declared.row_form.RowForm.{RowForm}
use Rattle.jx_line_values.specs.declared.task.LineValuesTask.{LineValuesTask}
use Rattle.jx_line_values.specs.Cells.{lacks_text}
use Rattle.jx_line_values.specs.LineValues.{GivesBy, LineGiven, none_given, pointers_of, told_of_found, told_of_verdict, told_words, values_given}
use Rattle.jx_line_values.specs.inside.Adding.{IsAdded, settings_with}
use Rattle.jx_line_values.specs.inside.Cutting.{CutterValue, HasTaken, line_bytes, line_mark}
use Rattle.jx_line_values.specs.inside.RowsPart.{ArePlain, IsPlainLine, nothing, one_more}
use Rattle.jx_line_values.proofs.Cuts.{ends_line, takes_more}
use Rattle.jx_line_values.proofs.InFront.{later_bytes}
use Rattle.jx_line_values.proofs.Marks.{later_mark}

-- ---- a message is not empty

not_none : (xs ys : List ℕ) → 0 < length xs → xs ++ ys ≡ [] → ⊥
not_none [] ys some h = omega (arith, some)
not_none (x ∷ xs) ys some h = cc

words_there : (number : ℕ) (words : List ℕ) → told_words number words ≡ [] → ⊥
words_there number words h = let five : length (codes "line ") ≡ 5 = refl in not_none (codes "line ") _ (omega (arith, five)) h

-- ---- so no message is on a line with another number

untold_one : (form : RowForm) (m n : ℕ) (bytes pointer : List ℕ) (found : Result Found FindFault) → told_of_found form m bytes pointer found ≡ [] → told_of_found form n bytes pointer found ≡ []
untold_one form m n bytes pointer (Ok found) h = pick (lacks_text form found.kind (slice_range bytes found.span.start found.span.end)) _ _ h
  where
    pick : (b : Bool) (mw nw : List ℕ) → (if b then told_words m mw else []) ≡ [] → (if b then told_words n nw else []) ≡ []
    pick true mw nw e = absurd (words_there m mw e)
    pick false mw nw e = refl
untold_one form m n bytes pointer (Err fault) h = absurd (words_there m _ h)

none_left : (xs ys : List ℕ) → xs ++ ys ≡ [] → xs ≡ []
none_left [] ys h = refl
none_left (x ∷ xs) ys h = absurd (cc)

none_right : (xs ys : List ℕ) → xs ++ ys ≡ [] → ys ≡ []
none_right [] ys h = h
none_right (x ∷ xs) ys h = absurd (cc)

untold : (form : RowForm) (m n : ℕ) (bytes : List ℕ) (tree : Tree) (pointers : List (List ℕ))
    → flat_map (λ (pointer : List ℕ). told_of_found form m bytes pointer (found_of (led bytes tree (tokens pointer)))) pointers ≡ []
    → flat_map (λ (pointer : List ℕ). told_of_found form n bytes pointer (found_of (led bytes tree (tokens pointer)))) pointers ≡ []
untold form m n bytes tree [] h = refl
untold form m n bytes tree (p ∷ ps) h =
    let found : Result Found FindFault = found_of (led bytes tree (tokens p)) in
    let one : told_of_found form n bytes p found ≡ [] = untold_one form m n bytes p found (none_left (told_of_found form m bytes p found) _ h) in
    let more = untold form m n bytes tree ps (none_right (told_of_found form m bytes p found) _ h) in
    ap (λ (xs : List ℕ). xs ++ flat_map (λ (pointer : List ℕ). told_of_found form n bytes pointer (found_of (led bytes tree (tokens pointer)))) ps) one ∙ more

abbrev line_given : List ℕ → List ℕ → LineGiven
line_given written told = record { written = written; told = told }

same_given : (w v t s : List ℕ) → w ≡ v → t ≡ s → line_given w t ≡ line_given v s
same_given w v t s e f = ap (λ (x : List ℕ). line_given x t) e ∙ ap (λ (x : List ℕ). line_given v x) f

renumbered : (settings : Settings) (m n : ℕ) (bytes : List ℕ) (v : LineVerdict) → IsVerdictOn (line m (part 0 bytes) true) settings v → IsVerdictOn (line n (part 0 bytes) true) settings v
renumbered settings m n bytes Accepted h = (h.0, h.1, λ cut. h.2 (record { tree = cut.tree; not_ended = cut.not_ended; is_text = cut.is_text; unclosed = cut.unclosed }))
renumbered settings m n bytes (Refused refusal) h = h
renumbered settings m n bytes MayBeCut h = (h.0, record { tree = h.1.tree; not_ended = h.1.not_ended; is_text = h.1.is_text; unclosed = h.1.unclosed })
renumbered settings m n bytes Blank h = h

given_anew : (task : LineValuesTask) (m n : ℕ) (bytes : List ℕ) (v : LineVerdict) (g : LineGiven) → GivesBy task (line m (part 0 bytes) true) v g → g.told ≡ []
    → GivesBy task (line n (part 0 bytes) true) v (line_given g.written [])
given_anew task m n bytes Accepted g h quiet =
    let tree : Tree = h.0 in
    let told : flat_map (λ (pointer : List ℕ). told_of_found task.form m bytes pointer (found_of (led bytes tree (tokens pointer)))) (pointers_of task) ≡ [] = sym (ap (λ (x : LineGiven). x.told) h.2) ∙ quiet in
    (tree, h.1, same_given _ _ _ _ (ap (λ (x : LineGiven). x.written) h.2) (sym (untold task.form m n bytes tree (pointers_of task) told)))
given_anew task m n bytes (Refused refusal) g h quiet = absurd (words_there m _ (sym (ap (λ (x : LineGiven). x.told) h) ∙ quiet))
given_anew task m n bytes MayBeCut g h quiet = absurd (words_there m (codes "may be cut") (sym (ap (λ (x : LineGiven). x.told) h) ∙ quiet))
given_anew task m n bytes Blank g h quiet = same_given _ _ _ _ (ap (λ (x : LineGiven). x.written) h) (pick task.skips_blank (sym (ap (λ (x : LineGiven). x.told) h) ∙ quiet))
  where
    pick : (b : Bool) → (if b then [] else told_words m (codes "blank")) ≡ [] → [] ≡ (if b then [] else told_words n (codes "blank"))
    pick true e = refl
    pick false e = absurd (words_there m (codes "blank") e)

pub plain_of : (task : LineValuesTask) (m : ℕ) (bytes row told : List ℕ) → IsAdded task on_mark.Refused (line m (part 0 bytes) true) [] row [] told → told ≡ [] → IsPlainLine task bytes row
plain_of task m bytes row told h quiet = λ n.
    let k = h.is_given in
    let none : h.given.told ≡ [] = sym h.telling ∙ quiet in
    record {
      verdict = k.verdict;
      is_verdict = renumbered (settings_with task on_mark.Refused) m n bytes k.verdict k.is_verdict;
      gives =
          subst (λ (w : List ℕ). GivesBy task (line n (part 0 bytes) true) k.verdict (line_given w [])) (sym h.written)
          (given_anew task m n bytes k.verdict h.given k.gives none);
    }

-- ---- rows behind what waits

-- one line behind others
line_taken : (task : LineValuesTask) (bytes bare row given said : List ℕ) (old new : CutterValue) → HasTaken task bytes given said old → HasNoLineFeed bare → IsPlainLine task bare row → 0 < old.ended
    → old.kept ≡ [] → new.kept ≡ [] → new.ended ≡ suc old.ended → new.ready ≡ old.ready ++ row → new.told ≡ old.told → new.exit ≡ old.exit
    → HasTaken task ((bytes ++ bare) ++ 0x0a ∷ []) given said new
line_taken task bytes bare row given said old new h unfed plain behind none kept ended ready told exit =
    let longer : CutterValue = record { kept = bare; ended = old.ended; ready = old.ready; told = old.told; exit = old.exit } in
    let taken : HasTaken task (bytes ++ bare) given said longer = takes_more task bytes bare given said old longer h unfed (sym (ap (λ (xs : List ℕ). xs ++ bare) none)) refl refl refl refl in
    let added : IsAdded task on_mark.Refused (line (suc old.ended) (part 0 bare) true) old.ready new.ready old.told new.told =
    record { given = record { written = row; told = [] }; is_given = plain (suc old.ended); written = ready; telling = told ∙ sym (append-nil old.told) } in
    ends_line task (bytes ++ bare) given said (suc old.ended) longer new taken refl
    (subst (λ (m : FrontMark). IsAdded task m (line (suc old.ended) (part 0 (line_bytes task.settings.mark old.ended bare)) true) old.ready new.ready old.told new.told)
    (sym (later_mark task.settings.mark old.ended bare behind))
    (subst (λ (xs : List ℕ). IsAdded task on_mark.Refused (line (suc old.ended) (part 0 xs) true) old.ready new.ready old.told new.told) (sym (later_bytes task.settings.mark old.ended bare behind)) added))
    kept ended exit

pub rows_taken : (task : LineValuesTask) (ys : List ℕ) (count : ℕ) (rows : List ℕ) → ArePlain task ys count rows → (bytes given said : List ℕ) (old new : CutterValue) → HasTaken task bytes given said old
    → 0 < old.ended → old.kept ≡ [] → new.kept ≡ [] → new.ended ≡ old.ended + count → new.ready ≡ old.ready ++ rows → new.told ≡ old.told → new.exit ≡ old.exit
    → HasTaken task (bytes ++ ys) given said new
rows_taken task _ _ _ nothing bytes given said old new h behind none kept ended ready told exit =
    let same : new.ended ≡ old.ended = omega (arith, ended) in
    takes_more task bytes [] given said old new h refl (kept ∙ sym (append-nil old.kept ∙ none)) same (ready ∙ append-nil old.ready) told exit
rows_taken task _ _ _ (one_more ys bare rows row count p unfed plain) bytes given said old new h behind none kept ended ready told exit =
    let mid : CutterValue = record { kept = []; ended = old.ended + count; ready = old.ready ++ rows; told = old.told; exit = old.exit } in
    let before : HasTaken task (bytes ++ ys) given said mid = rows_taken task ys count rows p bytes given said old mid h behind none refl refl refl refl refl in
    let later : 0 < old.ended + count = omega (arith, behind) in
    let next : new.ended ≡ suc (old.ended + count) = omega (arith, ended) in
    subst (λ (xs : List ℕ). HasTaken task xs given said new)
    (ap (λ (xs : List ℕ). xs ++ 0x0a ∷ []) (append_assoc bytes ys bare) ∙ append_assoc bytes (ys ++ bare) (0x0a ∷ []))
    (line_taken task (bytes ++ ys) bare row given said mid new before unfed plain later refl kept next (ready ∙ sym (append_assoc old.ready rows row)) told exit)
