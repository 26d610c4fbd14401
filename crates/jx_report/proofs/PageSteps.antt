-- Lines of rows put together, page by page.
use Rattle.std.proofs.Common.{◌≡◌, ℕ, suc, ◌+◌, ◌≤◌, List, [], ◌∷◌, ◌++◌, length, take, drop, refl, sym, ap, subst, ◌∙◌, arith, append_assoc}
use Rattle.std.specs.Prelude.{Option}
use Rattle.std.specs.Io.KnownBytes.{Appends}
use Rattle.std.proofs.KnownBytes.{Appends-nil, Appends-trans}
use Rattle.std.proofs.lemmas.List.{drop-append-le, length-drop, length-take, length-take-le, take-append-drop, take-take}
use Rattle.std.proofs.Math.ListN.{drop_of_length-le}
use Rattle.jx_ends.specs.Ends.{AppendsBeginning}
use Rattle.jx_index.specs.declared.row.Row.{Row}
use Rattle.jx_report.specs.RowWords.{row_words, row_lines}
use Rattle.jx_report.specs.inside.Pages.{AreWritten, lines_between, lines_from}
use Rattle.jx_words.specs.Words.{line}
use Rattle.jx_words.specs.inside.Room.{IsPut}
use Rattle.jx_words.proofs.PutSteps.{put_in_part, put_more}

-- ---- the lines

-- those of two lists of rows, one after the other
lines-append : (number : ℕ) (xs ys : List Row) → row_lines number (xs ++ ys) ≡ row_lines number xs ++ row_lines (number + length xs) ys
unfolding row_lines
lines-append number [] ys = let on : number ≡ number + 0 = omega arith in ap (λ (n : ℕ). row_lines n ys) on
lines-append number (x ∷ xs) ys =
    let on : suc number + length xs ≡ number + suc (length xs) = omega arith in
    ap (λ (s : List ℕ). line (row_words number x) ++ s) (lines-append (suc number) xs ys ∙ ap (λ (n : ℕ). row_lines (suc number) xs ++ row_lines n ys) on)
    ∙ sym (append_assoc (line (row_words number x)) (row_lines (suc number) xs) (row_lines (number + suc (length xs)) ys))

-- those up to a row, and then those from it on
pub then_the_rest : (rows : List Row) (first next : ℕ) → first ≤ next → next ≤ length rows → lines_between rows first next ++ lines_from rows next ≡ lines_from rows first
then_the_rest rows first next ordered within =
    let front : List Row = take next rows in
    let long : length front ≡ next = length-take-le next rows within in
    let count : first + length (drop first front) ≡ next = omega (arith, length-drop first front) in
    ap (λ (n : ℕ). row_lines first (drop first front) ++ row_lines n (drop next rows)) (sym count)
    ∙ sym (lines-append first (drop first front) (drop next rows))
    ∙ ap (row_lines first) (sym (drop-append-le first front (drop next rows) (omega arith)) ∙ ap (drop first) (take-append-drop next rows))

-- those up to a row, and then those up to another
then_more : (rows : List Row) (first next last : ℕ) → first ≤ next → next ≤ last → last ≤ length rows → lines_between rows first next ++ lines_between rows next last ≡ lines_between rows first last
then_more rows first next last ordered later within =
    let low : next ≤ length (take last rows) = omega (arith, length-take-le last rows within) in
    ap (λ (xs : List Row). lines_from xs first ++ lines_between rows next last) (sym (take-take next last rows later)) ∙ then_the_rest (take last rows) first next ordered low

pub none_between : (rows : List Row) (at : ℕ) → lines_between rows at at ≡ []
unfolding row_lines
none_between rows at = ap (row_lines at) (drop_of_length-le (take at rows) (omega (arith, length-take at rows)))

-- ---- what the writer got

pub nothing_written : (rows : List Row) (a : Option (List ℕ)) (at : ℕ) → at ≤ length rows → AreWritten rows a a at at
nothing_written rows a at within = record {
  ordered = omega arith;
  within = within;
  wrote = subst (λ (xs : List ℕ). Appends a a xs) (sym (none_between rows at)) (Appends-nil a);
}

-- what was written, and a beginning of what comes then
pub behind_written : (a b c : Option (List ℕ)) (done part : List ℕ) → Appends a b done → AppendsBeginning b c part → AppendsBeginning a c (done ++ part)
behind_written a b c done part wrote failed =
    let put : IsPut a b part (done ++ part) = record { front = done; wrote = wrote; whole = refl } in put_in_part a b part (done ++ part) put c failed

module _ (rows : List Row) (a b c : Option (List ℕ)) (first next : ℕ) (w : AreWritten rows a b first next) where
  pub written_on : (last : ℕ) → AreWritten rows b c next last → AreWritten rows a c first last
  written_on last v = record {
    ordered = omega (arith, w.ordered, v.ordered);
    within = v.within;
    wrote =
        subst (λ (xs : List ℕ). Appends a c xs) (then_more rows first next last w.ordered v.ordered v.within)
        (Appends-trans a b c (lines_between rows first next) (lines_between rows next last) w.wrote v.wrote);
  }

  pub fails_later : AppendsBeginning b c (lines_from rows next) → AppendsBeginning a c (lines_from rows first)
  fails_later failed =
      subst (AppendsBeginning a c) (then_the_rest rows first next w.ordered w.within)
      (behind_written a b c (lines_between rows first next) (lines_from rows next) w.wrote failed)

-- what waits, once the lines from the next row on are to come
pub put_then_rest : (rows : List Row) (a b : Option (List ℕ)) (before waiting : List ℕ) (next : ℕ) → next ≤ length rows
    → IsPut a b waiting (before ++ lines_between rows 0 next) → IsPut a b (waiting ++ lines_from rows next) (before ++ row_lines 0 rows)
put_then_rest rows a b before waiting next within put =
    subst (IsPut a b (waiting ++ lines_from rows next))
    (append_assoc before (lines_between rows 0 next) (lines_from rows next) ∙ ap (λ (xs : List ℕ). before ++ xs) (then_the_rest rows 0 next (omega arith) within))
    (put_more a b waiting (before ++ lines_between rows 0 next) put (waiting ++ lines_from rows next) (lines_from rows next) refl)
